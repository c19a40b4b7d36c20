-- `put_row` meets its contract: its parts one behind the other; a bad digit is in the text, so there is room for its mark. Assumes nothing.
use Rattle.why_rows.proofs.Rowing.{on_behind}
use Rattle.why_rows.specs.Rows.{row_text}
use Rattle.why_rows.proofs.put_row.Goals as goal

pub returns : goal.returns
unfolding row_text
returns c = on_behind c.put_head.ensures (on_behind c.put_reason.ensures (on_behind c.put_shown.ensures c.put_caret.ensures))
