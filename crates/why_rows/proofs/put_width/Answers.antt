-- `put_width` meets its contract: its parts one behind the other. Assumes nothing.
use Rattle.unanswered_rows.proofs.Joining.{on_then}
use Rattle.why_rows.specs.Rows.{width_text}
use Rattle.why_rows.proofs.put_width.Goals as goal

pub returns : goal.returns
unfolding width_text
returns c = on_then c.put_number.ensures c.put_text.ensures
