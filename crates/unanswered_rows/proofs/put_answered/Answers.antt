-- `put_answered` meets its contract: its parts one behind the other. Assumes nothing.
use Rattle.unanswered_rows.proofs.Joining.{number_first, on_then, on_put}
use Rattle.unanswered_rows.specs.Rows.{answered_row}
use Rattle.unanswered_rows.proofs.put_answered.Goals as goal

pub returns : goal.returns
unfolding answered_row
returns c = on_put (number_first _ c.put_number.ensures (on_then c.put_number-2.ensures (on_then c.put_gap.ensures c.put_text.ensures)))
