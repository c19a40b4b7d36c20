-- `put_waits` meets its contract: when, then what. Assumes nothing.
use Rattle.unanswered_rows.proofs.Joining.{on_then, on_put}
use Rattle.unanswered_rows.specs.Rows.{waits_row}
use Rattle.unanswered_rows.proofs.put_waits.Goals as goal

pub returns : goal.returns
unfolding waits_row
returns c = on_put (on_then c.put_when.ensures c.put_four.ensures)
