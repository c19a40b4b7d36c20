-- `put_four` meets its contract: its parts one behind the other. Assumes nothing.
use Rattle.unanswered_rows.proofs.Joining.{on_then}
use Rattle.unanswered_rows.specs.Rows.{four_text}
use Rattle.unanswered_rows.proofs.put_four.Goals as goal

pub returns : goal.returns
unfolding four_text
returns c = on_then c.put_number.ensures (on_then c.put_text.ensures (on_then c.put_route.ensures (on_then c.put_number-2.ensures c.put_way.ensures)))
