-- `put_when` meets its contract: its parts one behind the other. Assumes nothing.
use Rattle.unanswered_rows.proofs.Joining.{on_then}
use Rattle.unanswered_rows.specs.Rows.{when_text}
use Rattle.unanswered_rows.proofs.put_when.Goals as goal

pub returns : goal.returns
unfolding when_text
returns c = on_then c.put_number.ensures (on_then c.put_number-2.ensures (on_then c.put_text.ensures c.put_six.ensures))
