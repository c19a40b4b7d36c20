-- `put_others` meets its contract: its parts one behind the other. Assumes nothing.
use Rattle.unanswered_rows.proofs.Joining.{on_then}
use Rattle.unanswered_rows.specs.Rows.{others_text}
use Rattle.unanswered_rows.proofs.put_others.Goals as goal

pub returns : goal.returns
unfolding others_text
returns c = on_then c.put_number.ensures (on_then c.put_number-2.ensures (on_then c.put_number-3.ensures c.put_text.ensures))
