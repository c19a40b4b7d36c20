-- `put_head` meets its contract: its parts one behind the other. Assumes nothing.
use Rattle.unanswered_rows.proofs.Joining.{on_then}
use Rattle.why_rows.specs.Rows.{head_text}
use Rattle.why_rows.proofs.put_head.Goals as goal

pub returns : goal.returns
unfolding head_text
returns c = on_then c.put_number.ensures (on_then c.put_text.ensures (on_then c.put_name.ensures c.put_text-2.ensures))
