-- `put_reasons` meets its contract: its parts one behind the other. Assumes nothing.
use Rattle.unanswered_rows.proofs.Joining.{on_then}
use Rattle.why_rows.specs.Rows.{reasons_text}
use Rattle.why_rows.proofs.put_reasons.Goals as goal

pub returns : goal.returns
unfolding reasons_text
returns c = on_then c.put_number.ensures (on_then c.put_number-2.ensures (on_then c.put_number-3.ensures c.put_text.ensures))
