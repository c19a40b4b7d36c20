-- `put_totals` meets its contract: its parts one behind the other. Assumes nothing.
use Rattle.unanswered_rows.proofs.Joining.{on_then, on_put}
use Rattle.why_rows.specs.Rows.{totals_text}
use Rattle.why_rows.proofs.put_totals.Goals as goal

pub returns : goal.returns
unfolding totals_text
returns c = on_put (on_then c.put_number.ensures (on_then c.put_number-2.ensures (on_then c.put_number-3.ensures c.put_reasons.ensures)))
