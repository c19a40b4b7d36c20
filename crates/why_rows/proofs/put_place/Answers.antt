-- `put_place` meets its contract: its parts one behind the other. Assumes nothing.
use Rattle.unanswered_rows.proofs.Joining.{on_then}
use Rattle.why_rows.specs.Rows.{place_text}
use Rattle.why_rows.proofs.put_place.Goals as goal

pub returns : goal.returns
unfolding place_text
returns c = on_then c.put_number.ensures c.put_text.ensures
