-- `put_piece` meets its contract: its parts one behind the other. Assumes nothing.
use Rattle.unanswered_rows.proofs.Joining.{on_then}
use Rattle.why_rows.specs.Names.{piece_text}
use Rattle.why_rows.proofs.name.put_piece.Goals as goal

pub returns : goal.returns
unfolding piece_text
returns c = on_then c.put_number.ensures c.put_text.ensures
