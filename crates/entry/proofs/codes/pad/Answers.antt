-- `codes::pad` meets its contract: behind the copy stand the zeros that are left. Assumes nothing.
use Rattle.entry.proofs.Pads.{copied}
use Rattle.entry.proofs.codes.pad.Goals as goal

pub returns : goal.returns
returns c = copied _ (rw c.copy.ensures)
