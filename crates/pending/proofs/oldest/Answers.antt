-- `oldest` meets its contract: what is told of a rank is so. Assumes nothing.
use Rattle.pending.proofs.Steps.{place_told}
use Rattle.pending.proofs.oldest.Goals as goal

pub returns : goal.returns
returns c = place_told c.args.slots.now c.args.k c.place.result (rw (c.place.ensures, c.look.ensures))
