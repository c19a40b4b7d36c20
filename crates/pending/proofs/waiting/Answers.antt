-- `waiting` meets its contract: as many wait as are told. Assumes nothing.
use Rattle.pending.proofs.Steps.{count_told}
use Rattle.pending.proofs.waiting.Goals as goal

pub returns : goal.returns
returns c = count_told c.args.slots.now c.count.result (rw (c.count.ensures, c.look.ensures))
