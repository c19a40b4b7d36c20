-- `bits::ones` meets its contract: 32 ones shifted down by 32 - width are width ones.
-- Assumes nothing.
use Rattle.bits.proofs.Ranges.{dword_ones_shifted}
use Rattle.bits.proofs.ones.Goals as goal

pub returns : goal.returns
returns c = dword_ones_shifted c.args.width c.requires.1
