-- `copy::copy` meets its contract: in front of the index the two are the same. Assumes nothing.
use Rattle.std.proofs.Common.{◌≡◌}
use lib.ListN.{take}
use Rattle.text.proofs.copy.copy.Given as goal

abbrev pub invariant-loop-i : goal.invariant-loop-i
invariant-loop-i g l = take l.i l.to ≡ take l.i l.from
