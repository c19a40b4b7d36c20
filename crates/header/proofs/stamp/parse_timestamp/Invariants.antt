-- `stamp::parse_timestamp` meets its contract: no stamp has its colon before the present place, so the first that is found is the first.
-- Assumes nothing.
use Prim.Native.Nat.{◌-◌}
use Rattle.header.proofs.Stamps.{Seeking}
use lib.ListN.{length}
use Rattle.header.proofs.stamp.parse_timestamp.Given as goal

abbrev pub invariant-loop-c : goal.invariant-loop-c
invariant-loop-c l = Seeking l.h l.i

abbrev pub decreases-loop-c : goal.decreases-loop-c
decreases-loop-c l = length l.h - l.i
