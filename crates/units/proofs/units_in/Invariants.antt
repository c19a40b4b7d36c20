-- `units_in` meets its contract: each unit that ends is one more. Assumes nothing.
use Prim.Native.Nat.{◌-◌}
use Rattle.units.proofs.Counting.{Counted}
use lib.ListN.{length}
use Rattle.units.proofs.units_in.Given as goal

abbrev pub invariant-loop-at : goal.invariant-loop-at
invariant-loop-at l = Counted l.framing l.s l.n l.at

abbrev pub decreases-loop-at : goal.decreases-loop-at
decreases-loop-at l = length l.s - l.at
