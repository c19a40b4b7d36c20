use Prim.Native.Nat.{◌-◌}
use Rattle.pairs.proofs.Matches.{Seeking}
use lib.ListN.{length}
use Rattle.pairs.proofs.pair.next_before.Given as goal

abbrev pub invariant-loop-i : goal.invariant-loop-i
invariant-loop-i l = Seeking l.s l.from l.i

abbrev pub decreases-loop-i : goal.decreases-loop-i
decreases-loop-i l = length l.s - l.i
