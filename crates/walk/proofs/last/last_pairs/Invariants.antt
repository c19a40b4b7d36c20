-- `last::last_pairs` meets its contract: the walk keeps for each row what is to be kept of its last pair so far. Assumes nothing.
use Prim.Native.Nat.{suc, ◌-◌, ◌≤◌}
use Rattle.walk.proofs.Walks.{Walked}
use lib.ListN.{length}
use Rattle.walk.proofs.last.last_pairs.Given as goal

abbrev pub invariant-loop-last : goal.invariant-loop-last
invariant-loop-last l = (l.at ≤ suc (length l.s)) × Walked l.s l.last.rows l.at

abbrev pub decreases-loop-last : goal.decreases-loop-last
decreases-loop-last l = suc (length l.s) - l.at
