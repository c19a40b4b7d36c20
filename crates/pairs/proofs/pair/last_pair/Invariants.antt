-- `pair::last_pair` meets its contract: the last pair of the key is the newest so far or a later one. Assumes nothing.
use Prim.Native.Nat.{◌-◌}
use Rattle.pairs.specs.Pair.{pairs_from, last_in, last_pair}
use lib.ListN.{length}
use mathlib.Core.Path.{◌≡◌}
use Rattle.pairs.proofs.pair.last_pair.Given as goal

abbrev pub invariant-loop-hit : goal.invariant-loop-hit
invariant-loop-hit l = last_pair l.s l.key ≡ last_in l.s l.key l.best (pairs_from l.s l.at)

abbrev pub decreases-loop-hit : goal.decreases-loop-hit
decreases-loop-hit l = length l.s - l.at
