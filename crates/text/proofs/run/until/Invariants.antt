-- `run::until` meets its contract: none of the bytes passed is the byte, so what a block finds is found first, also where the last block lies over
-- bytes that were passed. Assumes nothing.
use Prim.Native.Nat.{◌≤◌, ◌-◌}
use Rattle.text.specs.Place.{Free, is_at}
use lib.ListN.{length}
use Rattle.text.proofs.run.until.Given as goal

abbrev pub invariant-loop-i : goal.invariant-loop-i
invariant-loop-i l = (l.from ≤ l.i) × (l.i ≤ length l.s) × Free (is_at l.b l.s) l.from l.i

abbrev pub decreases-loop-i : goal.decreases-loop-i
decreases-loop-i l = length l.s - l.i
