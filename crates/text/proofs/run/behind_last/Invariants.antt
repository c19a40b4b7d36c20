-- `run::behind_last` meets its contract: none of the bytes passed is the byte, so what a block finds is found last, also where the first block lies
-- over bytes that were passed. Assumes nothing.
use Prim.Native.Nat.{◌≤◌}
use Rattle.text.specs.Class.{other_than}
use Rattle.text.specs.Place.{is_at, last_place}
use Rattle.text.specs.Run.{behind, run_start}
use lib.ListN.{length}
use mathlib.Core.Path.{◌≡◌}
use Rattle.text.proofs.run.behind_last.Given as goal

abbrev pub invariant-loop-i : goal.invariant-loop-i
invariant-loop-i l = (16 ≤ l.i) × (l.i ≤ length l.s) × (run_start (other_than l.b) l.s ≡ behind (last_place (is_at l.b l.s) l.i))

abbrev pub decreases-loop-i : goal.decreases-loop-i
decreases-loop-i l = l.i
