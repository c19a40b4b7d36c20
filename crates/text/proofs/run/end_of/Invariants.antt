-- `run::end_of` meets its contract: the run from the start ends where the run from here does, whatever is tested. Assumes nothing.
use Prim.Native.Nat.{ℕ, ◌≤◌}
use Rattle.std.specs.Prelude.{max}
use Rattle.text.specs.Run.{Tests, run_end}
use lib.ListN.{length}
use mathlib.Core.Bool.{Bool}
use mathlib.Core.Path.{◌≡◌}
use Rattle.text.proofs.run.end_of.Given as goal

abbrev pub invariant-loop-i : goal.invariant-loop-i
invariant-loop-i g l = record { within : l.i ≤ max l.from (length l.s); same : (p : ℕ → Bool) → Tests (goal.F-post g l.passes) p → run_end p l.s l.from ≡ run_end p l.s l.i }
