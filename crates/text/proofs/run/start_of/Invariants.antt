-- `run::start_of` meets its contract: what starts the run of the whole starts it below here, whatever is tested. Assumes nothing.
use Prim.Native.Nat.{ℕ}
use Rattle.text.specs.Run.{Tests}
use Rattle.text.proofs.Runs.{Back}
use mathlib.Core.Bool.{Bool}
use Rattle.text.proofs.run.start_of.Given as goal

abbrev pub invariant-loop-i : goal.invariant-loop-i
invariant-loop-i g l = (p : ℕ → Bool) → Tests (goal.F-post g l.passes) p → Back p l.s l.i
