-- `units_in` meets its contract: each unit that ends is one more. Assumes nothing.
use Rattle.units.proofs.Counting.{counting_starts, counting_goes_on, counting_fails, counting_ends}
use mathlib.Core.Path.{refl}
use Rattle.units.proofs.units_in.Goals as goal

pub loop-at-init : goal.loop-at-init
loop-at-init c = counting_starts _ _

pub loop-at-preserved : goal.loop-at-preserved
loop-at-preserved c = counting_goes_on _ _ _ _ c.loop-at.invariant _ (rw c.in-Some.is at c.unit_end.ensures) refl

pub returns-after-loop-at : goal.returns-after-loop-at
returns-after-loop-at c = counting_ends _ _ _ _ c.loop-at.invariant c.loop-at-test.false

pub returns-in_default : goal.returns-in_default
returns-in_default c = counting_fails _ _ _ _ c.loop-at.invariant _ c.in_default.not-Some c.unit_end.ensures
