-- `take_some` meets its contract: what its turns put out, one after the other. Assumes nothing.
use Prim.Native.Nat.{◌-◌}
use Rattle.filters.specs.Calls.{Took}
use Rattle.filters.specs.Texts.{framing_of}
use Rattle.units.specs.Kept.{is_kept}
use lib.ListN.{length}
use mathlib.Core.Bool.{true}
use mathlib.Core.Path.{◌≡◌}
use Rattle.filters.proofs.take_some.Given as goal

abbrev pub invariant-loop-at : goal.invariant-loop-at
invariant-loop-at l = Took l.filter l.part l.initial.unit l.initial.out l.initial.told l.initial.at l.unit l.out l.told l.at × (is_kept (framing_of l.filter) l.initial.unit l.initial.at.state.held l.initial.at.state.passed ≡ true)

abbrev pub decreases-loop-at : goal.decreases-loop-at
decreases-loop-at l = length l.part - l.at.from
