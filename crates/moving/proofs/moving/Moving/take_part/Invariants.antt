-- `Moving::take_part` meets its contract: each step takes some of the part. Assumes nothing.
use Prim.Native.Nat.{◌-◌, ◌≤◌}
use lib.ListN.{length}
use Rattle.moving.specs.Steps.{Keeps, Lasting}
use Rattle.moving.proofs.moving.Moving.take_part.Given as goal

abbrev pub invariant-loop-self : goal.invariant-loop-self
invariant-loop-self l = (l.self.run.from ≤ length l.part) × (Keeps l.program l.unit l.self × Lasting l.initial.self l.self)

abbrev pub decreases-loop-self : goal.decreases-loop-self
decreases-loop-self l = length l.part - l.self.run.from
