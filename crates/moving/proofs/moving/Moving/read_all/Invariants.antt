-- `Moving::read_all` is safe: the unit buffer keeps what is open from part to part. Assumes nothing.
use Rattle.moving.specs.Steps.{Keeps, Lasting}
use Rattle.moving.proofs.moving.Moving.read_all.Given as goal

abbrev pub invariant-loop : goal.invariant-loop
invariant-loop l = (Keeps l.program l.unit l.self) × (Lasting l.initial.self l.self)
