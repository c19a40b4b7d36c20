-- `last::LastPairs::take` meets its contract, one law a way out. Assumes nothing.
use Rattle.pairs.specs.Table.{keys}
use Rattle.walk.proofs.Steps.{value_missing, value_there, step_keyless, step_fits, value_from, step_empty, step_takes}
use native.Mathlib.Omega.{arith}
use Rattle.walk.proofs.last.LastPairs.take.Goals as goal

pub returns-then-start-eq-NO_KEY : goal.returns-then-start-eq-NO_KEY
unfolding keys
returns-then-start-eq-NO_KEY c = step_keyless _ _ c.start_at-start.ensures c.requires.1 c.requires.2 c.if-start-eq-NO_KEY.true

pub value_at-requires : goal.value_at-requires
unfolding keys
value_at-requires c = (c.requires.0, value_from _ _ c.start_at-start.ensures c.requires.1 c.requires.2 c.if-start-eq-NO_KEY.false, c.requires.3)

pub returns-in_default : goal.returns-in_default
unfolding keys
returns-in_default c = step_empty _ _ c.start_at-start.ensures c.requires.1 c.requires.2 c.if-start-eq-NO_KEY.false (value_missing _ _ _ c.value_at.ensures c.in_default.is)

pub offset_bounds-self-start : goal.offset_bounds-self-start
unfolding keys
offset_bounds-self-start c = record { fits = omega (arith, step_fits _ _ c.start_at-start.ensures c.requires.1 c.requires.2 c.if-start-eq-NO_KEY.false) }

pub bounds-self-start : goal.bounds-self-start
unfolding keys
bounds-self-start c = step_fits _ _ c.start_at-start.ensures c.requires.1 c.requires.2 c.if-start-eq-NO_KEY.false

pub returns : goal.returns
unfolding keys
returns c =
    let told = value_there _ _ _ c.value_at.ensures c.in-Some.is in
    rw told.1 (step_takes _ _ c.start_at-start.ensures c.requires.1 c.requires.2 c.if-start-eq-NO_KEY.false told.0)
