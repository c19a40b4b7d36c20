-- `take_some` meets its contract: what its turns put out, one after the other. Assumes nothing.
use Rattle.filters.proofs.Turns.{took_none, took_then, took_room, took_size, took_within, took_goes}
use native.Mathlib.Omega.{arith}
use Rattle.filters.proofs.take_some.Goals as goal

pub loop-at-init : goal.loop-at-init
loop-at-init c = (took_none _ _ _ _ _ _ c.requires.0 c.requires.1 c.requires.2 c.requires.3, c.requires.1)

pub overflow_sub-out : goal.overflow_sub-out
overflow_sub-out c = omega (arith, took_room _ c.loop-at.invariant.1 c.loop-at.invariant.0)

pub shape_of-unit-then-out-at-lt5400 : goal.shape_of-unit-then-out-at-lt5400
shape_of-unit-then-out-at-lt5400 c = took_size _ c.loop-at.invariant.1 c.loop-at.invariant.0

pub shape_of-out-then-out-at-lt5400 : goal.shape_of-out-then-out-at-lt5400
shape_of-out-then-out-at-lt5400 c = (took_room _ c.loop-at.invariant.1 c.loop-at.invariant.0).1

pub shape_of-told-then-out-at-lt5400 : goal.shape_of-told-then-out-at-lt5400
shape_of-told-then-out-at-lt5400 c = (took_room _ c.loop-at.invariant.1 c.loop-at.invariant.0).3

pub returns-then-out-at-lt5400 : goal.returns-then-out-at-lt5400
returns-then-out-at-lt5400 c = record {
  took = c.loop-at.invariant.0;
  stops = λ h a b. omega (arith, c.if-out-at-lt5400.true, took_room _ c.loop-at.invariant.1 c.loop-at.invariant.0, a);
  within = (took_within _ c.loop-at.invariant.1 c.loop-at.invariant.0, took_goes _ c.loop-at.invariant.1 c.loop-at.invariant.0 (λ h a b. omega (arith, c.if-out-at-lt5400.true, took_room _ c.loop-at.invariant.1 c.loop-at.invariant.0, a)));
}

pub overflow_sub-told : goal.overflow_sub-told
overflow_sub-told c = omega (arith, took_room _ c.loop-at.invariant.1 c.loop-at.invariant.0)

pub shape_of-unit-then-told-at-lt400 : goal.shape_of-unit-then-told-at-lt400
shape_of-unit-then-told-at-lt400 c = took_size _ c.loop-at.invariant.1 c.loop-at.invariant.0

pub shape_of-out-then-told-at-lt400 : goal.shape_of-out-then-told-at-lt400
shape_of-out-then-told-at-lt400 c = (took_room _ c.loop-at.invariant.1 c.loop-at.invariant.0).1

pub shape_of-told-then-told-at-lt400 : goal.shape_of-told-then-told-at-lt400
shape_of-told-then-told-at-lt400 c = (took_room _ c.loop-at.invariant.1 c.loop-at.invariant.0).3

pub returns-then-told-at-lt400 : goal.returns-then-told-at-lt400
returns-then-told-at-lt400 c = record {
  took = c.loop-at.invariant.0;
  stops = λ h a b. omega (arith, c.if-told-at-lt400.true, took_room _ c.loop-at.invariant.1 c.loop-at.invariant.0, b);
  within = (took_within _ c.loop-at.invariant.1 c.loop-at.invariant.0, took_goes _ c.loop-at.invariant.1 c.loop-at.invariant.0 (λ h a b. omega (arith, c.if-told-at-lt400.true, took_room _ c.loop-at.invariant.1 c.loop-at.invariant.0, b)));
}

pub turn-at-requires : goal.turn-at-requires
turn-at-requires c = (c.loop-at-test.true, c.loop-at.invariant.0.kept, record { at = omega (arith, c.if-out-at-lt5400.false, took_room _ c.loop-at.invariant.1 c.loop-at.invariant.0); told_at = omega (arith, c.if-told-at-lt400.false, took_room _ c.loop-at.invariant.1 c.loop-at.invariant.0) })

pub loop-at-smaller : goal.loop-at-smaller
loop-at-smaller c = omega (arith, c.turn-at.ensures.1, c.turn-at.ensures.0.within)

pub loop-at-preserved : goal.loop-at-preserved
loop-at-preserved c = (took_then _ c.loop-at.invariant.0 c.turn-at.ensures.0, c.loop-at.invariant.1)

pub shape_of-unit : goal.shape_of-unit
shape_of-unit c = took_size _ c.loop-at.invariant.1 c.loop-at.invariant.0

pub shape_of-out : goal.shape_of-out
shape_of-out c = (took_room _ c.loop-at.invariant.1 c.loop-at.invariant.0).1

pub shape_of-told : goal.shape_of-told
shape_of-told c = (took_room _ c.loop-at.invariant.1 c.loop-at.invariant.0).3

pub returns : goal.returns
returns c = record {
  took = c.loop-at.invariant.0;
  stops = λ h a b. absurd (omega (arith, h, c.loop-at-test.false));
  within = (took_within _ c.loop-at.invariant.1 c.loop-at.invariant.0, took_goes _ c.loop-at.invariant.1 c.loop-at.invariant.0 (λ h a b. absurd (omega (arith, h, c.loop-at-test.false))));
}
