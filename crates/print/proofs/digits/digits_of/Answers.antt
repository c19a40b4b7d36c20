-- `digits::digits_of` meets its contract: the digits so far are a `Counted`. Assumes nothing.
use Rattle.print.proofs.Counting.{counted_starts, counted_goes_on, counted_steps, counted_ends}
use native.Mathlib.Omega.{arith}
use Rattle.print.proofs.digits.digits_of.Goals as goal

pub loop-rest-init : goal.loop-rest-init
loop-rest-init c = counted_starts _ (omega (arith, c.ranges.n))

pub bounds-bytes-from : goal.bounds-bytes-from
bounds-bytes-from c = omega (arith, c.loop-rest.invariant.place)

pub overflow_sub-from : goal.overflow_sub-from
overflow_sub-from c = counted_goes_on c.loop-rest.invariant c.loop-rest-test.true

pub loop-rest-smaller : goal.loop-rest-smaller
loop-rest-smaller c = omega (arith, counted_goes_on c.loop-rest.invariant c.loop-rest-test.true)

pub loop-rest-preserved : goal.loop-rest-preserved
loop-rest-preserved c = counted_steps c.loop-rest.invariant c.loop-rest-test.true

pub bounds-bytes-from-2 : goal.bounds-bytes-from-2
bounds-bytes-from-2 c = omega (arith, c.loop-rest.invariant.place)

pub returns : goal.returns
returns c = counted_ends c.loop-rest.invariant c.loop-rest-test.false
