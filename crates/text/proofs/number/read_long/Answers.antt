-- `number::read_long` meets its contract: what is read so far is a `SoFar`, and each way out is one of its laws. Assumes nothing.
use Rattle.text.proofs.Numbers.{digit_there, digit_missing, so_far_starts, so_far_steps, none_bad, none_wide, whole_value, within_most, above_most}
use mathlib.Core.Path.{refl, sym, ◌∙◌}
use native.Mathlib.Omega.{arith}
use Rattle.text.proofs.number.read_long.Goals as goal

pub loop-i-init : goal.loop-i-init
loop-i-init c = so_far_starts _ _ _ _ c.requires.2

pub returns-in_err-d : goal.returns-in_err-d
returns-in_err-d c = c.from_residual.ensures ∙ none_bad _ _ _ _ c.loop-i.invariant c.loop-i-test.true refl (digit_missing _ _ (sym c.digit_in.ensures ∙ c.in_err-d.was))

pub returns-then-most-v : goal.returns-then-most-v
returns-then-most-v c =
    let d = digit_there _ _ (sym c.digit_in.ensures ∙ c.in_ok-d.was) in
    none_wide _ _ _ _ c.requires.0 c.loop-i.invariant c.loop-i-test.true d.0 (above_most _ _ c.requires.0 _ c.if-most-v.true)

pub overflow_mul-v : goal.overflow_mul-v
overflow_mul-v c = record { fits = omega (arith, within_most _ _ c.requires.0 c.if-most-v.false, c.ranges.limit) }

pub overflow_sub-limit : goal.overflow_sub-limit
overflow_sub-limit c = within_most _ _ c.requires.0 c.if-most-v.false

pub returns-then-limit-v : goal.returns-then-limit-v
returns-then-limit-v c =
    let d = digit_there _ _ (sym c.digit_in.ensures ∙ c.in_ok-d.was) in
    none_wide _ _ _ _ c.requires.0 c.loop-i.invariant c.loop-i-test.true d.0 (omega (arith, within_most _ _ c.requires.0 c.if-most-v.false, c.if-limit-v.true))

pub overflow_mul-v-in-loop-i : goal.overflow_mul-v-in-loop-i
overflow_mul-v-in-loop-i c = record { fits = omega (arith, within_most _ _ c.requires.0 c.if-most-v.false, c.ranges.limit) }

pub overflow_add-v : goal.overflow_add-v
overflow_add-v c = record { fits = omega (arith, within_most _ _ c.requires.0 c.if-most-v.false, c.if-limit-v.false, c.ranges.limit) }

pub loop-i-preserved : goal.loop-i-preserved
loop-i-preserved c =
    let d = digit_there _ _ (sym c.digit_in.ensures ∙ c.in_ok-d.was) in
    so_far_steps _ _ _ _ c.loop-i.invariant c.loop-i-test.true d.0 d.1 (omega (arith, within_most _ _ c.requires.0 c.if-most-v.false, c.if-limit-v.false))

pub returns : goal.returns
returns c = whole_value _ _ _ _ c.loop-i.invariant c.loop-i-test.false
