-- `number::read_short` meets its contract: what is read so far is a `Few`, and each way out is one of its laws. Assumes nothing.
use Rattle.text.proofs.FewDigits.{few_starts, few_steps, few_fit, few_bad, few_judged}
use Rattle.text.proofs.Numbers.{digit_there, digit_missing}
use mathlib.Core.Path.{refl, sym, ◌∙◌}
use native.Mathlib.Omega.{arith}
use Rattle.text.proofs.number.read_short.Goals as goal

pub loop-i-init : goal.loop-i-init
loop-i-init c = few_starts _ _ _ c.requires.2

pub returns-in_err-v : goal.returns-in_err-v
returns-in_err-v c = c.from_residual.ensures ∙ few_bad _ _ _ _ c.loop-i.invariant c.loop-i-test.true refl (digit_missing _ _ (sym c.digit_in.ensures ∙ c.in_err-v.was))

pub overflow_mul-v : goal.overflow_mul-v
overflow_mul-v c = record { fits = omega (arith, few_fit _ _ _ c.loop-i.invariant (omega (arith, c.loop-i-test.true, c.requires.3)) c.requires.1 c.requires.0) }

pub overflow_add-v : goal.overflow_add-v
overflow_add-v c = record { fits = omega (arith, few_fit _ _ _ c.loop-i.invariant (omega (arith, c.loop-i-test.true, c.requires.3)) c.requires.1 (digit_there _ _ (sym c.digit_in.ensures ∙ c.in_ok-v.was)).1) }

pub loop-i-preserved : goal.loop-i-preserved
loop-i-preserved c = let d = digit_there _ _ (sym c.digit_in.ensures ∙ c.in_ok-v.was) in few_steps _ _ _ c.loop-i.invariant c.loop-i-test.true c.requires.1 d.0 d.1

pub returns : goal.returns
returns c = c.within.ensures ∙ few_judged _ _ _ _ c.loop-i.invariant c.loop-i-test.false
