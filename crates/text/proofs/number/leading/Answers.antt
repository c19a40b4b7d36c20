-- `number::leading` meets its contract: what is read so far is a `ReadTo`, and digits that no further one follows are the whole run. Assumes nothing.
use Prim.Native.Nat.{ℕ, ◌-◌}
use Rattle.text.proofs.DigitRuns.{read_starts, read_fits, read_steps, digit_above, leading_none, leading_some}
use Rattle.text.proofs.Numbers.{digit_there, digit_missing}
use Rattle.text.specs.Class.{in_class}
use Rattle.text.specs.Number.{number_of}
use lib.ListN.{take, drop}
use mathlib.Core.Path.{sym, ap, ◌∙◌}
use native.Mathlib.Omega.{arith}
use Rattle.text.proofs.number.leading.Goals as goal
use Rattle.text.proofs.number.leading.Goals.{else-loop-i-test, then-loop-i-test+in_default}

pub loop-i-init : goal.loop-i-init
loop-i-init c = read_starts _ _ _ c.requires

pub overflow_sub-i : goal.overflow_sub-i
overflow_sub-i c = c.loop-i.invariant.up

pub returns-then-i-from-ge-SHORT : goal.returns-then-i-from-ge-SHORT
unfolding in_class
returns-then-i-from-ge-SHORT c = c.decimal.ensures ∙ ap (λ (e : ℕ). number_of 10 c.args.limit (take (e - c.args.from) (drop c.args.from c.args.s.now))) c.run_end-end.ensures.is

pub overflow_mul-v : goal.overflow_mul-v
overflow_mul-v c = record { fits = omega (arith, read_fits _ _ _ c.loop-i.invariant c.if-i-from-ge-SHORT.false (omega arith) (digit_there _ _ (sym c.digit_in.ensures ∙ c.in-Some.is)).1) }

pub overflow_add-v : goal.overflow_add-v
overflow_add-v c = record { fits = omega (arith, read_fits _ _ _ c.loop-i.invariant c.if-i-from-ge-SHORT.false (omega arith) (digit_there _ _ (sym c.digit_in.ensures ∙ c.in-Some.is)).1) }

pub loop-i-preserved : goal.loop-i-preserved
loop-i-preserved c = let d = digit_there _ _ (sym c.digit_in.ensures ∙ c.in-Some.is) in read_steps _ _ _ c.loop-i.invariant c.loop-i-test.true (omega arith) d.0 d.1

pub returns-then-i-from : goal.returns-then-i-from
returns-then-i-from c = leading_none _ _ _ c.loop-i.invariant (λ h. elim c.loop-i-test.branch [
  | else-loop-i-test w ↦ absurd (omega (arith, w.loop-i-test.false))
  | then-loop-i-test+in_default w ↦ digit_above _ (digit_missing _ _ (sym w.digit_in.ensures ∙ w.in_default.is))
]) c.if-i-from.true

pub returns-else-i-from : goal.returns-else-i-from
returns-else-i-from c = c.within.ensures ∙ leading_some _ _ _ c.loop-i.invariant (λ h. elim c.loop-i-test.branch [
  | else-loop-i-test w ↦ absurd (omega (arith, w.loop-i-test.false))
  | then-loop-i-test+in_default w ↦ digit_above _ (digit_missing _ _ (sym w.digit_in.ensures ∙ w.in_default.is))
]) c.if-i-from.false
