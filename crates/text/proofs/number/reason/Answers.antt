-- `number::reason` meets its contract: the first bad digit from the start is the first from here. Assumes nothing.
use Rattle.text.proofs.Numbers.{digit_shown, digit_hidden, clean_starts, clean_steps, reason_empty, reason_bad, reason_wide}
use Rattle.std.specs.Option.{is_some}
use mathlib.Core.Path.{refl, sym, ap, ◌∙◌}
use Rattle.text.proofs.number.reason.Goals as goal

pub returns-then-s-from : goal.returns-then-s-from
returns-then-s-from c = reason_empty _ _ _ c.if-s-from.true

pub loop-i-init : goal.loop-i-init
loop-i-init c = clean_starts _ _ _

pub returns-then-is_none : goal.returns-then-is_none
returns-then-is_none c = reason_bad _ _ _ c.if-s-from.false c.loop-i.invariant c.loop-i-test.true refl (digit_hidden _ _ (ap is_some (sym c.digit_in.ensures) ∙ c.is_none.ensures) c.if-is_none.true)

pub loop-i-preserved : goal.loop-i-preserved
loop-i-preserved c = clean_steps _ _ _ c.loop-i.invariant c.loop-i-test.true refl (digit_shown _ _ (ap is_some (sym c.digit_in.ensures) ∙ c.is_none.ensures) c.if-is_none.false)

pub returns : goal.returns
returns c = reason_wide _ _ _ c.if-s-from.false c.loop-i.invariant c.loop-i-test.false
