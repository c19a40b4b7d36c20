-- `place::byte_before` meets its contract, by cases on whether there is a byte before. Assumes nothing.
use Rattle.text.proofs.Places.{before_none, before_some}
use mathlib.Core.Path.{sym, ◌∙◌}
use native.Mathlib.Omega.{arith}
use Rattle.text.proofs.place.byte_before.Goals as goal

pub returns-then-i-eq0 : goal.returns-then-i-eq0
returns-then-i-eq0 c = sym (before_none _ c.if-i-eq0.true)

pub returns-else-i-eq0 : goal.returns-else-i-eq0
returns-else-i-eq0 c = c.byte_at.ensures ∙ sym (before_some _ _ (omega (arith, c.if-i-eq0.false)))
