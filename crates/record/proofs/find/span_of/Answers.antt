-- `find::span_of` meets its contract: the field sought is the one `Sought` from the loop's place on. Assumes nothing.
use Rattle.record.proofs.Finding.{Moves, field_moves, seeking_starts, sought_over, sought-hit, sought-miss}
use mathlib.Core.Path.{sym, ◌∙◌}
use native.Mathlib.Omega.{arith}
use Rattle.record.proofs.find.span_of.Goals as goal

pub loop-found-init : goal.loop-found-init
loop-found-init c = seeking_starts _ _

pub returns-then-found-tag : goal.returns-then-found-tag
returns-then-found-tag c = sought-hit _ _ c.loop-found.invariant (sym c.field_at.ensures ∙ c.in-Field.is) c.if-found-tag.true

pub loop-found-smaller : goal.loop-found-smaller
loop-found-smaller c = let m : Moves _ _ _ _ = field_moves _ _ (sym c.field_at.ensures ∙ c.in-Field.is) in omega arith

pub loop-found-preserved : goal.loop-found-preserved
loop-found-preserved c = sought-miss _ _ c.loop-found.invariant (sym c.field_at.ensures ∙ c.in-Field.is) c.if-found-tag.false

pub returns : goal.returns
returns c = sought_over _ _ c.loop-found.invariant (λ tag from to e. c.in_default.not-Field tag from to (c.field_at.ensures ∙ e))
