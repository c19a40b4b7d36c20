-- `book::seek::fits` meets its contract: each arm reads the body. Assumes nothing.
use Prim.Native.Nat.{ℕ}
use Rattle.book.specs.Search.{same_uuid, fits}
use Rattle.book.specs.declared.Uuid.{Uuid}
use Rattle.text.specs.Same.{same_text}
use borrow.Author.Tests.{eq-eqb, ne_eqb}
use mathlib.Core.List.{List}
use mathlib.Core.Path.{sym, ap, ◌∙◌}
use Rattle.book.proofs.seek.fits.Goals as goal

pub returns-in-Kind : goal.returns-in-Kind
unfolding fits
returns-in-Kind c = rw (c.in-Kind.is, c.byte_at.ensures.0)

pub returns-in-Uuid : goal.returns-in-Uuid
unfolding fits same_uuid
returns-in-Uuid c = rw c.in-Uuid.is (c.eq.ensures ∙ ap (λ (u : Uuid). same_uuid u c.in-Uuid.uuid) c.uuid_at.ensures)

pub returns-in-Offset : goal.returns-in-Offset
unfolding fits
returns-in-Offset c = rw (c.in-Offset.is, c.two_at.ensures.is)

pub returns-then-two_at-offset : goal.returns-then-two_at-offset
unfolding fits
returns-then-two_at-offset c =
    rw (c.in-Typed.is, sym c.two_at-in-Typed.ensures.is, eq-eqb _ _ c.if-two_at-offset.true)
    (c.eq-then-two_at-offset.ensures ∙ ap (λ (l : List ℕ). same_text l c.args.key.now) c.type_at.ensures.is)

pub returns-else-two_at-offset : goal.returns-else-two_at-offset
unfolding fits
returns-else-two_at-offset c = rw (c.in-Typed.is, sym c.two_at-in-Typed.ensures.is, ne_eqb _ _ c.if-two_at-offset.false)

pub returns-in-Range : goal.returns-in-Range
unfolding fits
returns-in-Range c =
    rw c.in-Range.is (c.eq-in-Range.ensures ∙ ap (λ (l : List ℕ). same_text l c.args.key.now) c.name_at.ensures.is)

pub returns-in-Value : goal.returns-in-Value
unfolding fits
returns-in-Value c = rw (c.in-Value.is, c.four_at.ensures.is)
