-- `book::field::after` meets its contract, case by case of what stands at the place. Assumes nothing.
use Rattle.book.proofs.Steps.{Bare, bare, tag_told, tag_other, tag_bare}
use Rattle.book.specs.Search.{after}
use borrow.Author.Rules.{rules}
use mathlib.Core.Path.{sym, subst, ◌∙◌}
use Rattle.book.proofs.field.after.Goals as goal

pub returns-in-Field : goal.returns-in-Field
unfolding after
returns-in-Field c = sym (tag_told c.args.tag _ _ (sym c.field_at.ensures ∙ c.in-Field.is) c.if-t-tag.true)

pub returns-in_default : goal.returns-in_default
unfolding after
returns-in_default c = sym (tag_other c.args.tag _ _ (sym c.field_at.ensures ∙ c.in-Field.is) c.if-t-tag.false)

pub returns-in_default-2 : goal.returns-in_default-2
unfolding after
returns-in_default-2 c = sym (tag_bare c.args.tag _ _ _ (subst Bare c.field_at.ensures (bare _ (λ t from to e. search rules))))
