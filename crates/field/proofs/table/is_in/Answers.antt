-- `field::table::is_in` meets its contract, case by case of what stands at the table's place. Assumes nothing.
use Rattle.book.proofs.Steps.{Bare, bare}
use Rattle.field.proofs.Sources.{no_table, no_field, before-body, in_body}
use borrow.Author.Tests.{lt-leb}
use mathlib.Core.Path.{sym, subst, ◌∙◌}
use Rattle.field.proofs.table.is_in.Goals as goal

pub returns-in_default : goal.returns-in_default
returns-in_default c = no_table c.args.book.now c.args.place c.in_default.is

pub returns-in_default-field_at : goal.returns-in_default-field_at
returns-in_default-field_at c = no_field c.args.book.now c.args.place c.in-Some.is (subst Bare c.field_at.ensures (bare _ c.in_default-field_at.not-Field))

pub returns-then-from-place : goal.returns-then-from-place
returns-then-from-place c = in_body c.args.book.now c.args.place c.in-Some.is (sym c.field_at.ensures ∙ c.in-Field.is) c.if-from-place.true

pub returns-else-from-place : goal.returns-else-from-place
returns-else-from-place c =
    lt-leb c.in-Field.from c.args.place c.if-from-place.false
    ∙ before-body c.args.book.now c.args.place c.in-Some.is (sym c.field_at.ensures ∙ c.in-Field.is) c.if-from-place.false
