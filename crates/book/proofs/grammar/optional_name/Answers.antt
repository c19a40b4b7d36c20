-- `book::grammar::optional_name` meets its contract, case by case of what stands at the place. Assumes nothing.
use Rattle.book.proofs.Steps.{Bare, bare, tag_told, tag_other, tag_bare}
use Rattle.book.specs.Reading.{is_name, optional_name}
use Rattle.tlv.proofs.Fields.{field_found}
use Rattle.tlv.proofs.Places.{between_is}
use borrow.Author.Rules.{rules}
use mathlib.Core.Path.{sym, ap, ◌∙◌, subst}
use Rattle.book.proofs.grammar.optional_name.Goals as goal

pub slice_bounds-is_name-count : goal.slice_bounds-is_name-count
slice_bounds-is_name-count c =
    let f = field_found c.args.s.now c.args.at (sym c.field_at.ensures ∙ c.in-Field.is) in
    search rules

pub slice_bounds-is_name-start : goal.slice_bounds-is_name-start
slice_bounds-is_name-start c =
    let f = field_found c.args.s.now c.args.at (sym c.field_at.ensures ∙ c.in-Field.is) in
    search rules

pub slice_bounds-is_name-end : goal.slice_bounds-is_name-end
slice_bounds-is_name-end c =
    let f = field_found c.args.s.now c.args.at (sym c.field_at.ensures ∙ c.in-Field.is) in
    search rules

pub returns-in-Field : goal.returns-in-Field
unfolding optional_name
returns-in-Field c =
    sym (tag_told c.args.tag _ _ (sym c.field_at.ensures ∙ c.in-Field.is) c.if-t-tag.true ∙ ap is_name (between_is c.args.s.now c.in-Field.from c.in-Field.to) ∙ sym c.is_name.ensures)

pub returns-in_default : goal.returns-in_default
unfolding optional_name
returns-in_default c = sym (tag_other c.args.tag _ _ (sym c.field_at.ensures ∙ c.in-Field.is) c.if-t-tag.false)

pub returns-in_default-2 : goal.returns-in_default-2
unfolding optional_name
returns-in_default-2 c = sym (tag_bare c.args.tag _ _ _ (subst Bare c.field_at.ensures (bare _ (λ t from to e. search rules))))
