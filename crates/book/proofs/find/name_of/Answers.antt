-- `book::find::name_of` meets its contract, case by case of what stands at the place. Assumes nothing.
use Prim.Native.Nat.{ℕ, ◌+◌, ◌-◌}
use Rattle.book.proofs.NamePlaces.{value_place, other_place}
use Rattle.book.proofs.Steps.{Bare, bare, field_bare}
use Rattle.book.specs.Finders.{name_of}
use Rattle.text.proofs.OwnParts.{own_text, no_text, own_front, text_is}
use Rattle.tlv.proofs.Fields.{field_found}
use Rattle.tlv.proofs.Places.{stands_cut, between_is}
use Rattle.tlv.specs.Reading.{Part, Stands, between, field_at}
use borrow.Author.Rules.{rules}
use borrow.Author.Tests.{eq-eqb, ne_eqb}
use lib.ListN.{length, take, drop, length-take, length-drop, drop_of_length-le}
use lib.Seq.{take_all}
use mathlib.Core.List.{List}
use mathlib.Core.Path.{◌≡◌, refl, sym, ap, subst, ◌∙◌}
use native.Mathlib.Omega.{arith}
use Rattle.book.proofs.find.name_of.Goals as goal

pub returns-in_default : goal.returns-in_default
unfolding name_of
returns-in_default c =
    no_text _ refl refl refl
    (sym (field_bare _ _ (field_at c.args.book.now c.args.place) (subst Bare c.field_at.ensures (bare _ c.in_default.not-Field))))

pub slice_bounds-body-end : goal.slice_bounds-body-end
slice_bounds-body-end c =
    let p : Part = record { at = c.args.place; tag = c.in-Field.tag; from = c.in-Field.from; to = c.in-Field.to } in
    let e : Stands c.args.book.now p = sym c.field_at.ensures ∙ c.in-Field.is in
    stands_cut c.args.book.now p e

pub returns-then-tag-ne7 : goal.returns-then-tag-ne7
unfolding name_of
returns-then-tag-ne7 c =
    let s = c.args.book.now in
    let place = c.args.place in
    let tag = c.in-Field.tag in
    let from = c.in-Field.from in
    let is : field_at s place ≡ _ = sym c.field_at.ensures ∙ c.in-Field.is in
    text_is _ (from + 2 + 3) (sym (rw (is, ne_eqb tag 7 c.if-tag-ne7.true))) (other_place s place (field_found s place is) c.if-tag-ne7.true)
    (own_front c.in-Field.to refl refl refl c.name_at.ensures)

pub overflow_sub-to : goal.overflow_sub-to
overflow_sub-to c =
    let f = field_found c.args.book.now c.args.place (sym c.field_at.ensures ∙ c.in-Field.is) in
    search rules

pub returns-then-to-from-lt5 : goal.returns-then-to-from-lt5
unfolding name_of
returns-then-to-from-lt5 c =
    let s = c.args.book.now in
    let from = c.in-Field.from in
    let to = c.in-Field.to in
    let is : field_at s c.args.place ≡ _ = sym c.field_at.ensures ∙ c.in-Field.is in
    let f = field_found s c.args.place is in
    no_text _ refl refl refl
    (rw (is, eq-eqb c.in-Field.tag 7 c.if-tag-ne7.false)
    (sym (drop_of_length-le (take to s) {i = from + 4} (rw (length-take to s) (omega arith)))))

pub overflow_add-result : goal.overflow_add-result
overflow_add-result c =
    let f = field_found c.args.book.now c.args.place (sym c.field_at.ensures ∙ c.in-Field.is) in
    search rules

pub slice_bounds-result-count : goal.slice_bounds-result-count
slice_bounds-result-count c =
    let f = field_found c.args.book.now c.args.place (sym c.field_at.ensures ∙ c.in-Field.is) in
    let cut = length-take c.in-Field.to c.args.book.now in
    search rules

pub slice_bounds-result-start : goal.slice_bounds-result-start
slice_bounds-result-start c =
    let f = field_found c.args.book.now c.args.place (sym c.field_at.ensures ∙ c.in-Field.is) in
    let cut = length-take c.in-Field.to c.args.book.now in
    search rules

pub slice_bounds-result-end-2 : goal.slice_bounds-result-end-2
slice_bounds-result-end-2 c =
    let f = field_found c.args.book.now c.args.place (sym c.field_at.ensures ∙ c.in-Field.is) in
    let cut = length-take c.in-Field.to c.args.book.now in
    search rules

pub returns : goal.returns
unfolding name_of
returns c =
    let s = c.args.book.now in
    let place = c.args.place in
    let from = c.in-Field.from in
    let to = c.in-Field.to in
    let is : field_at s place ≡ _ = sym c.field_at.ensures ∙ c.in-Field.is in
    let f = field_found s place is in
    let here = value_place s place f c.if-tag-ne7.false in
    let u : List ℕ = take to s in
    let all : take (length u - (from + 4)) (drop (from + 4) u) ≡ between s (from + 4) to =
    take_all (length u - (from + 4)) (drop (from + 4) u) (rw (length-drop (from + 4) u) (omega arith)) in
    own_text _ (to - (from + 4)) (all ∙ between_is s (from + 4) to ∙ ap (λ (n : ℕ). take (to - (from + 4)) (drop n s)) here) refl (omega (arith, here))
    (omega (arith, here, f.within, c.if-to-from-lt5.false)) (rw (is, eq-eqb c.in-Field.tag 7 c.if-tag-ne7.false) all) (omega (arith, c.if-to-from-lt5.false))
