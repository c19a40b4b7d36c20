-- `book::find::type_of` meets its contract, case by case of what stands at the place. Assumes nothing.
use Prim.Native.Nat.{◌+◌}
use Rattle.book.proofs.Steps.{Bare, bare, field_bare}
use Rattle.book.specs.Finders.{type_of, type_place}
use Rattle.book.specs.Search.{after}
use Rattle.text.proofs.OwnParts.{no_text, own_front, text_is}
use Rattle.tlv.proofs.Places.{stands_cut}
use Rattle.tlv.specs.Reading.{Part, Stands, field_at}
use lib.ListN.{take}
use mathlib.Core.Path.{◌≡◌, refl, sym, subst, ◌∙◌}
use Rattle.book.proofs.find.type_of.Goals as goal

pub returns-in_default : goal.returns-in_default
unfolding type_of
returns-in_default c =
    no_text _ refl refl refl
    (sym (field_bare _ _ (field_at c.args.book.now c.args.entry) (subst Bare c.field_at.ensures (bare _ c.in_default.not-Field))))

pub slice_bounds-type_at-end : goal.slice_bounds-type_at-end
slice_bounds-type_at-end c =
    let p : Part = record { at = c.args.entry; tag = c.in-Field.tag; from = c.in-Field.from; to = c.in-Field.to } in
    let e : Stands c.args.book.now p = sym c.field_at.ensures ∙ c.in-Field.is in
    stands_cut c.args.book.now p e

pub returns : goal.returns
unfolding type_of type_place
returns c =
    let s = c.args.book.now in
    let from = c.in-Field.from in
    let to = c.in-Field.to in
    let is : field_at s c.args.entry ≡ _ = sym c.field_at.ensures ∙ c.in-Field.is in
    text_is _ (after 4 (take to s) (from + 2) + 3) (sym (rw is)) (sym (rw is)) (own_front to refl refl refl c.type_at.ensures)
