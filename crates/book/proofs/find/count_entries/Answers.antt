-- `book::find::count_entries` meets its contract, case by case of what stands at the place. Assumes nothing.
use Prim.Native.Nat.{ℕ}
use Rattle.book.proofs.Steps.{Bare, bare, field_bare}
use Rattle.book.specs.Finders.{count_inside}
use Rattle.tlv.proofs.Fields.{field_found}
use Rattle.tlv.proofs.Places.{stands_cut}
use Rattle.tlv.specs.Reading.{Part, Stands, field_at, parts}
use lib.ListN.{length, take, length-take}
use mathlib.Core.List.{List}
use mathlib.Core.Path.{◌≡◌, sym, ap, subst, ◌∙◌}
use native.Mathlib.Omega.{arith}
use Rattle.book.proofs.find.count_entries.Goals as goal

pub returns-in_default : goal.returns-in_default
unfolding count_inside
returns-in_default c =
    sym (field_bare _ _ (field_at c.args.book.now c.args.table) (subst Bare c.field_at.ensures (bare _ c.in_default.not-Field)))

pub slice_bounds-body-end : goal.slice_bounds-body-end
slice_bounds-body-end c =
    let p : Part = record { at = c.args.table; tag = c.in-Field.tag; from = c.in-Field.from; to = c.in-Field.to } in
    let e : Stands c.args.book.now p = sym c.field_at.ensures ∙ c.in-Field.is in
    stands_cut c.args.book.now p e

pub inner-requires : goal.inner-requires
inner-requires c =
    let f = field_found c.args.book.now c.args.table (sym c.field_at.ensures ∙ c.in-Field.is) in
    rw (length-take c.in-Field.to c.args.book.now) (omega arith)

pub returns : goal.returns
unfolding count_inside
returns c =
    let s : List ℕ = c.args.book.now in
    let u : List ℕ = take c.in-Field.to s in
    let is : field_at s c.args.table ≡ _ = sym c.field_at.ensures ∙ c.in-Field.is in
    sym (rw is (ap (λ (n : ℕ). length (parts u n)) (sym c.inner.ensures) ∙ sym c.count.ensures))
