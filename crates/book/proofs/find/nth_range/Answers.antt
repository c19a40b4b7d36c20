-- `book::find::nth_range` meets its contract, case by case of what stands at the place. Assumes nothing.
use Prim.Native.Nat.{ℕ, ◌<◌, ◌≤◌}
use Rattle.std.proofs.lemmas.Option.{IfSome_then}
use Rattle.book.proofs.Answers.{inner_up}
use Rattle.book.proofs.Steps.{Bare, bare, field_bare}
use Rattle.book.specs.Finders.{nth_place, nth_inside}
use Rattle.tlv.proofs.Fields.{field_found}
use Rattle.tlv.proofs.Places.{stands_cut}
use Rattle.tlv.specs.Reading.{Part, Stands, field_at, parts}
use lib.ListN.{length, take, length-take}
use mathlib.Core.List.{List}
use mathlib.Core.Path.{◌≡◌, sym, ap, subst, ◌∙◌}
use native.Mathlib.Omega.{arith}
use Rattle.book.proofs.find.nth_range.Goals as goal

pub returns-in_default : goal.returns-in_default
unfolding nth_inside
returns-in_default c = record {
  is = sym (field_bare _ _ (field_at c.args.book.now c.args.entry) (subst Bare c.field_at.ensures (bare _ c.in_default.not-Field)));
  stands = tt;
}

pub slice_bounds-body-end : goal.slice_bounds-body-end
slice_bounds-body-end c =
    let p : Part = record { at = c.args.entry; tag = c.in-Field.tag; from = c.in-Field.from; to = c.in-Field.to } in
    let e : Stands c.args.book.now p = sym c.field_at.ensures ∙ c.in-Field.is in
    stands_cut c.args.book.now p e

pub inner-requires : goal.inner-requires
inner-requires c =
    let f = field_found c.args.book.now c.args.entry (sym c.field_at.ensures ∙ c.in-Field.is) in
    rw (length-take c.in-Field.to c.args.book.now) (omega arith)

pub nth-requires : goal.nth-requires
nth-requires c =
    let f = field_found c.args.book.now c.args.entry (sym c.field_at.ensures ∙ c.in-Field.is) in
    let up = inner_up c.in-Field.tag (take c.in-Field.to c.args.book.now) c.in-Field.from (rw (length-take c.in-Field.to c.args.book.now) (omega arith)) in
    omega (arith, up, c.inner.ensures, f.from_is)

pub returns : goal.returns
unfolding nth_inside
returns c =
    let s : List ℕ = c.args.book.now in
    let u : List ℕ = take c.in-Field.to s in
    let is : field_at s c.args.entry ≡ _ = sym c.field_at.ensures ∙ c.in-Field.is in
    record {
      is = c.nth.ensures.is ∙ sym (rw is (ap (λ (n : ℕ). nth_place c.args.k (parts u n)) (sym c.inner.ensures)));
      stands = IfSome_then c.nth.result {Q = λ p. (0 < p) × (p ≤ length s)} c.nth.ensures.stands (λ p b. (b.0, omega (arith, b.1, length-take c.in-Field.to s)));
    }
