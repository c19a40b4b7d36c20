-- `book::find::seek` meets its contract: no field there, or what was found inside. Assumes nothing.
use Rattle.std.specs.Prelude.{IfSome, None, Option, Some}
use Prim.Native.Nat.{ℕ, ◌<◌, ◌≤◌}
use Rattle.book.proofs.Answers.{inner_up}
use Rattle.book.proofs.Searching.{first_bounds}
use Rattle.book.proofs.Steps.{Bare, bare, field_bare}
use Rattle.book.specs.Finders.{place_of, seek_of}
use Rattle.book.specs.Search.{wanted, first_part, first_wanted}
use Rattle.tlv.proofs.Fields.{field_found}
use Rattle.tlv.proofs.Places.{stands_cut}
use Rattle.tlv.specs.Reading.{Part, Stands, field_at}
use lib.ListN.{length, take, length-take}
use mathlib.Core.Bool.{Bool}
use mathlib.Core.List.{List}
use mathlib.Core.Path.{◌≡◌, sym, ap, subst, ◌∙◌}
use native.Mathlib.Omega.{arith}
use Rattle.book.proofs.find.seek.Goals as goal

-- what is found lies behind the start and inside
inside : (ok : Part → Bool) (u : List ℕ) (start n : ℕ) → 0 < start → length u ≤ n → (o : Option ℕ) → o ≡ first_part ok u start
    → IfSome o (λ p. (0 < p) × (p ≤ n))
inside ok u start n some le (Some p) e =
    let b = first_bounds ok u start p (sym e) in
    (omega (arith, b.0, some), omega (arith, b.1, le))
inside ok u start n some le None e = tt

pub returns-in_default : goal.returns-in_default
unfolding seek_of
returns-in_default c = record {
  is = sym (ap place_of (field_bare _ _ (field_at c.args.book.now c.args.place) (subst Bare c.field_at.ensures (bare _ c.in_default.not-Field))));
  stands = tt;
}

pub slice_bounds-body-end : goal.slice_bounds-body-end
slice_bounds-body-end c =
    let p : Part = record { at = c.args.place; tag = c.in-Field.tag; from = c.in-Field.from; to = c.in-Field.to } in
    let e : Stands c.args.book.now p = sym c.field_at.ensures ∙ c.in-Field.is in
    stands_cut c.args.book.now p e

pub inner-requires : goal.inner-requires
inner-requires c =
    let f = field_found c.args.book.now c.args.place (sym c.field_at.ensures ∙ c.in-Field.is) in
    rw (length-take c.in-Field.to c.args.book.now) (omega arith)

pub returns : goal.returns
unfolding seek_of first_wanted
returns c =
    let s : List ℕ = c.args.book.now in
    let u : List ℕ = take c.in-Field.to s in
    let is : field_at s c.args.place ≡ _ = sym c.field_at.ensures ∙ c.in-Field.is in
    let f = field_found s c.args.place is in
    let up = inner_up c.in-Field.tag u c.in-Field.from (rw (length-take c.in-Field.to s) (omega arith)) in
    record {
      is = sym (rw is (ap place_of (ap (first_wanted c.args.want c.args.key.now u) (sym c.inner.ensures) ∙ sym c.first.ensures)));
      stands =
          inside (wanted c.args.want c.args.key.now u) u c.inner.result (length s) (omega (arith, up, c.inner.ensures, f.from_is)) (omega (arith, length-take c.in-Field.to s))
          c.first.result c.first.ensures;
    }
