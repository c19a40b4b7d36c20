-- What a search finds, in terms of the values that a text is made from: the first value that is so, since the part of a value is wanted just
-- where the value is so, and the parts stand in the order of the values. Assumes nothing.
use Rattle.std.specs.Prelude.{None, Option, Some}
use Prim.Native.Nat.{ℕ, ◌<◌}
use mathlib.Core.Path.{◌≡◌, ◌∙◌, sym, ap, refl}
use mathlib.Core.Bool.{Bool, true, false, false≢true}
use mathlib.Core.List.{List, [], ◌∷◌, map}
use mathlib.Core.Logic.{inl}
use native.Mathlib.Omega.{arith}
use lib.ListN.{length, take, drop}
use Rattle.tlv.specs.Grammar.{Piece, fields_bytes, All, Made}
use Rattle.tlv.specs.Reading.{Part, part_at}
use Rattle.tlv.proofs.Places.{stands_widens, piece_take}
use Rattle.tlv.proofs.Pieces.{rest_empty, made_field, made_back, made_piece}
use Rattle.tlv.proofs.Twice.{PartOf}
use Rattle.book.specs.Search.{first_part}
use Rattle.book.specs.Finders.{StandsAt, FirstSo, Finds, place_of}
use Rattle.book.proofs.Searching.{first_none, first_hit, first_miss, first_bounds}

module _ {X : Type 0} (piece : X → Piece) (Good : X → Type 0) (s : List ℕ) (ok : Part → Bool) (So : X → Type 0) where
  -- what an answer says of some values
  abbrev pub Says : List X → Option ℕ → Type 0
  Says xs (Some place) = FirstSo s piece So xs place
  Says xs None = All (λ x. So x → ⊥) xs

  module _ (told : (p : Part) (x : X) → PartOf piece Good s p x → ok p ≡ true → So x)
      (wants : (p : Part) (x : X) → PartOf piece Good s p x → So x → ok p ≡ true) where
    passed : (x : X) (xs : List X) → (So x → ⊥) → (r : Option ℕ) → Says xs r → Says (x ∷ xs) r
    passed x xs isnt (Some place) f =
        record {
          before = x ∷ f.before;
          value = f.value;
          behind = f.behind;
          among = ap (λ (l : List X). x ∷ l) f.among;
          so = f.so;
          none_before = (isnt, f.none_before);
          rest = f.rest;
        }
    passed x xs isnt None f = (isnt, f)

    one_by_one : (xs : List X) (x : X) (q : Part) → PartOf piece Good s q x → drop q.at s ≡ fields_bytes (map piece (x ∷ xs))
        → Says xs (first_part ok s q.to) → (b : Bool) → ok q ≡ b → Says (x ∷ xs) (first_part ok s q.at)
    one_by_one xs x q o made rest true e =
        rw (first_hit ok s q o.stands e)
        (record {
          before = [];
          value = x;
          behind = xs;
          among = refl;
          so = told q x o e;
          none_before = tt;
          rest = made;
        })
    one_by_one xs x q o made rest false e =
        rw (first_miss ok s q o.stands e)
        (passed x xs (λ h. false≢true (sym e ∙ wants q x o h)) (first_part ok s q.to) rest)

    values_first : (xs : List X) (at : ℕ) → All Good xs → drop at s ≡ fields_bytes (map piece xs) → Says xs (first_part ok s at)
    unfolding fields_bytes
    values_first [] at g made = rw (first_none ok s at (inl (rest_empty s at made))) tt
    values_first (x ∷ xs) at g made =
        let back : List ℕ = fields_bytes (map piece xs) in
        let q : Part = part_at at (piece x).tag (length (piece x).body) in
        let o : PartOf piece Good s q x =
        record {
          stands = made_field s at (piece x).tag (piece x).body back made;
          good = g.0;
          is = sym (made_piece s at (piece x).tag (piece x).body back made);
        } in
        one_by_one xs x q o made
        (values_first xs q.to g.1 (made_back s at (piece x).tag (piece x).body back made)) (ok q) refl

    -- the search answers the first value that is so, or that none is
    pub search_is : (at : ℕ) (m : Made piece Good (drop at s)) → Says m.values (first_part ok s at)
    search_is at m = values_first m.values at m.good m.bytes

-- an answer by place: a search that does not start at 0 finds nothing at 0
pub finds_is : {X : Type 0} (piece : X → Piece) (Good : X → Type 0) (s : List ℕ) (ok : Part → Bool) (So : X → Type 0) (xs : List X) (from : ℕ)
    → 0 < from → Says piece Good s ok So xs (first_part ok s from) → Finds s piece So xs (place_of (first_part ok s from))
finds_is {X} piece Good s ok So xs from some says = by (first_part ok s from) refl says
  where
    by : (r : Option ℕ) → first_part ok s from ≡ r → Says piece Good s ok So xs r → Finds s piece So xs (place_of r)
    by (Some place) e f =
        let bounds = first_bounds ok s from place e in
        record { none = λ h. absurd (omega (arith, bounds.0)); first = λ h. f }
    by None e f = record { none = λ h. f; first = λ h. absurd (omega arith) }

-- the field of what was found stands at its place
pub first_stands : {X : Type 0} {piece : X → Piece} {s : List ℕ} {So : X → Type 0} {xs : List X} {place : ℕ}
    (f : FirstSo s piece So xs place) → StandsAt s piece f.value place
unfolding fields_bytes
first_stands {X} {piece} {s} {So} {xs} {place} f =
    let tag : ℕ = (piece f.value).tag in
    let body : List ℕ = (piece f.value).body in
    let back : List ℕ = fields_bytes (map piece f.behind) in
    record {
      part = part_at place tag (length body);
      stands = made_field s place tag body back f.rest;
      is = sym (made_piece s place tag body back f.rest);
      here = refl;
    }

-- what stands in a cut text stands in the whole
pub stands_whole : {X : Type 0} {piece : X → Piece} (s : List ℕ) (cut : ℕ) {x : X} {place : ℕ} → StandsAt (take cut s) piece x place → StandsAt s piece x place
stands_whole s cut a =
    let w = stands_widens s cut a.part a.stands in
    record { part = a.part; stands = w.0; is = a.is ∙ piece_take s cut a.part w.1; here = a.here }
