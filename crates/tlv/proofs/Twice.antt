-- Nothing stands twice among the parts of a text if and only if no two of the values that it is made from clash: element by element, each against
-- the later ones. Assumes nothing.
use Prim.Native.Nat.{ℕ}
use mathlib.Core.Path.{◌≡◌, ◌∙◌, sym, refl}
use mathlib.Core.Bool.{Bool, true, false, not, ◌||◌, false≢true}
use mathlib.Core.List.{List, [], ◌∷◌, map}
use borrow.Author.Tests.{not-true}
use lib.ListN.{length, drop}
use Rattle.tlv.specs.Grammar.{Piece, fields_bytes, All, Apart, Made}
use Rattle.tlv.specs.Reading.{Part, part_at, Stands, piece_of, parts, has, once}
use Rattle.tlv.proofs.Walks.{parts_end, parts_field}
use Rattle.tlv.proofs.Pieces.{both_true, rest_empty, made_field, made_back, made_piece}

either_false : (a b : Bool) → (a || b) ≡ false → (a ≡ false) × (b ≡ false)
either_false true b h = absurd (false≢true (sym h))
either_false false b h = (refl, h)

false_unless : (b : Bool) → (b ≡ true → ⊥) → b ≡ false
false_unless true h = absurd (h refl)
false_unless false h = refl

module _ {X : Type 0} (piece : X → Piece) (Good : X → Type 0) (s : List ℕ) where
  -- a part of the text and the value that it is made from
  pub record PartOf (p : Part) (x : X) : Type 0 where
    pub stands : Stands s p
    pub good : Good x
    pub is : piece x ≡ piece_of s p

  -- from a place on the text is made from these values, each of them Good
  abbrev Holds : ℕ → List X → Type 0
  Holds at xs = All Good xs × (drop at s ≡ fields_bytes (map piece xs))

  -- the first part of such a text, and the rest
  record First (at : ℕ) (x : X) (xs : List X) : Type 0 where
    part : Part
    of : PartOf part x
    before : parts s at ≡ part ∷ parts s part.to
    rest : Holds part.to xs

  first_part : (at : ℕ) (x : X) (xs : List X) → Holds at (x ∷ xs) → First at x xs
  unfolding fields_bytes
  first_part at x xs h =
      let tag : ℕ = (piece x).tag in
      let body : List ℕ = (piece x).body in
      let back : List ℕ = fields_bytes (map piece xs) in
      let stands : Stands s (part_at at tag (length body)) = made_field s at tag body back h.1 in
      record {
        part = part_at at tag (length body);
        of = record { stands = stands; good = h.0.0; is = sym (made_piece s at tag body back h.1) };
        before = parts_field s (part_at at tag (length body)) stands;
        rest = (h.0.1, made_back s at tag body back h.1);
      }

  no_part : (at : ℕ) → Holds at [] → parts s at ≡ []
  unfolding fields_bytes
  no_part at h = parts_end s at (rest_empty s at h.1)

  module _ (same : Part → Part → Bool) (Clash : X → X → Type 0) where
    module _ (clashing : (p q : Part) (x y : X) → PartOf p x → PartOf q y → Clash x y → same p q ≡ true) where
      none-clashes : (p : Part) (x : X) → PartOf p x → (ys : List X) (at : ℕ) → Holds at ys
          → has (same p) (parts s at) ≡ false → All (λ y. Clash x y → ⊥) ys
      none-clashes p x o [] at h e = tt
      none-clashes p x o (y ∷ ys) at h e =
          let f : First at y ys = first_part at y ys h in
          let w = either_false (same p f.part) (has (same p) (parts s f.part.to)) (rw f.before at e) in
          ((λ k. false≢true (sym w.0 ∙ clashing p f.part x y o f.of k)), none-clashes p x o ys f.part.to f.rest w.1)

      values_apart : (xs : List X) (at : ℕ) → Holds at xs → once same (parts s at) ≡ true → Apart Clash xs
      values_apart [] at h e = tt
      values_apart (x ∷ xs) at h e =
          let f : First at x xs = first_part at x xs h in
          let later : Bool = has (same f.part) (parts s f.part.to) in
          let w = both_true (not later) (once same (parts s f.part.to)) (rw f.before at e) in (
            none-clashes f.part x f.of xs f.part.to f.rest (not-true later w.0),
            values_apart xs f.part.to f.rest w.1,
          )

      -- sound: if parts of clashing values are the same to the test, then where no part is the same as a later one, no two values clash
      pub once-apart : (at : ℕ) (m : Made piece Good (drop at s)) → once same (parts s at) ≡ true → Apart Clash m.values
      once-apart at m = values_apart m.values at (m.good, m.bytes)

    module _ (telling : (p q : Part) (x y : X) → PartOf p x → PartOf q y → same p q ≡ true → Clash x y) where
      none-same : (p : Part) (x : X) → PartOf p x → (ys : List X) (at : ℕ) → Holds at ys
          → All (λ y. Clash x y → ⊥) ys → has (same p) (parts s at) ≡ false
      none-same p x o [] at h a = rw (no_part at h)
      none-same p x o (y ∷ ys) at h a =
          let f : First at y ys = first_part at y ys h in
          let here : same p f.part ≡ false = false_unless (same p f.part) (λ k. a.0 (telling p f.part x y o f.of k)) in
          rw (f.before, here) (none-same p x o ys f.part.to f.rest a.1)

      values-once : (xs : List X) (at : ℕ) → Holds at xs → Apart Clash xs → once same (parts s at) ≡ true
      values-once [] at h a = rw (no_part at h)
      values-once (x ∷ xs) at h a =
          let f : First at x xs = first_part at x xs h in
          let here : has (same f.part) (parts s f.part.to) ≡ false =
          none-same f.part x f.of xs f.part.to f.rest a.0 in
          rw (f.before, here) (values-once xs f.part.to f.rest a.1)

      -- complete: if values whose parts are the same to the test clash, then where no two values clash, no part is the same as a later one
      pub apart-once : (at : ℕ) (m : Made piece Good (drop at s)) → Apart Clash m.values → once same (parts s at) ≡ true
      apart-once at m = values-once m.values at (m.good, m.bytes)
