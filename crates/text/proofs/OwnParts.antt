-- What code cuts out of a slice is the caller's own: the cut says from which element, and how many are taken. Assumes nothing.
use Prim.Native.Nat.{ℕ, ◌+◌, ◌-◌, ◌*◌, ◌≤◌, ◌<◌}
use mathlib.Core.Path.{◌≡◌, refl, sym, ap, subst, ◌∙◌}
use mathlib.Core.List.{List, [], ◌∷◌, ◌++◌}
use native.Mathlib.Omega.{arith}
use lib.ListN.{length, take, drop, length-append, length-drop, take-append-drop}
use lib.Seq.{length-take-le, take-append-le, drop-append-le}
use Rattle.text.proofs.Stripping.{rest_is}
use Rattle.text.specs.Part.{Slice, OwnPart, OwnBytes, or_start, OwnText}

-- a text of a byte or more lies at its place
pub some_place : (place : ℕ) (text : List ℕ) → 0 < length text → place ≡ or_start place text
unfolding or_start
some_place place [] h = absurd (omega (arith, h))
some_place place (b ∷ text) h = refl

-- no second part: two that are so lie at one place and have the same elements
pub one_part : {size : ℕ} {lent a b : Slice} {from : ℕ} {elements : List ℕ} → OwnPart size lent from elements a → OwnPart size lent from elements b
    → (a.ref_ptr.0 ≡ b.ref_ptr.0) × (a.ref_ptr.1 ≡ b.ref_ptr.1) × (a.now ≡ b.now)
one_part h k = (h.memory ∙ sym k.memory, h.place ∙ sym k.place, h.is ∙ sym k.is)

module _ {size : ℕ} {lent part : Slice} where
  -- so many elements from one onward, as code cuts them
  pub own_cut : {from : ℕ} (count : ℕ) {elements : List ℕ}
      → part.now ≡ take count (drop from lent.now) → part.ref_ptr.0 ≡ lent.ref_ptr.0 → part.ref_ptr.1 ≡ lent.ref_ptr.1 + from * size
      → from + count ≤ length lent.now → part.now ≡ elements → OwnPart size lent from elements part
  own_cut {from} count {elements} cut memory place fits is =
      let long : length elements ≡ count =
      ap length (sym is ∙ cut) ∙ length-take-le count (drop from lent.now) (omega (arith, fits, length-drop from lent.now)) in
      record {
        is = is;
        memory = memory;
        place = place;
        within = omega (arith, fits, long);
        own = ap (λ (n : ℕ). take n (drop from lent.now)) long ∙ sym cut ∙ is;
      }

  -- all elements from one onward, as code cuts them
  pub own_rest : {from : ℕ} {elements : List ℕ} → from ≤ length lent.now
      → part.now ≡ take (length lent.now - from) (drop from lent.now) → part.ref_ptr.0 ≡ lent.ref_ptr.0 → part.ref_ptr.1 ≡ lent.ref_ptr.1 + from * size
      → part.now ≡ elements → OwnPart size lent from elements part
  own_rest {from} fits cut memory place is = own_cut (length lent.now - from) cut memory place (omega (arith, fits)) is

  -- the same elements in other words
  pub own_is : {from : ℕ} {a b : List ℕ} → a ≡ b → OwnPart size lent from a part → OwnPart size lent from b part
  own_is {from} e h = subst (λ (l : List ℕ). OwnPart size lent from l part) e h

  -- the same place in other words
  pub own_from : {from other : ℕ} {a : List ℕ} → from ≡ other → OwnPart size lent from a part → OwnPart size lent other a part
  own_from {a = a} e h = subst (λ (n : ℕ). OwnPart size lent n a part) e h

  -- a part of the first elements of what is lent
  pub own_front : {front : Slice} {from : ℕ} (to : ℕ) {a : List ℕ}
      → front.now ≡ take to lent.now → front.ref_ptr.0 ≡ lent.ref_ptr.0 → front.ref_ptr.1 ≡ lent.ref_ptr.1
      → OwnPart size front from a part → OwnPart size lent from a part
  own_front {front} {from} to {a} is memory place h =
      let whole : front.now ++ drop to lent.now ≡ lent.now = ap (λ (l : List ℕ). l ++ drop to lent.now) is ∙ take-append-drop to lent.now in
      let inside = h.within in
      let more : length lent.now ≡ length front.now + length (drop to lent.now) = ap length (sym whole) ∙ length-append front.now (drop to lent.now) in
      record {
        is = h.is;
        memory = h.memory ∙ memory;
        place = h.place ∙ ap (λ (n : ℕ). n + from * size) place;
        within = omega (arith, inside, more);
        own =
            ap (λ (l : List ℕ). take (length a) (drop from l)) (sym whole)
            ∙ ap (take (length a)) (drop-append-le from front.now (drop to lent.now) (omega (arith, inside)))
            ∙ take-append-le (length a) (drop from front.now) (drop to lent.now) (omega (arith, inside, length-drop from front.now))
            ∙ h.own;
      }

-- ---- bytes that end what is lent

module _ {lent part : Slice} {elements : List ℕ} where
  -- the end of what is lent, as code cuts it
  pub own_end : (from : ℕ) → from ≤ length lent.now
      → part.now ≡ take (length lent.now - from) (drop from lent.now) → part.ref_ptr.0 ≡ lent.ref_ptr.0 → part.ref_ptr.1 ≡ lent.ref_ptr.1 + from
      → part.now ≡ elements → OwnBytes lent (length lent.now - length elements) elements part
  own_end from fits cut memory place is =
      let o : OwnBytes lent from elements part = own_rest fits cut memory (omega (arith, place)) is in
      let long : length elements ≡ length lent.now - from =
      ap length (sym is ∙ cut) ∙ length-take-le (length lent.now - from) (drop from lent.now) (omega (arith, length-drop from lent.now)) in
      own_from (omega (arith, long, fits)) o

  -- what is lent, whole
  pub own_whole : part.now ≡ lent.now → part.ref_ptr.0 ≡ lent.ref_ptr.0 → part.ref_ptr.1 ≡ lent.ref_ptr.1 → lent.now ≡ elements
      → OwnBytes lent (length lent.now - length elements) elements part
  own_whole all memory place is = own_end 0 (omega arith) (all ∙ sym (rest_is 0 lent.now)) memory (omega (arith, place)) (all ∙ is)

-- ---- texts

module _ {lent part : Slice} (place : ℕ) {text : List ℕ} where
  -- a text as code cuts it, which has a byte or more
  pub own_text : (count : ℕ)
      → part.now ≡ take count (drop place lent.now) → part.ref_ptr.0 ≡ lent.ref_ptr.0 → part.ref_ptr.1 ≡ lent.ref_ptr.1 + place
      → place + count ≤ length lent.now → part.now ≡ text → 0 < count → OwnText lent place text part
  own_text count cut memory there fits is some =
      let o : OwnBytes lent place text part = own_cut count cut memory (omega (arith, there)) fits is in
      let long : length text ≡ count =
      ap length (sym is ∙ cut) ∙ length-take-le count (drop place lent.now) (omega (arith, fits, length-drop place lent.now)) in
      own_from (some_place place text (omega (arith, long, some))) o

  -- no text: the empty part at the start
  pub no_text : part.now ≡ [] → part.ref_ptr.0 ≡ lent.ref_ptr.0 → part.ref_ptr.1 ≡ lent.ref_ptr.1 → [] ≡ text → OwnText lent place text part
  unfolding or_start
  no_text none memory there is =
      subst (λ (t : List ℕ). OwnText lent place t part) is (own_cut 0 none memory (omega (arith, there)) (omega arith) none)

  -- the same text and the same place in other words
  pub text_is : (from : ℕ) {other : List ℕ} → other ≡ text → from ≡ place → OwnText lent from other part → OwnText lent place text part
  text_is from {other} e p h = subst (λ (t : List ℕ). OwnText lent place t part) e (subst (λ (n : ℕ). OwnText lent n other part) p h)
