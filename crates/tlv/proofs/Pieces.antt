-- The fields of a text fill it exactly if and only if the text is made from pieces, and from no others: a field's bytes are its part's, and behind
-- them the rest is made from the other pieces. Assumes nothing.
use Prim.Native.Nat.{ℕ, ◌+◌, ◌-◌, ◌*◌, ◌/◌, ◌%◌, ◌≤◌, ◌<◌}
use mathlib.Core.Path.{◌≡◌, ◌∙◌, sym, ap, ap₂, subst, refl}
use mathlib.Core.Bool.{Bool, true, false, ◌&&◌, false≢true}
use mathlib.Core.List.{List, [], ◌∷◌, ◌++◌, map, foldr, append_assoc, nil≢cons, head-eq_of_cons-eq, tail-eq_of_cons-eq}
use mathlib.Core.Logic.{◌↔◌}
use native.Mathlib.Nat.{mod-add-div}
use native.Mathlib.Omega.{arith}
use borrow.Author.Tests.{le-leb}
use lib.ListN.{length, get_or, drop, length-append, drop_of_length-le}
use lib.Seq.{drop-drop, drop-append_seam, take-append_seam}
use Rattle.tlv.specs.declared.Step.TheVariants.{Field, End}
use Rattle.tlv.specs.Number.{Bytes, number, number_bytes}
use Rattle.tlv.specs.Grammar.{Piece, Sized, field_bytes, fields_bytes, All, Filled, FromValue, Made}
use Rattle.tlv.specs.Reading.{
  step_from,
  field_at,
  Part,
  part_at,
  Stands,
  between,
  piece_of,
  walk,
  parts,
  filled,
  fills,
  places,
}
use Rattle.tlv.proofs.Numbers.{number_below}
use Rattle.tlv.proofs.Fields.{Found, field_found, two_bytes, three_bytes, end_is}
use Rattle.tlv.proofs.Places.{between_is, between_length, between_join}
use Rattle.tlv.proofs.Walks.{
  by_fields,
  walk_end,
  walk_field,
  parts_end,
  parts_cut,
  parts_field,
  filled_end,
  filled_cut,
  filled_field,
}

-- ---- the bytes of fields

-- a field's bytes, with its length as a number of two bytes
pub field_bytes_number : (tag : ℕ) (body : List ℕ) → length body < 65536
    → field_bytes tag body ≡ tag ∷ (number_bytes 2 (length body) ++ body)
unfolding field_bytes number_bytes
field_bytes_number tag body h =
    let high : length body / 256 % 256 ≡ length body / 256 = omega arith in
    rw high

pub field_bytes_length : (tag : ℕ) (body : List ℕ) → length (field_bytes tag body) ≡ length body + 3
unfolding field_bytes
field_bytes_length tag body = omega arith

-- fields behind fields
pub fields_bytes_append : (ps qs : List Piece) → fields_bytes (ps ++ qs) ≡ fields_bytes ps ++ fields_bytes qs
unfolding fields_bytes
fields_bytes_append [] qs = refl
fields_bytes_append (p ∷ ps) qs =
    ap (λ (l : List ℕ). field_bytes p.tag p.body ++ l) (fields_bytes_append ps qs)
    ∙ sym (append_assoc (field_bytes p.tag p.body) (fields_bytes ps) (fields_bytes qs))

-- ---- a field made from a tag and a body

module _ (s : List ℕ) (at tag : ℕ) (body back : List ℕ) (made : drop at s ≡ field_bytes tag body ++ back) where
  -- it is what stands at its place
  pub made_field : Stands s (part_at at tag (length body))
  unfolding field_at step_from field_bytes
  made_field =
      let size : length body % 256 + 256 * (length body / 256) ≡ length body = mod-add-div (length body) 256 in
      let fits : length body ≤ length (body ++ back) = omega (arith, length-append body back) in
      rw (made, size, le-leb (length body) (length (body ++ back)) fits)

  behind_head : drop (at + 3) s ≡ body ++ back
  unfolding field_bytes
  behind_head = sym (drop-drop 3 at s) ∙ ap (drop 3) made

  -- behind it comes what was put behind it
  pub made_back : drop (at + 3 + length body) s ≡ back
  made_back = sym (drop-drop (length body) (at + 3) s) ∙ ap (drop (length body)) behind_head ∙ drop-append_seam body back

  -- its body is the body that it was made from
  pub made_body : between s (at + 3) (at + 3 + length body) ≡ body
  made_body =
      let size : at + 3 + length body - (at + 3) ≡ length body = omega arith in
      between_is s (at + 3) (at + 3 + length body) ∙ rw (size, behind_head) (take-append_seam body back)

  pub made_piece : piece_of s (part_at at tag (length body)) ≡ record { tag = tag; body = body }
  made_piece = λ i. record { tag = tag; body = made_body i }

-- a field made behind a front is what stands where the front ends
pub made_after : (front : List ℕ) (tag : ℕ) (body back : List ℕ)
    → field_at (front ++ (field_bytes tag body ++ back)) (length front) ≡ Field tag (length front + 3) (length front + 3 + length body)
made_after front tag body back =
    made_field (front ++ (field_bytes tag body ++ back)) (length front) tag body back
    (drop-append_seam front (field_bytes tag body ++ back))

-- ---- a part of a text of bytes

module _ (s : List ℕ) (bytes : Bytes s) (p : Part) (stands : Stands s p) where
  -- its tag is a byte and its body's length fits two bytes
  pub part_sized : Sized (piece_of s p)
  part_sized =
      let f : Found s p.at p.tag p.from p.to = field_found s p.at stands in
      record {
        tag_fits = rw f.tag_is (bytes p.at);
        body_fits =
            rw (between_length s p.from p.to f.within)
            (omega (arith, f.from_is, f.to_is, number_below 2 s bytes (p.at + 1)));
      }

  -- it was made from its tag and its body
  pub part_made : drop p.at s ≡ field_bytes p.tag (between s p.from p.to) ++ drop p.to s
  unfolding field_bytes
  part_made =
      let f : Found s p.at p.tag p.from p.to = field_found s p.at stands in
      let third : p.at + 1 + 1 ≡ p.at + 2 = omega arith in
      let size : number 2 s (p.at + 1) ≡ get_or s (p.at + 1) 0 + 256 * get_or s (p.at + 2) 0 =
      two_bytes s (p.at + 1) ∙ ap (λ (n : ℕ). get_or s (p.at + 1) 0 + 256 * get_or s n 0) third in
      let long : length (between s p.from p.to) ≡ get_or s (p.at + 1) 0 + 256 * get_or s (p.at + 2) 0 =
      between_length s p.from p.to f.within ∙ omega arith in
      let low : (get_or s (p.at + 1) 0 + 256 * get_or s (p.at + 2) 0) % 256 ≡ get_or s (p.at + 1) 0 = omega (arith, bytes (p.at + 1)) in
      let high : (get_or s (p.at + 1) 0 + 256 * get_or s (p.at + 2) 0) / 256 ≡ get_or s (p.at + 2) 0 = omega (arith, bytes (p.at + 1)) in
      let body : between s p.from p.to ++ drop p.to s ≡ drop p.from s = between_join s p.from p.to (omega arith) in
      rw (long, low, high, body, f.tag_is, f.from_is) (three_bytes s p.at (omega arith))

-- ---- a text made from pieces

rebuilt : (l : List Part) → foldr ◌∷◌ [] l ≡ l
rebuilt [] = refl
rebuilt (p ∷ l) = ap (λ (r : List Part). p ∷ r) (rebuilt l)

pub both_true : (a b : Bool) → (a && b) ≡ true → (a ≡ true) × (b ≡ true)
both_true true b h = (refl, h)
both_true false b h = absurd (false≢true h)

-- where nothing is left, the text is at its end
pub rest_empty : (s : List ℕ) (at : ℕ) → drop at s ≡ [] → field_at s at ≡ End
unfolding field_at step_from
rest_empty s at e = rw e

module _ (s : List ℕ) where
  -- a walk over made bytes is a fold over the pieces' parts
  pub made_walk : {A : Type 0} (each : Part → A → A) (end cut : A) (ps : List Piece) (at : ℕ)
      → drop at s ≡ fields_bytes ps → walk each end cut s at ≡ foldr each end (places at ps)
  unfolding fields_bytes places
  made_walk each end cut [] at e = walk_end each end cut s at (rest_empty s at e)
  made_walk each end cut (p ∷ ps) at e =
      walk_field each end cut s (part_at at p.tag (length p.body)) (made_field s at p.tag p.body (fields_bytes ps) e)
      ∙ ap (each (part_at at p.tag (length p.body)))
      (made_walk each end cut ps (at + 3 + length p.body) (made_back s at p.tag p.body (fields_bytes ps) e))

  -- its parts are those of the pieces, one behind the other
  pub made_parts : (ps : List Piece) (at : ℕ) → drop at s ≡ fields_bytes ps → parts s at ≡ places at ps
  unfolding parts
  made_parts ps at e = made_walk ◌∷◌ [] [] ps at e ∙ rebuilt (places at ps)

  -- the pieces of its parts are the pieces that it was made from
  pub made_pieces : (ps : List Piece) (at : ℕ) → drop at s ≡ fields_bytes ps → map (piece_of s) (parts s at) ≡ ps
  unfolding fields_bytes
  made_pieces [] at e = ap (map (piece_of s)) (parts_end s at (rest_empty s at e))
  made_pieces (p ∷ ps) at e =
      ap (map (piece_of s)) (parts_field s (part_at at p.tag (length p.body)) (made_field s at p.tag p.body (fields_bytes ps) e))
      ∙ ap₂ {A = Piece} {B = List Piece} ◌∷◌ (made_piece s at p.tag p.body (fields_bytes ps) e)
      (made_pieces ps (at + 3 + length p.body) (made_back s at p.tag p.body (fields_bytes ps) e))

  -- they fill it
  pub made_fills : (ps : List Piece) (at : ℕ) → drop at s ≡ fields_bytes ps → fills s at ≡ true
  unfolding fields_bytes
  made_fills [] at e = filled_end s (λ p. true) at (rest_empty s at e)
  made_fills (p ∷ ps) at e =
      filled_field s (λ p. true) (part_at at p.tag (length p.body)) (made_field s at p.tag p.body (fields_bytes ps) e)
      ∙ made_fills ps (at + 3 + length p.body) (made_back s at p.tag p.body (fields_bytes ps) e)

  -- fields that fill a text are what it was made from
  pub fills_made : Bytes s → (at : ℕ) → fills s at ≡ true → drop at s ≡ fields_bytes (map (piece_of s) (parts s at))
  unfolding fields_bytes
  fills_made bytes =
      by_fields s (λ at. fills s at ≡ true → drop at s ≡ fields_bytes (map (piece_of s) (parts s at)))
      (λ at e h. rw (parts_end s at e) (drop_of_length-le s {i = at} (end_is s at e)))
      (λ at e h. absurd (false≢true (sym (filled_cut s (λ p. true) at e) ∙ h)))
      (λ p e rest h.
      rw (parts_field s p e)
      (part_made s bytes p e
      ∙ ap (λ (l : List ℕ). field_bytes p.tag (between s p.from p.to) ++ l)
      (rest (sym (filled_field s (λ p. true) p e) ∙ h))))

  -- each of the parts is made from a piece of the right size
  pub parts_sized : Bytes s → (at : ℕ) → All Sized (map (piece_of s) (parts s at))
  parts_sized bytes =
      by_fields s (λ at. All Sized (map (piece_of s) (parts s at)))
      (λ at e. rw (parts_end s at e) tt)
      (λ at e. rw (parts_cut s at e) tt)
      (λ p e rest. rw (parts_field s p e) (part_sized s bytes p e, rest))

-- one reading: bytes are made from one list of pieces
pub one_making : (ps qs : List Piece) → fields_bytes ps ≡ fields_bytes qs → ps ≡ qs
one_making ps qs e = sym (made_pieces (fields_bytes ps) ps 0 refl) ∙ made_pieces (fields_bytes ps) qs 0 e

-- in a text of bytes each tag is a byte, and each body's length fits two bytes
pub made_sized : (s : List ℕ) → Bytes s → (ps : List Piece) (at : ℕ) → drop at s ≡ fields_bytes ps → All Sized ps
made_sized s bytes ps at e = subst (All Sized) (made_pieces s ps at e) (parts_sized s bytes at)

-- the test says exactly that the fields fill the text
pub fills_exactly : (s : List ℕ) → Bytes s → (at : ℕ) → (fills s at ≡ true) ↔ Filled (drop at s)
fills_exactly s bytes at = (
  (λ h. record { pieces = map (piece_of s) (parts s at); sized = parts_sized s bytes at; bytes = fills_made s bytes at h }),
  (λ f. made_fills s f.pieces at f.bytes),
)

-- and one list of pieces fills it
pub one_filling : {text : List ℕ} (f g : Filled text) → f.pieces ≡ g.pieces
one_filling f g = one_making f.pieces g.pieces (sym f.bytes ∙ g.bytes)

-- ---- the law of a level: a test of each field against the value that the field is made from

module _ {X : Type 0} (piece : X → Piece) (Good : X → Type 0) where
  module _ (told-apart : (x y : X) → Good x → Good y → piece x ≡ piece y → x ≡ y) where
    same_values : (xs ys : List X) → All Good xs → All Good ys → map piece xs ≡ map piece ys → xs ≡ ys
    same_values [] [] g h e = refl
    same_values [] (y ∷ ys) g h e = absurd (nil≢cons e)
    same_values (x ∷ xs) [] g h e = absurd (nil≢cons (sym e))
    same_values (x ∷ xs) (y ∷ ys) g h e =
        ap₂ {A = X} {B = List X} ◌∷◌ (told-apart x y g.0 h.0 (head-eq_of_cons-eq e))
        (same_values xs ys g.1 h.1 (tail-eq_of_cons-eq e))

    -- one reading, of values whose pieces tell them apart
    pub one_reading : {text : List ℕ} (m n : Made piece Good text) → m.values ≡ n.values
    one_reading m n =
        same_values m.values n.values m.good n.good
        (one_making (map piece m.values) (map piece n.values) (sym m.bytes ∙ n.bytes))

  module _ (s : List ℕ) (ok : Part → Bool) where
    -- sound: where a field that passes the test is made from a Good value, fields that fill the text and pass it are
    pub filled_made : Bytes s → ((p : Part) → Stands s p → ok p ≡ true → FromValue piece Good (piece_of s p))
        → (at : ℕ) → filled ok s at ≡ true → Made piece Good (drop at s)
    unfolding fields_bytes
    filled_made bytes good =
        by_fields s (λ at. filled ok s at ≡ true → Made piece Good (drop at s))
        (λ at e h. record { values = []; good = tt; bytes = drop_of_length-le s {i = at} (end_is s at e) })
        (λ at e h. absurd (false≢true (sym (filled_cut s ok at e) ∙ h)))
        (λ p e rest h. joined p e rest (both_true (ok p) (filled ok s p.to) (sym (filled_field s ok p e) ∙ h)))
      where
        joined : (p : Part) → Stands s p → (filled ok s p.to ≡ true → Made piece Good (drop p.to s))
            → (ok p ≡ true) × (filled ok s p.to ≡ true) → Made piece Good (drop p.at s)
        joined p e rest h =
            let v : FromValue piece Good (piece_of s p) = good p e h.0 in
            let m : Made piece Good (drop p.to s) = rest h.1 in
            record {
              values = v.value ∷ m.values;
              good = (v.good, m.good);
              bytes =
                  part_made s bytes p e
                  ∙ ap (λ (l : List ℕ). field_bytes p.tag (between s p.from p.to) ++ l) m.bytes
                  ∙ ap (λ (q : Piece). field_bytes q.tag q.body ++ fields_bytes (map piece m.values)) (sym v.is);
            }

    module _ (passes : (p : Part) → Stands s p → (x : X) → Good x → piece x ≡ piece_of s p → ok p ≡ true) where
      values-filled : (xs : List X) (at : ℕ) → All Good xs → drop at s ≡ fields_bytes (map piece xs) → filled ok s at ≡ true
      unfolding fields_bytes
      values-filled [] at g e = filled_end s ok at (rest_empty s at e)
      values-filled (x ∷ xs) at g e =
          let tag : ℕ = (piece x).tag in
          let body : List ℕ = (piece x).body in
          let q : Part = part_at at tag (length body) in
          let stands : Stands s q = made_field s at tag body (fields_bytes (map piece xs)) e in
          let here : ok q ≡ true = passes q stands x g.0 (sym (made_piece s at tag body (fields_bytes (map piece xs)) e)) in
          let rest : filled ok s q.to ≡ true =
          values-filled xs q.to g.1 (made_back s at tag body (fields_bytes (map piece xs)) e) in
          filled_field s ok q stands ∙ rw (here, rest)

      -- complete: where a field made from a Good value passes the test, a text made from Good values passes it field by field
      pub made-filled : (at : ℕ) → Made piece Good (drop at s) → filled ok s at ≡ true
      made-filled at m = values-filled m.values at m.good m.bytes
