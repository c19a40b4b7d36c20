-- A walk steps from field to field: the answer for a text from a place on is the field there joined to the answer from the field's end on. The
-- bytes of a body are passed one by one, which is to pass them all at once. Assumes nothing.
use Prim.Native.Nat.{ℕ, zero, suc, ◌+◌, ◌≤◌, ◌<◌}
use mathlib.Core.Path.{◌≡◌, ◌∙◌, sym, ap, ap₂, refl}
use mathlib.Core.Bool.{Bool, true, false, cond, not, ◌&&◌, and-false}
use mathlib.Core.List.{List, [], ◌∷◌, foldr}
use native.Mathlib.Nat.{add-zero}
use native.Mathlib.Omega.{arith}
use borrow.Author.Tests.{le-leb, lt-leb}
use lib.Dec.{leb}
use lib.ListN.{length, get_or, drop, length-drop, drop_of_length-le}
use lib.Seq.{drop-drop}
use Rattle.tlv.specs.declared.Step.{Step}
use Rattle.tlv.specs.declared.Step.TheVariants.{Field, Stray, Overrun, End}
use Rattle.tlv.specs.Number.{number}
use Rattle.tlv.specs.Grammar.{All}
use Rattle.tlv.specs.Reading.{
  field_at,
  refusal_of,
  Part,
  part_at,
  Stands,
  walk_from,
  walk,
  parts,
  filled,
  fills,
  all,
  has,
  once,
}
use Rattle.tlv.proofs.Fields.{Found, field_found, two_bytes, three_bytes, end_is, end_all, stray_is, overrun_is}

module _ (s : List ℕ) (P : ℕ → Type 0)
    (ends : (at : ℕ) → field_at s at ≡ End → P at) (cuts : (at : ℕ) → refusal_of (field_at s at) ≡ 31 → P at)
    (steps : (p : Part) → Stands s p → P p.to → P p.at) where
  one_step : (left at : ℕ) → length s ≤ suc left + at → ((to : ℕ) → length s ≤ left + to → P to)
      → (r : Step) → field_at s at ≡ r → P at
  one_step left at h rest (Field tag from to) e =
      let f : Found s at tag from to = field_found s at e in
      steps (record { at = at; tag = tag; from = from; to = to }) e (rest to (omega arith))
  one_step left at h rest Stray e = cuts at (ap refusal_of e)
  one_step left at h rest Overrun e = cuts at (ap refusal_of e)
  one_step left at h rest End e = ends at e

  with_left : (left at : ℕ) → length s ≤ left + at → P at
  with_left zero at h = ends at (end_all s at (omega arith))
  with_left (suc left) at h = one_step left at h (λ to k. with_left left to k) (field_at s at) refl

  -- induction from field to field: what holds at the end, where a field runs past it, and at a field if it holds after that field, holds everywhere
  pub by_fields : (at : ℕ) → P at
  by_fields at = with_left (length s) at (omega arith)

and_swap : (a b c : Bool) → (a && (b && c)) ≡ (b && (a && c))
and_swap true b c = refl
and_swap false b c = sym (and-false b)

and_interchange : (a b c d : Bool) → (a && b && (c && d)) ≡ (a && c && (b && d))
and_interchange true b c d = and_swap b c d
and_interchange false b c d = refl

module _ {A : Type 0} (each : Part → A → A) (end cut : A) where
  -- the bytes of a body are passed
  skip_body : (k at : ℕ) (r : List ℕ) → k ≤ length r → walk_from each end cut k at r ≡ walk_from each end cut 0 (at + k) (drop k r)
  unfolding walk_from
  skip_body zero at r h = rw (add-zero at)
  skip_body (suc k) at [] h = absurd (omega arith)
  skip_body (suc k) at (x ∷ r) h =
      let e : suc at + k ≡ at + suc k = omega arith in
      skip_body k (suc at) r (omega arith) ∙ ap (λ (n : ℕ). walk_from each end cut 0 n (drop k r)) e

  stray_rest : (at : ℕ) (r : List ℕ) → 0 < length r → length r < 3 → walk_from each end cut 0 at r ≡ cut
  unfolding walk_from
  stray_rest at [] h k = absurd (omega arith)
  stray_rest at (a ∷ []) h k = refl
  stray_rest at (a ∷ b ∷ []) h k = refl
  stray_rest at (a ∷ b ∷ c ∷ r) h k = absurd (omega arith)

  -- tag and length are there, and the walk goes by the body
  body_decides : (s : List ℕ) (at : ℕ) → at + 3 ≤ length s
      → walk each end cut s at
      ≡ cond (leb (number 2 s (at + 1)) (length (drop (at + 3) s)))
      (each (part_at at (get_or s at 0) (number 2 s (at + 1))) (walk_from each end cut (number 2 s (at + 1)) (at + 3) (drop (at + 3) s)))
      cut
  unfolding walk walk_from
  body_decides s at h =
      let third : at + 1 + 1 ≡ at + 2 = omega arith in
      rw (three_bytes s at h, two_bytes s (at + 1), third)

  module _ (s : List ℕ) where
    -- at the end
    pub walk_end : (at : ℕ) → field_at s at ≡ End → walk each end cut s at ≡ end
    unfolding walk walk_from
    walk_end at e = rw (drop_of_length-le s {i = at} (end_is s at e))

    -- where a field runs past the end
    pub walk_cut : (at : ℕ) → refusal_of (field_at s at) ≡ 31 → walk each end cut s at ≡ cut
    unfolding walk
    walk_cut at e = by (field_at s at) refl e
      where
        by : (r : Step) → field_at s at ≡ r → refusal_of r ≡ 31 → walk each end cut s at ≡ cut
        by (Field tag from to) k h = absurd (omega arith)
        by Stray k h =
            let w = stray_is s at k in
            stray_rest at (drop at s) (rw (length-drop at s) (omega arith)) (rw (length-drop at s) (omega arith))
        by Overrun k h =
            let w = overrun_is s at k in
            let short : length (drop (at + 3) s) < number 2 s (at + 1) = omega (arith, length-drop (at + 3) s) in
            body_decides s at w.0 ∙ rw (lt-leb (number 2 s (at + 1)) (length (drop (at + 3) s)) short)
        by End k h = absurd (omega arith)

    -- at a field: the answer for the whole is the field joined to the answer for the rest
    pub walk_field : (p : Part) → Stands s p → walk each end cut s p.at ≡ each p (walk each end cut s p.to)
    unfolding walk
    walk_field p e =
        let f : Found s p.at p.tag p.from p.to = field_found s p.at e in
        let size : ℕ = number 2 s (p.at + 1) in
        let fits : size ≤ length (drop (p.at + 3) s) = omega (arith, length-drop (p.at + 3) s) in
        let after : p.at + 3 + size ≡ p.to = omega arith in
        let same : part_at p.at (get_or s p.at 0) size ≡ p =
        λ i. record { at = p.at; tag = sym f.tag_is i; from = sym f.from_is i; to = after i } in
        let rest : walk_from each end cut size (p.at + 3) (drop (p.at + 3) s) ≡ walk_from each end cut 0 p.to (drop p.to s) =
        skip_body size (p.at + 3) (drop (p.at + 3) s) fits
        ∙ ap (walk_from each end cut 0 (p.at + 3 + size)) (drop-drop size (p.at + 3) s)
        ∙ ap (λ (n : ℕ). walk_from each end cut 0 n (drop n s)) after in
        body_decides s p.at (omega arith)
        ∙ rw (le-leb size (length (drop (p.at + 3) s)) fits) (ap₂ each same rest)

module _ (s : List ℕ) where
  -- the fields from a place on: none at the end, none where one runs past it, else the field there and those after it
  pub parts_end : (at : ℕ) → field_at s at ≡ End → parts s at ≡ []
  unfolding parts
  parts_end = walk_end ◌∷◌ [] [] s

  pub parts_cut : (at : ℕ) → refusal_of (field_at s at) ≡ 31 → parts s at ≡ []
  unfolding parts
  parts_cut = walk_cut ◌∷◌ [] [] s

  pub parts_field : (p : Part) → Stands s p → parts s p.at ≡ p ∷ parts s p.to
  unfolding parts
  parts_field = walk_field ◌∷◌ [] [] s

  -- each of the parts stands in the text
  pub parts_stand : (at : ℕ) → All (Stands s) (parts s at)
  parts_stand =
      by_fields s (λ at. All (Stands s) (parts s at))
      (λ at e. rw (parts_end at e) tt)
      (λ at e. rw (parts_cut at e) tt)
      (λ p e rest. rw (parts_field p e) (e, rest))

  module _ (ok : Part → Bool) where
    -- the test of all fields: true at the end, false where a field runs past it, else the field's test and the test of those after it
    pub filled_end : (at : ℕ) → field_at s at ≡ End → filled ok s at ≡ true
    unfolding filled
    filled_end = walk_end (λ p rest. ok p && rest) true false s

    pub filled_cut : (at : ℕ) → refusal_of (field_at s at) ≡ 31 → filled ok s at ≡ false
    unfolding filled
    filled_cut = walk_cut (λ p rest. ok p && rest) true false s

    pub filled_field : (p : Part) → Stands s p → filled ok s p.at ≡ (ok p && filled ok s p.to)
    unfolding filled
    filled_field = walk_field (λ p rest. ok p && rest) true false s

  -- a walk is a fold over the parts, which starts by whether they fill the text
  pub walk_folds : {A : Type 0} (each : Part → A → A) (end cut : A) (at : ℕ)
      → walk each end cut s at ≡ foldr each (cond (fills s at) end cut) (parts s at)
  walk_folds each end cut =
      by_fields s (λ at. walk each end cut s at ≡ foldr each (cond (fills s at) end cut) (parts s at))
      (λ at e. rw (walk_end each end cut s at e, filled_end (λ p. true) at e, parts_end at e))
      (λ at e. rw (walk_cut each end cut s at e, filled_cut (λ p. true) at e, parts_cut at e))
      (λ p e rest. rw (walk_field each end cut s p e, filled_field (λ p. true) p e, parts_field p e) (ap (each p) rest))

  -- the test of all fields is that they fill the text, and the test of each
  pub filled_all : (ok : Part → Bool) (at : ℕ) → filled ok s at ≡ (fills s at && all ok (parts s at))
  filled_all ok =
      by_fields s (λ at. filled ok s at ≡ (fills s at && all ok (parts s at)))
      (λ at e. rw (filled_end ok at e, filled_end (λ p. true) at e, parts_end at e))
      (λ at e. rw (filled_cut ok at e, filled_cut (λ p. true) at e))
      (λ p e rest.
      rw (filled_field ok p e, filled_field (λ p. true) p e, parts_field p e, rest)
      (and_swap (ok p) (fills s p.to) (all ok (parts s p.to))))

  -- to ask of each field that none after it is the same is to ask that nothing stands twice
  pub filled_once : (ok : Part → Bool) (same : Part → Part → Bool) (at : ℕ)
      → filled (λ p. ok p && not (has (same p) (parts s p.to))) s at ≡ (filled ok s at && once same (parts s at))
  filled_once ok same =
      by_fields s (λ at. filled new s at ≡ (filled ok s at && once same (parts s at)))
      (λ at e. rw (filled_end new at e, filled_end ok at e, parts_end at e))
      (λ at e. rw (filled_cut new at e, filled_cut ok at e))
      (λ p e rest.
      rw (filled_field new p e, filled_field ok p e, parts_field p e, rest)
      (and_interchange (ok p) (not (has (same p) (parts s p.to))) (filled ok s p.to) (once same (parts s p.to))))
    where
      new : Part → Bool
      new p = ok p && not (has (same p) (parts s p.to))
