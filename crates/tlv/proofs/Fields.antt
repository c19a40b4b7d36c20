-- What stands at a place is what the answer says, both ways: the answer goes by how much of the text is left, and a text is its part before the
-- place and its part from there on. Assumes nothing.
use Prim.Native.Nat.{ℕ, ◌+◌, ◌*◌, ◌≤◌, ◌<◌}
use mathlib.Core.Path.{◌≡◌, ◌∙◌, sym, ap, subst, subst⁻¹, refl}
use mathlib.Core.Bool.{cond}
use mathlib.Core.List.{List, [], ◌∷◌, ◌++◌}
use mathlib.Core.Logic.{◌⊎◌, inl, inr, ⊎_elim}
use native.Mathlib.Decide.{dec_le}
use native.Mathlib.Numerals.{add-one}
use native.Mathlib.Omega.{arith}
use borrow.Author.Tests.{le-leb, lt-leb}
use lib.Dec.{leb}
use lib.ListN.{length, get_or, take, drop, length-append, length-drop, take-append-drop, drop_of_length-le}
use lib.Seq.{drop-cons, drop_at, length-take-le}
use Rattle.tlv.specs.declared.Step.{Step}
use Rattle.tlv.specs.declared.Step.TheVariants.{Field, Stray, Overrun, End}
use Rattle.tlv.specs.Number.{number}
use Rattle.tlv.specs.Grammar.{FieldAt, RunsPast}
use Rattle.tlv.specs.Reading.{step_from, field_at, refusal_of}

-- the facts of a field that was found, by places
pub record Found (s : List ℕ) (at tag from to : ℕ) : Type 0 where
  pub tag_is : tag ≡ get_or s at 0
  pub from_is : from ≡ at + 3
  pub to_is : to ≡ from + number 2 s (at + 1)
  pub within : to ≤ length s

-- what an answer says of the text
abbrev pub Says : List ℕ → ℕ → Step → Type 0
Says s at (Field tag from to) = Found s at tag from to
Says s at Stray = (at < length s) × (length s < at + 3)
Says s at Overrun = (at + 3 ≤ length s) × (length s < at + 3 + number 2 s (at + 1))
Says s at End = length s ≤ at

-- the two bytes of a length
pub two_bytes : (s : List ℕ) (i : ℕ) → number 2 s i ≡ get_or s i 0 + 256 * get_or s (i + 1) 0
unfolding number
two_bytes s i = omega arith

-- the first byte of the rest
pub drop_first : (s : List ℕ) (i : ℕ) → i < length s → drop i s ≡ get_or s i 0 ∷ drop (i + 1) s
drop_first s i h = rw (add-one i) (drop-cons s i 0 h)

-- where there is room for tag and length, they are the first three bytes of the rest
pub three_bytes : (s : List ℕ) (at : ℕ) → at + 3 ≤ length s
    → drop at s ≡ get_or s at 0 ∷ get_or s (at + 1) 0 ∷ get_or s (at + 2) 0 ∷ drop (at + 3) s
three_bytes s at h =
    let second : at + 1 + 1 ≡ at + 2 = omega arith in
    let third : at + 2 + 1 ≡ at + 3 = omega arith in
    rw (drop_first s at (omega arith), drop_first s (at + 1) (omega arith), second, drop_first s (at + 2) (omega arith), third)

module _ (s : List ℕ) (at : ℕ) where
  -- at the end
  pub end_all : length s ≤ at → field_at s at ≡ End
  unfolding field_at step_from
  end_all h = rw (drop_of_length-le s {i = at} h)

  stray_rest : (r : List ℕ) → 0 < length r → length r < 3 → step_from at r ≡ Stray
  unfolding step_from
  stray_rest [] h k = absurd (omega arith)
  stray_rest (a ∷ []) h k = refl
  stray_rest (a ∷ b ∷ []) h k = refl
  stray_rest (a ∷ b ∷ c ∷ r) h k = absurd (omega arith)

  -- one or two bytes are left
  pub stray_all : at < length s → length s < at + 3 → field_at s at ≡ Stray
  unfolding field_at
  stray_all h k = stray_rest (drop at s) (rw (length-drop at s) (omega arith)) (rw (length-drop at s) (omega arith))

  -- tag and length are there, and the answer goes by the body
  body_decides : at + 3 ≤ length s
      → field_at s at
      ≡ cond (leb (number 2 s (at + 1)) (length (drop (at + 3) s))) (Field (get_or s at 0) (at + 3) (at + 3 + number 2 s (at + 1))) Overrun
  unfolding field_at step_from
  body_decides h =
      let third : at + 1 + 1 ≡ at + 2 = omega arith in
      rw (three_bytes s at h, two_bytes s (at + 1), third)

  -- the body runs past the end
  pub overrun_all : at + 3 ≤ length s → length s < at + 3 + number 2 s (at + 1) → field_at s at ≡ Overrun
  overrun_all h k =
      let short : length (drop (at + 3) s) < number 2 s (at + 1) = omega (arith, length-drop (at + 3) s) in
      body_decides h ∙ rw (lt-leb (number 2 s (at + 1)) (length (drop (at + 3) s)) short)

  -- the body fits
  pub found_all : at + 3 + number 2 s (at + 1) ≤ length s
      → field_at s at ≡ Field (get_or s at 0) (at + 3) (at + 3 + number 2 s (at + 1))
  found_all h =
      let fits : number 2 s (at + 1) ≤ length (drop (at + 3) s) = omega (arith, length-drop (at + 3) s) in
      body_decides (omega arith) ∙ rw (le-leb (number 2 s (at + 1)) (length (drop (at + 3) s)) fits)

  -- the same for a caller that has the three numbers by other names
  pub found_field : (tag from to : ℕ) → Found s at tag from to → field_at s at ≡ Field tag from to
  found_field tag from to f =
      let first : get_or s at 0 ≡ tag = sym f.tag_is in
      let second : at + 3 ≡ from = sym f.from_is in
      let third : at + 3 + number 2 s (at + 1) ≡ to = omega arith in
      found_all (omega arith) ∙ rw (third, first, second)

  -- what the answer says is so: each answer stands for one way in which a text can go on
  pub says_so : Says s at (field_at s at)
  says_so =
      elim (dec_le (length s) at) [
        | yes h ↦ subst⁻¹ (Says s at) (end_all h) h
        | no h ↦
            elim (dec_le (at + 3) (length s)) [
              | no k ↦ subst⁻¹ (Says s at) (stray_all (omega arith) (omega arith)) (omega arith, omega arith)
              | yes k ↦
                  elim (dec_le (at + 3 + number 2 s (at + 1)) (length s)) [
                    | no l ↦ subst⁻¹ (Says s at) (overrun_all k (omega arith)) (k, omega arith)
                    | yes l ↦
                        subst⁻¹ (Says s at) (found_all l) (record { tag_is = refl; from_is = refl; to_is = refl; within = l })
                  ]
            ]
      ]

  -- each answer, with what it says
  pub end_is : field_at s at ≡ End → length s ≤ at
  end_is e = subst (Says s at) e says_so

  pub stray_is : field_at s at ≡ Stray → (at < length s) × (length s < at + 3)
  stray_is e = subst (Says s at) e says_so

  pub overrun_is : field_at s at ≡ Overrun → (at + 3 ≤ length s) × (length s < at + 3 + number 2 s (at + 1))
  overrun_is e = subst (Says s at) e says_so

  pub field_found : {tag from to : ℕ} → field_at s at ≡ Field tag from to → Found s at tag from to
  field_found e = subst (Says s at) e says_so

module _ (s : List ℕ) (at tag from to : ℕ) where
  -- complete: where a field stands, the answer is that field
  pub field_all : FieldAt s at tag from to → field_at s at ≡ Field tag from to
  unfolding field_at step_from
  field_all f =
      let rest : drop at s ≡ tag ∷ f.low ∷ f.high ∷ (f.body ++ f.back) =
      ap (drop at) f.text ∙ drop_at f.front (tag ∷ f.low ∷ f.high ∷ (f.body ++ f.back)) at f.place in
      let fits : f.low + 256 * f.high ≤ length (f.body ++ f.back) = omega (arith, length-append f.body f.back, f.size) in
      let second : at + 3 ≡ from = sym f.start in
      let third : at + 3 + (f.low + 256 * f.high) ≡ to = omega (arith, f.end, f.size, f.start) in
      rw (rest, le-leb (f.low + 256 * f.high) (length (f.body ++ f.back)) fits, third, second)

  -- sound: where the answer is a field, that field stands there
  pub field_is : field_at s at ≡ Field tag from to → FieldAt s at tag from to
  field_is e =
      let f : Found s at tag from to = field_found s at e in
      let size : ℕ = number 2 s (at + 1) in
      let rest : drop at s ≡ tag ∷ get_or s (at + 1) 0 ∷ get_or s (at + 2) 0 ∷ drop (at + 3) s =
      three_bytes s at (omega arith) ∙ ap (λ (t : ℕ). t ∷ get_or s (at + 1) 0 ∷ get_or s (at + 2) 0 ∷ drop (at + 3) s) (sym f.tag_is) in
      let third : at + 1 + 1 ≡ at + 2 = omega arith in
      let long : length (take size (drop (at + 3) s)) ≡ size =
      length-take-le size (drop (at + 3) s) (rw (length-drop (at + 3) s) (omega arith)) in
      record {
        front = take at s;
        low = get_or s (at + 1) 0;
        high = get_or s (at + 2) 0;
        body = take size (drop (at + 3) s);
        back = drop size (drop (at + 3) s);
        text = sym (take-append-drop at s) ∙ rw (take-append-drop size (drop (at + 3) s), rest);
        place = length-take-le at s (omega arith);
        size = long ∙ rw (two_bytes s (at + 1), third);
        start = f.from_is;
        end = omega arith;
      }

-- one field to a place
pub one_field : (s : List ℕ) (at : ℕ) {tag from to tag' from' to' : ℕ}
    → FieldAt s at tag from to → FieldAt s at tag' from' to' → (tag ≡ tag') × (from ≡ from') × (to ≡ to')
one_field s at {tag} {from} {to} {tag'} {from'} {to'} f g =
    let a : field_at s at ≡ Field tag from to = field_all s at tag from to f in
    let b : field_at s at ≡ Field tag' from' to' = field_all s at tag' from' to' g in
    ((cc), (cc), (cc))

-- number 31 is answered exactly where a field runs past the end
pub refusal_is : (s : List ℕ) (at : ℕ) → refusal_of (field_at s at) ≡ 31 → RunsPast s at
refusal_is s at e = by (field_at s at) refl e
  where
    no_field : field_at s at ≡ Stray ⊎ field_at s at ≡ Overrun → (tag from to : ℕ) → FieldAt s at tag from to → ⊥
    no_field w tag from to f =
        let a : field_at s at ≡ Field tag from to = field_all s at tag from to f in
        ⊎_elim
        (λ (k : field_at s at ≡ Stray). let z : ◌≡◌ {A = ℕ} 0 1 = cc in absurd (omega arith))
        (λ (k : field_at s at ≡ Overrun). let z : ◌≡◌ {A = ℕ} 0 1 = cc in absurd (omega arith))
        w

    by : (r : Step) → field_at s at ≡ r → refusal_of r ≡ 31 → RunsPast s at
    by (Field tag from to) k h = absurd (omega arith)
    by Stray k h = record { goes_on = (stray_is s at k).0; no_field = no_field (inl k) }
    by Overrun k h = record { goes_on = omega (arith, (overrun_is s at k).0); no_field = no_field (inr k) }
    by End k h = absurd (omega arith)

pub refusal_all : (s : List ℕ) (at : ℕ) → RunsPast s at → refusal_of (field_at s at) ≡ 31
refusal_all s at h = by (field_at s at) refl
  where
    by : (r : Step) → field_at s at ≡ r → refusal_of r ≡ 31
    by (Field tag from to) k = absurd (h.no_field tag from to (field_is s at tag from to k))
    by Stray k = refl
    by Overrun k = refl
    by End k = absurd (omega (arith, h.goes_on, end_is s at k))
