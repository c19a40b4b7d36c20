-- A value's digits read while its end is sought: digits that no word byte follows are the whole word run, so they are the value, and what they say
-- is the number of its part. Assumes nothing.
use Rattle.std.specs.Prelude.{None, Option, Result, Some}
use Rattle.text.specs.declared.number.BadNumber.{BadNumber}
use Prim.Native.Nat.{ℕ, zero, suc, ◌+◌, ◌-◌, ◌≤◌, ◌<◌}
use mathlib.Core.Path.{◌≡◌, refl, sym, ap, ◌∙◌}
use mathlib.Core.Bool.{Bool, true, false, cond, ◌&&◌, ◌||◌}
use mathlib.Core.List.{List, [], ◌∷◌}
use native.Mathlib.Omega.{arith}
use lib.Dec.{leb, eqb}
use lib.ListN.{length, get_or, take, drop, length-drop, get_or-eq_default}
use lib.Seq.{take-nil, get_or-take, get_or-drop, drop-drop, length-take-le}
use borrow.Author.Tests.{eq-eqb, ne_eqb, lt-leb, le-leb, leb-true, leb-false, eqb-true}
use Rattle.text.specs.Class.{between, is_letter, is_digit, is_word}
use Rattle.text.specs.Number.{digit_of, value, number_of, bad_at, reading_of, digits_from, hex_of}
use Rattle.std.specs.Result.{result_ok}
use Rattle.text.specs.Place.{Free, is_at}
use Rattle.text.specs.Run.{Inside}
use Rattle.text.specs.Table.{table}
use Rattle.text.proofs.DigitRuns.{ReadTo}
use Rattle.text.proofs.Entries.{entry_digit}
use Rattle.text.proofs.Hexes.{from_second, from_both}
use Rattle.text.proofs.Numbers.{Judged, judged_all, number_read}
use Rattle.text.proofs.Places.{by_order, stands_within}
use Rattle.text.proofs.Runs.{run_all}
use Rattle.text.proofs.Stripping.{rest_is}
use Rattle.text.proofs.Texts.{both_left, both_right}
use Rattle.pairs.specs.declared.keys.Form.{Form}
use Rattle.pairs.specs.declared.keys.Form.TheVariants.{Text, Decimal, Hex, Dwords}
use Rattle.pairs.specs.Pair.{part, value_end}
use Rattle.pairs.proofs.Tries.{value_word}
use Rattle.walk.specs.declared.value.Digits.{Digits}
use Rattle.walk.specs.declared.value.Kept.{Kept}
use Rattle.walk.specs.Kept.{kept_number, kept_in, value_of, base_of, limit_of, digits_start, DigitsRead}

-- ---- where the digits start

module _ (s : List ℕ) (v : ℕ) {base : ℕ} where
  pub start_plain : (base ≡ 16 → ⊥) → v ≡ digits_start s v base
  unfolding digits_start
  start_plain n = rw (ne_eqb _ _ n)

  pub start_hex : {d : ℕ} → base ≡ 16 → d ≡ digits_from (take (length s - v) (drop v s)) → v + d ≡ digits_start s v base
  unfolding digits_start
  start_hex is e = rw (eq-eqb _ _ is, e, rest_is v s)

-- at most two bytes stand before the digits
pub start_most : (s : List ℕ) {d : ℕ} → d ≡ digits_from s → d ≤ 2
unfolding digits_from
start_most s {d} e = go (is_at 48 s 0 && is_at 120 s 1) e
  where
    go : (b : Bool) → d ≡ cond b 2 0 → d ≤ 2
    go true e = omega arith
    go false e = omega arith

-- ---- what is kept, form by form

module _ {form : Form} (s : List ℕ) (a b : ℕ) where
  pub kept_decimal : {limit : ℕ} {n : Option ℕ} {k : Option Kept} → form ≡ Decimal limit → n ≡ number_of 10 limit (part s a b) → k ≡ kept_number n
      → k ≡ kept_in form s a b
  unfolding kept_in
  kept_decimal f n-is k-is = rw (f, ← n-is) k-is

  pub kept_hex : {limit : ℕ} {r : Result ℕ BadNumber} {n : Option ℕ} {k : Option Kept} → form ≡ Hex limit → r ≡ hex_of limit (part s a b) → n ≡ result_ok r
      → k ≡ kept_number n → k ≡ kept_in form s a b
  unfolding kept_in
  kept_hex f r-is n-is k-is = rw (f, ← r-is, ← n-is) k-is

-- ---- digits, one by one

pub read_all : {s : List ℕ} {base from v j : ℕ} → ReadTo s base from v j → DigitsRead s base from (record { end = j; value = v })
read_all r = record { up = r.up; within = r.within; digits = r.digits; is = r.is }

-- what the table says of a byte, where it says a digit of the base
pub entry_reads : {t : List ℕ} {b k d base : ℕ} → t ≡ table → k ≡ b → k < 256 → d ≡ get_or t k 0 → base ≤ 16 → d < base → d ≡ digit_of b
entry_reads is k-is h d-is below l = d-is ∙ sym (entry_digit is h (omega arith)) ∙ ap digit_of k-is

-- ---- a digit is a word byte

either_left : (a b : Bool) → a ≡ true → (a || b) ≡ true
either_left a b e = rw e

either_right : (a b : Bool) → b ≡ true → (a || b) ≡ true
either_right true b e = refl
either_right false b e = e

longer_range : (low high more b : ℕ) → high ≤ more → between low high b ≡ true → between low more b ≡ true
unfolding between
longer_range low high more b h e =
    let under : b ≤ high = leb-true b high (both_right (leb low b) _ e) in
    rw (le-leb low b (leb-true low b (both_left _ _ e)), le-leb b more (omega arith))

digit_is_word : (b : ℕ) → digit_of b < 16 → is_word b ≡ true
unfolding digit_of is_word is_letter
digit_is_word b h = go (is_digit b) refl (between 97 102 b) refl (between 65 70 b) refl
  where
    go : (x : Bool) → is_digit b ≡ x → (y : Bool) → between 97 102 b ≡ y → (z : Bool) → between 65 70 b ≡ z → is_word b ≡ true
    go true d y l z u = either_left _ _ (either_right (is_letter b) _ d)
    go false d true l z u = either_left _ _ (either_left _ _ (either_right (between 65 90 b) _ (longer_range 97 102 122 b (omega arith) l)))
    go false d false l true u = either_left _ _ (either_left _ _ (either_left _ _ (longer_range 65 70 90 b (omega arith) u)))
    go false d false l false u = let none : 16 < 16 = rw (d, l, u) at h in absurd (omega (arith, none))

-- so are both bytes of `0x`, whose `x` is no digit
zero_is_word : is_word 48 ≡ true
unfolding is_word is_letter is_digit between
zero_is_word = refl

x_is_word : is_word 120 ≡ true
unfolding is_word is_letter is_digit between
x_is_word = refl

x_is_no_digit : digit_of 120 < 16 → ⊥
unfolding digit_of is_digit between
x_is_no_digit h = omega arith

-- ---- a number of few digits

-- where the digits of a value start, by its bytes
data Started (s : List ℕ) (v base from : ℕ) : Type 0 where
  plain : from ≡ v → Started s v base from
  prefixed : base ≡ 16 → get_or s v 0 ≡ 48 → get_or s (v + 1) 0 ≡ 120 → from ≡ v + 2 → Started s v base from

started : (s : List ℕ) (v base : ℕ) → Started s v base (digits_start s v base)
unfolding digits_start digits_from
started s v base = go (eqb base 16) refl
  where
    by_prefix : base ≡ 16 → (b : Bool) → (is_at 48 (drop v s) 0 && is_at 120 (drop v s) 1) ≡ b → Started s v base (v + cond b 2 0)
    by_prefix six true t =
        let z : v + 0 ≡ v = omega arith in
        let first : get_or s v 0 ≡ 48 = rw z at (sym (get_or-drop v s 0 0) ∙ eqb-true _ _ (both_left _ _ t)) in
        let second : get_or s (v + 1) 0 ≡ 120 = sym (get_or-drop v s 1 0) ∙ eqb-true _ _ (both_right (is_at 48 (drop v s) 0) _ t) in
        Started.prefixed six first second refl
    by_prefix six false t = Started.plain (omega arith)

    go : (b : Bool) → eqb base 16 ≡ b → Started s v base (cond b (v + cond (is_at 48 (drop v s) 0 && is_at 120 (drop v s) 1) 2 0) v)
    go true t = by_prefix (eqb-true _ _ t) (is_at 48 (drop v s) 0 && is_at 120 (drop v s) 1) refl
    go false t = Started.plain refl

-- they start within the text
pub start_within : (s : List ℕ) (v base : ℕ) {from : ℕ} → v ≤ length s → from ≡ digits_start s v base → from ≤ length s
start_within s v base {from} h e = go (rw e (started s v base))
  where
    go : Started s v base from → from ≤ length s
    go (Started.plain p) = omega arith
    go (Started.prefixed b zero-there x-there p) =
        let l : v + 1 < length s = stands_within s (v + 1) (λ z. absurd (omega arith)) in
        omega arith

pub base_below : (form : Form) {base : ℕ} → base ≡ base_of form → base ≤ 16
unfolding base_of
base_below (Decimal limit) e = omega arith
base_below (Hex limit) e = omega arith
base_below Text e = omega arith
base_below Dwords e = omega arith

drop_of_take : (m n k : ℕ) (l : List ℕ) → n ≡ m + k → drop m (take n l) ≡ take k (drop m l)
drop_of_take zero n k l h = let e : n ≡ k = omega arith in rw e
drop_of_take (suc m) zero k l h = absurd (omega arith)
drop_of_take (suc m) (suc n) k [] h = sym (take-nil k)
drop_of_take (suc m) (suc n) k (b ∷ l) h = drop_of_take m n k l (omega arith)

module _ (s : List ℕ) (v base from e w : ℕ) (below : base ≤ 16) (start : Started s v base from) (some : from < e) (within : e ≤ length s)
    (digits : (k : ℕ) → from ≤ k → k < e → digit_of (get_or s k 0) < base) (is : w ≡ value base 0 (part s from e)) where
  behind_start : v ≤ from
  behind_start = go start
    where
      go : Started s v base from → v ≤ from
      go (Started.plain p) = omega arith
      go (Started.prefixed b zero-there x-there p) = omega arith

  -- digits that no word byte follows, with their `0x`, are the word run
  words : Inside is_word s v e
  words = go start
    where
      digit : (k : ℕ) → from ≤ k → k < e → is_word (get_or s k 0) ≡ true
      digit k a b = digit_is_word (get_or s k 0) (omega (arith, digits k a b))

      go : Started s v base from → Inside is_word s v e
      go (Started.plain p) k a b = digit k (omega arith) b
      go (Started.prefixed six zero-there x-there p) k a b =
          by_order k (v + 1) (λ h. let z : k ≡ v = omega arith in rw (z, zero-there) zero_is_word) (λ h. rw (h, x-there) x_is_word)
          (λ h. digit k (omega arith) b)

  ends_there : is_word (get_or s e 0) ≡ false → value_end s v ≡ Some e
  ends_there free =
      value_word s v
      (sym (run_all is_word s (record { from = omega (arith, behind_start); within = within; inside = words; stops = λ h. free })))
      (omega (arith, behind_start))

  -- the part of the value, and its digits
  size : length (part s v e) ≡ e - v
  size = length-take-le (e - v) (drop v s) (omega (arith, length-drop v s, behind_start))

  byte_of : (k : ℕ) → k < e - v → get_or (part s v e) k 0 ≡ get_or s (v + k) 0
  byte_of k h = get_or-take (e - v) (drop v s) k 0 h ∙ get_or-drop v s k 0

  rest : drop (from - v) (part s v e) ≡ part s from e
  rest =
      let back : v + (from - v) ≡ from = omega (arith, behind_start) in
      drop_of_take (from - v) (e - v) (e - from) (drop v s) (omega (arith, behind_start)) ∙ ap (take (e - from)) (drop-drop (from - v) v s ∙ rw back)

  all_good : Free (bad_at base (part s v e)) (from - v) (length (part s v e))
  all_good k a b =
      let l : k < e - v = omega (arith, size) in
      let d : digit_of (get_or s (v + k) 0) < base = digits (v + k) (omega (arith, behind_start)) (omega arith) in
      rw (byte_of k l) (lt-leb base (digit_of (get_or s (v + k) 0)) d)

  -- the digits read as a number: their value where it is within the limit
  digits_judged : (limit : ℕ) → result_ok (reading_of base limit (from - v) (part s v e)) ≡ cond (leb w limit) (Some w) None
  digits_judged limit = go (leb w limit) refl
    where
      there : from - v < length (part s v e)
      there = omega (arith, size, behind_start)

      same : value base 0 (drop (from - v) (part s v e)) ≡ w
      same = rw rest (sym is)

      go : (b : Bool) → leb w limit ≡ b → result_ok (reading_of base limit (from - v) (part s v e)) ≡ cond b (Some w) None
      go true t = rw (judged_all base limit (from - v) (part s v e) (Judged.fits {v = w} there all_good same (leb-true _ _ t)))
      go false t = rw (judged_all base limit (from - v) (part s v e) (Judged.wide there all_good (rw same (leb-false _ _ t))))

  hex_start : base ≡ 16 → digits_from (part s v e) ≡ from - v
  hex_start six = go start
    where
      no-x : from ≡ v → get_or (part s v e) 1 0 ≡ 120 → ⊥
      no-x p x =
          by_order 1 (e - v)
          (λ h. let d : digit_of (get_or s (v + 1) 0) < base = digits (v + 1) (omega arith) (omega arith) in
          let x-there : get_or s (v + 1) 0 ≡ 120 = sym (byte_of 1 h) ∙ x in
          let dx : digit_of 120 < base = rw x-there at d in
          x_is_no_digit (omega (arith, dx)))
          (λ h. omega (arith, get_or-eq_default (part s v e) 0 {n = 1} (omega (arith, size))))
          (λ h. omega (arith, get_or-eq_default (part s v e) 0 {n = 1} (omega (arith, size))))

      go : Started s v base from → digits_from (part s v e) ≡ from - v
      go (Started.plain p) =
          let none : 0 ≡ from - v = omega arith in
          sym (from_second (part s v e) (no-x p)) ∙ none
      go (Started.prefixed b zero-there x-there p) =
          let z : v + 0 ≡ v = omega arith in
          let two : 2 ≡ from - v = omega arith in
          sym
          (from_both (part s v e) (byte_of 0 (omega arith) ∙ ap (λ (k : ℕ). get_or s k 0) z ∙ zero-there) (byte_of 1 (omega arith) ∙ x-there))
          ∙ two

  kept_short : (form : Form) → base ≡ base_of form → (base ≡ 0 → ⊥)
      → kept_in form s v e ≡ kept_number (cond (leb w (limit_of form)) (Some w) None)
  unfolding kept_in base_of limit_of hex_of
  kept_short (Decimal limit) b some-base = ap kept_number (number_read 10 limit (part s v e) ∙ same ∙ digits_judged limit)
    where
      first : Started s v base from → 0 ≡ from - v
      first (Started.plain p) = omega arith
      first (Started.prefixed six zero-there x-there p) = absurd (omega arith)

      same : result_ok (reading_of 10 limit 0 (part s v e)) ≡ result_ok (reading_of base limit (from - v) (part s v e))
      same = rw (← first start, b)
  kept_short (Hex limit) b some-base = ap kept_number (same ∙ digits_judged limit)
    where
      same : result_ok (reading_of 16 limit (digits_from (part s v e)) (part s v e)) ≡ result_ok (reading_of base limit (from - v) (part s v e))
      same = rw (hex_start b, b)
  kept_short Text b some-base = absurd (some-base b)
  kept_short Dwords b some-base = absurd (some-base b)

-- the answer of the try at a short number
module _ (s : List ℕ) (form : Form) (v : ℕ) {base from limit : ℕ} {d : Digits} {n : Option ℕ} {k : Option Kept} where
  pub short_is : base ≡ base_of form → (base ≡ 0 → ⊥) → from ≡ digits_start s v base → DigitsRead s base from d → (d.end ≡ from → ⊥)
      → false ≡ is_word (get_or s d.end 0) → limit ≡ limit_of form → n ≡ cond (leb d.value limit) (Some d.value) None
      → k ≡ kept_number n → Some (record { end = d.end; kept = k }) ≡ value_of s form v (value_end s v)
  unfolding value_of
  short_is b some-base from_is read more free limit_is n-is k-is =
      let below : base ≤ 16 = base_below form b in
      let start : Started s v base from = rw from_is (started s v base) in
      let some : from < d.end = by_order from d.end (λ h. h) (λ h. absurd (more (sym h))) (λ h. absurd (omega (arith, read.up))) in
      let ends = ends_there s v base from d.end d.value below start some read.within read.digits read.is (sym free) in
      let kept = kept_short s v base from d.end d.value below start some read.within read.digits read.is form b some-base in
      rw (ends, kept, ← limit_is, ← n-is, ← k-is)

-- ---- a value of any kind

module _ (s : List ℕ) (form : Form) (v : ℕ) where
  pub value_found : {f : Option ℕ} {e : ℕ} {k : Option Kept} → f ≡ value_end s v → f ≡ Some e → k ≡ kept_in form s v e
      → Some (record { end = e; kept = k }) ≡ value_of s form v (value_end s v)
  unfolding value_of
  value_found f-is e-is k-is = rw (← f-is, e-is, k-is)

  pub value_none : {f : Option ℕ} → f ≡ value_end s v → f ≡ None → None ≡ value_of s form v (value_end s v)
  unfolding value_of
  value_none f-is none = rw (← f-is, none)
