-- Hex numbers, and why a text is none: the digits start behind one `0x`, whose `x` is no digit, so each answer is the reading of what stands
-- there; one proof over the limit serves every width. Assumes nothing.
use Rattle.std.specs.Prelude.{Err, Ok, Result, Some}
use Rattle.text.specs.declared.number.BadNumber.{BadNumber}
use Prim.Native.Nat.{ℕ, ◌≤◌, ◌<◌}
use mathlib.Core.Path.{◌≡◌, refl, sym, ap, ◌∙◌}
use mathlib.Core.Bool.{Bool, true, false, cond, ◌&&◌}
use Rattle.std.proofs.Math.Bool.{and-true, and-false}
use Rattle.std.proofs.lemmas.Cmp.{nat_eq_equiv}
use mathlib.Core.List.{List, [], ◌∷◌}
use mathlib.Core.Logic.{◌↔◌}
use native.Mathlib.Omega.{arith}
use lib.ListN.{length, get_or, drop}
use borrow.Author.Tests.{eq-eqb, ne_eqb, eqb-true}
use Rattle.text.specs.Class.{between, is_digit}
use Rattle.text.specs.Place.{is_at}
use Rattle.text.specs.Number.{digit_of, value, Reads, HexNumber, DigitsFrom, EmptyHex, Means, digits_from, hex_of, hex_number_of}
use Rattle.std.specs.List.{starts_with as has_prefix}
use lib.Dec.{eqb}
use Rattle.text.proofs.Texts.{both_left, both_right}
use Rattle.text.proofs.Numbers.{Judged, judged, judged_all, judged_reads, reads_judged, value_read}

-- ---- where the digits start

module _ (s : List ℕ) where
  pub from_first : (get_or s 0 0 ≡ 48 → ⊥) → 0 ≡ digits_from s
  unfolding digits_from
  from_first a = rw (ne_eqb _ _ a)

  pub from_second : (get_or s 1 0 ≡ 120 → ⊥) → 0 ≡ digits_from s
  unfolding digits_from
  from_second b = rw (ne_eqb _ _ b) (go (is_at 48 s 0))
    where
      go : (x : Bool) → ◌≡◌ {A = ℕ} 0 (cond (x && false) 2 0)
      go true = refl
      go false = refl

  pub from_both : get_or s 0 0 ≡ 48 → get_or s 1 0 ≡ 120 → 2 ≡ digits_from s
  unfolding digits_from
  from_both a b = rw (eq-eqb _ _ a, eq-eqb _ _ b)

  -- as the test of a prefix says it
  prefix_is : has_prefix eqb s (48 ∷ 120 ∷ []) ≡ (is_at 48 s 0 && is_at 120 s 1)
  prefix_is = go s
    where
      go : (l : List ℕ) → has_prefix eqb l (48 ∷ 120 ∷ []) ≡ (is_at 48 l 0 && is_at 120 l 1)
      go [] = refl
      go (a ∷ []) = and-false _ ∙ sym (and-false _)
      go (a ∷ b ∷ l) = rw and-true (rw (nat_eq_equiv.symm 48 a, nat_eq_equiv.symm 120 b))

  pub from_prefix : (n : ℕ) (x : Bool) → x ≡ has_prefix eqb s (48 ∷ 120 ∷ []) → n ≡ cond x 2 0 → n ≡ digits_from s
  unfolding digits_from
  from_prefix n x e h = h ∙ rw (e, prefix_is)

starts_with : (s : List ℕ) → get_or s 0 0 ≡ 48 → get_or s 1 0 ≡ 120 → s ≡ 48 ∷ 120 ∷ drop 2 s
starts_with [] a b = absurd (omega arith)
starts_with (x ∷ []) a b = absurd (omega arith)
starts_with (x ∷ y ∷ s) a b = rw (a, b)

pub digits_from_is : (s : List ℕ) → DigitsFrom s (digits_from s)
unfolding digits_from
digits_from_is s = go (is_at 48 s 0 && is_at 120 s 1) refl
  where
    go : (b : Bool) → (is_at 48 s 0 && is_at 120 s 1) ≡ b → DigitsFrom s (cond b 2 0)
    go true t = DigitsFrom.behind (drop 2 s) (starts_with s (eqb-true _ _ (both_left _ _ t)) (eqb-true _ _ (both_right (is_at 48 s 0) _ t))) refl
    go false t = DigitsFrom.start (λ r e. absurd (let z : ◌≡◌ {A = Bool} true false = rw e at t in let y : ◌≡◌ {A = ℕ} 0 1 = cc in omega arith)) refl

pub digits_from_all : {s : List ℕ} {from : ℕ} → DigitsFrom s from → digits_from s ≡ from
digits_from_all {s} (DigitsFrom.behind t e f) = sym (from_both s (rw e) (rw e)) ∙ sym f
digits_from_all {s} {from} (DigitsFrom.start none f) = go (digits_from s) (digits_from_is s)
  where
    go : (n : ℕ) → DigitsFrom s n → n ≡ from
    go n (DigitsFrom.behind t e g) = absurd (none t e)
    go n (DigitsFrom.start other g) = g ∙ sym f

-- ---- each answer is what its case means, and what a case means is the answer

-- `x` is no digit, so a text that is digits alone does not start with `0x`
x_is_no_digit : digit_of 120 < 16 → ⊥
unfolding digit_of is_digit between
x_is_no_digit h = omega arith

digits_alone : {limit : ℕ} (s : List ℕ) {v : ℕ} → Reads 16 limit s v → DigitsFrom s 0
digits_alone s r =
    DigitsFrom.start (λ t e. let d : digit_of (get_or s 1 0) < 16 = r.digits 1 (rw e (omega arith)) in x_is_no_digit (rw e at d)) refl

module _ (limit : ℕ) {s : List ℕ} where
  -- a hex number is the number from where the digits start
  number_judged : {v : ℕ} → HexNumber limit s v → Judged 16 limit (digits_from s) s (Ok v)
  number_judged (HexNumber.plain r) = rw (digits_from_all (digits_alone s r)) (reads_judged 16 limit 0 s r)
  number_judged {v} (HexNumber.prefixed t e r) =
      let two : digits_from s ≡ 2 = digits_from_all (DigitsFrom.behind t e refl) in
      let rest : drop 2 s ≡ t = rw e in
      rw two (reads_judged 16 limit 2 s (rw rest r))

  judged_number : {v : ℕ} → Judged 16 limit (digits_from s) s (Ok v) → HexNumber limit s v
  judged_number {v} j = go (digits_from s) (digits_from_is s) (judged_reads 16 limit (digits_from s) s j)
    where
      go : (from : ℕ) → DigitsFrom s from → Reads 16 limit (drop from s) v → HexNumber limit s v
      go from (DigitsFrom.behind t e f) r =
          let two : Reads 16 limit (drop 2 s) v = rw f at r in
          let rest : drop 2 s ≡ t = rw e in
          HexNumber.prefixed t e (rw rest at two)
      go from (DigitsFrom.start none f) r = HexNumber.plain (rw f at r)

no_byte : (t : List ℕ) → length t ≤ 0 → t ≡ []
no_byte [] h = refl
no_byte (b ∷ t) h = absurd (omega arith)

no_digit : {s : List ℕ} → length s ≤ digits_from s → EmptyHex s
no_digit {s} h = go (digits_from s) (digits_from_is s) h
  where
    go : (from : ℕ) → DigitsFrom s from → length s ≤ from → EmptyHex s
    go from (DigitsFrom.behind t e f) l =
        let size : length s ≡ length (48 ∷ 120 ∷ t) = ap length e in
        let two : length (48 ∷ 120 ∷ t) ≤ 2 = omega (arith, size, f, l) in
        let none : t ≡ [] = no_byte t (omega (arith, two)) in
        EmptyHex.bare (e ∙ rw none)
    go from (DigitsFrom.start none f) l = EmptyHex.nothing (no_byte s (rw f at l))

module _ (limit : ℕ) {s : List ℕ} where
  judged_means : {r : Result ℕ BadNumber} → Judged 16 limit (digits_from s) s r → Means limit s r
  judged_means (Judged.empty h) = no_digit h
  judged_means (Judged.bad f) = record { from = digits_from s; digits = digits_from_is s; first = f }
  judged_means (Judged.wide l free over) =
      record {
        value = value 16 0 (drop (digits_from s) s);
        number = judged_number _ (Judged.fits l free refl (omega arith));
        over = over;
      }
  judged_means (Judged.fits l free e within) = judged_number limit (Judged.fits l free e within)

  means_judged : (r : Result ℕ BadNumber) → Means limit s r → Judged 16 limit (digits_from s) s r
  means_judged (Ok v) m = number_judged limit m
  means_judged (Err BadNumber.Empty) (EmptyHex.nothing e) = Judged.empty (rw e (omega arith))
  means_judged (Err BadNumber.Empty) (EmptyHex.bare e) = Judged.empty (rw (digits_from_all (DigitsFrom.behind [] e refl), e) (omega arith))
  means_judged (Err (BadNumber.BadDigit k)) m = Judged.bad {k = k} (rw (digits_from_all m.digits) m.first)
  means_judged (Err BadNumber.TooWide) m = past (number_judged m.value m.number)
    where
      past : Judged 16 m.value (digits_from s) s (Ok m.value) → Judged 16 limit (digits_from s) s (Err BadNumber.TooWide)
      past (Judged.fits l free e within) = Judged.wide l free (rw e m.over)

module _ (limit : ℕ) (s : List ℕ) where
  -- the hex reader's answer is so, and what is so is its answer: whatever the width
  pub hex_means : Means limit s (hex_of limit s)
  unfolding hex_of
  hex_means = judged_means limit (judged 16 limit (digits_from s) s)

  pub means_all : (r : Result ℕ BadNumber) → Means limit s r → hex_of limit s ≡ r
  unfolding hex_of
  means_all r m = judged_all 16 limit (digits_from s) s (means_judged limit r m)

  pub hex_exactly : (r : Result ℕ BadNumber) → (hex_of limit s ≡ r) ↔ Means limit s r
  hex_exactly r = (λ e. rw e at hex_means, means_all r)

  -- so exactly one of the four cases holds of every text
  pub one_meaning : (a b : Result ℕ BadNumber) → Means limit s a → Means limit s b → a ≡ b
  one_meaning a b m n = sym (means_all a m) ∙ means_all b n

-- the number alone, for those who do not ask why there is none
module _ (limit : ℕ) {s : List ℕ} where
  pub hex_all : {v : ℕ} → HexNumber limit s v → hex_number_of limit s ≡ Some v
  hex_all {v} n = rw (means_all limit s (Ok v) n)

  pub hex_is : {v : ℕ} → hex_number_of limit s ≡ Some v → HexNumber limit s v
  hex_is {v} e = (hex_exactly limit s (Ok v)).0 (value_read (hex_of limit s) e)

  pub one_hex : {v w : ℕ} → HexNumber limit s v → HexNumber limit s w → v ≡ w
  one_hex a b = let x = hex_all a in let y = hex_all b in cc
