-- A bit of a joined word is set where it is set in one of the two: so what was marked stays so, and what is marked is so. Assumes nothing.
use Prim.Native.Nat.{ℕ, ◌*◌, ◌/◌, ◌%◌, ◌^◌, ◌≤◌, ◌<◌, max}
use mathlib.Core.Path.{◌≡◌, ◌∙◌, sym, ap, refl}
use mathlib.Core.Bool.{Bool, true, false}
use mathlib.Core.List.{List}
use native.Mathlib.Nat.{max-le, max-eq_left, max-eq_right, mod-lt}
use native.Mathlib.Omega.{arith}
use borrow.Author.Tests.{eqb-true, eqb-false, eq-eqb}
use lib.Bits.{bit_or, or_step, or_shr}
use lib.Dec.{eqb}
use lib.ListN.{length, get_or, set, length-set}
use lib.Pow.{shl_exact, shl-shr}
use lib.Seq.{get_or-set_same, get_or-set_other}
use Rattle.book.specs.Seen.{is_marked, marked}

-- a bit of a number
abbrev bit : ℕ → ℕ → ℕ
bit a j = a / 2 ^ j % 2

bit_most : (a j : ℕ) → bit a j ≤ 1
bit_most a j =
    let h : a / 2 ^ j % 2 < 2 = mod-lt (a / 2 ^ j) (omega arith) in
    omega arith

bit_or_lem : (a b j : ℕ) → bit (bit_or a b) j ≡ max (bit a j) (bit b j)
bit_or_lem a b j =
    let most : max (bit a j) (bit b j) ≤ 1 = max-le (bit_most a j) (bit_most b j) in
    ap (λ (n : ℕ). n % 2) (or_shr a b j ∙ or_step (a / 2 ^ j) (b / 2 ^ j)) ∙ omega arith

bit_own : (k : ℕ) → bit (2 ^ k) k ≡ 1
bit_own k =
    let e : 2 ^ k / 2 ^ k ≡ 1 = ap (λ (n : ℕ). n / 2 ^ k) (omega arith) ∙ shl-shr 1 k in
    ap (λ (n : ℕ). n % 2) e

-- a shift by less than 64 keeps the bit
pub bit_kept : (n : ℕ) → 1 * 2 ^ (n % 64) % 18446744073709551616 ≡ 2 ^ (n % 64)
bit_kept n =
    let low : n % 64 < 64 = mod-lt n (omega arith) in
    shl_exact {a = 1} 1 (n % 64) 64 (omega arith) (omega arith) ∙ omega arith

module _ (seen : List ℕ) (n : ℕ) (fits : n / 64 < length seen) where
  -- what is marked is marked
  pub marks_own : is_marked (marked seen n) n ≡ true
  unfolding is_marked marked
  marks_own =
      let word : ℕ = get_or seen (n / 64) 0 in
      let here = get_or-set_same seen (n / 64) (bit_or word (2 ^ (n % 64))) 0 fits in
      eq-eqb _ 1
      (ap (λ (w : ℕ). bit w (n % 64)) here
      ∙ bit_or_lem word (2 ^ (n % 64)) (n % 64)
      ∙ ap (max (bit word (n % 64))) (bit_own (n % 64))
      ∙ max-eq_right (bit_most word (n % 64)))

  -- what was marked stays marked
  pub marks_keep : (d : ℕ) → is_marked seen d ≡ true → is_marked (marked seen n) d ≡ true
  unfolding is_marked marked
  marks_keep d h = by (eqb (d / 64) (n / 64)) refl
    where
      was : bit (get_or seen (d / 64) 0) (d % 64) ≡ 1
      was = eqb-true (bit (get_or seen (d / 64) 0) (d % 64)) 1 h

      by : (b : Bool) → eqb (d / 64) (n / 64) ≡ b → is_marked (marked seen n) d ≡ true
      by false e =
          let there = get_or-set_other seen (n / 64) (d / 64) (bit_or (get_or seen (n / 64) 0) (2 ^ (n % 64))) 0 (eqb-false (d / 64) (n / 64) e) in
          eq-eqb _ 1 (ap (λ (w : ℕ). bit w (d % 64)) there ∙ was)
      by true e =
          let same : d / 64 ≡ n / 64 = eqb-true (d / 64) (n / 64) e in
          let word : ℕ = get_or seen (n / 64) 0 in
          let had : bit word (d % 64) ≡ 1 = ap (λ (i : ℕ). bit (get_or seen i 0) (d % 64)) (sym same) ∙ was in
          let here = get_or-set_same seen (n / 64) (bit_or word (2 ^ (n % 64))) 0 fits in
          let most : bit (2 ^ (n % 64)) (d % 64) ≤ 1 = bit_most (2 ^ (n % 64)) (d % 64) in
          eq-eqb _ 1
          (ap (λ (i : ℕ). bit (get_or (set seen (n / 64) (bit_or word (2 ^ (n % 64)))) i 0) (d % 64)) same
          ∙ ap (λ (w : ℕ). bit w (d % 64)) here
          ∙ bit_or_lem word (2 ^ (n % 64)) (d % 64)
          ∙ max-eq_left (omega arith)
          ∙ had)

-- as many words as before
pub marks_length : (seen : List ℕ) (n : ℕ) → length (marked seen n) ≡ length seen
unfolding marked
marks_length seen n = simp length-set
