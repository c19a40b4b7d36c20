-- Bits of a number: of a power, of a row of ones, and with one more mark; numbers with the same bits are the same. Assumes nothing.
use mathlib.Core.Path.{◌≡◌, refl, sym, ◌∙◌, ap, subst}
use Prim.Native.Nat.{ℕ, zero, suc, ◌+◌, ◌-◌, ◌*◌, ◌^◌, ◌/◌, ◌%◌, ◌<◌, ◌≤◌}
use native.Mathlib.Omega.{arith}
use native.Mathlib.Nat.{div-eq_of_lt, mod_self, zero-mul, zero-div}
use mathlib.Core.Bool.{Bool, true, false, cond}
use lib.Dec.{eqb, ltb}
use lib.Bits.{bit_and, bit_or, or_shr, or_mod, and_shr, and_mod, and_mask, and_zero_r, or_zero_r}
use lib.Pow.{pow_pos, pow-lt, pow_mono, pow-add, shr-shr, shr_lt, split, high, ones_split, ones_lt}
use borrow.Author.Tests.{eqb-true, eqb-false, ltb-true, ltb-false}

-- the bit at a place of a number
unfoldable pub bit : ℕ → ℕ → ℕ
bit k m = m / 2 ^ k % 2

-- ---- bits of a power, and of a row of ones
low_zero : (a d : ℕ) → a < d → a / d ≡ 0
low_zero a d h = div-eq_of_lt h

bit_shift : (i k : ℕ) → 2 ^ (i + k) / 2 ^ k ≡ 2 ^ i
bit_shift i k = let e : 2 ^ (i + k) ≡ 2 ^ i * 2 ^ k + 0 = (let p = pow-add 2 i k in omega (arith, p)) in ap (λ (x : ℕ). x / 2 ^ k) e ∙ high (2 ^ i) k (pow_pos k)

pub one_shift : (k : ℕ) → 2 ^ k / 2 ^ k ≡ 1
one_shift k = let e : 0 + k ≡ k = omega arith in ap (λ (x : ℕ). 2 ^ x / 2 ^ k) (sym e) ∙ bit_shift 0 k

even_pow : (i : ℕ) → 2 ^ suc i % 2 ≡ 0
even_pow i = let e : 2 ^ suc i ≡ 2 ^ i * 2 = (let p = pow-add 2 i 1 in let q : i + 1 ≡ suc i = omega arith in ap (λ (x : ℕ). 2 ^ x) (sym q) ∙ p) in omega (arith, e)

odd_ones : (i : ℕ) → (2 ^ suc i - 1) % 2 ≡ 1
odd_ones i = let e : 2 ^ suc i ≡ 2 ^ i * 2 = (let p = pow-add 2 i 1 in let q : i + 1 ≡ suc i = omega arith in ap (λ (x : ℕ). 2 ^ x) (sym q) ∙ p) in let z = pow_pos i in omega (arith, e, z)

pub bit_pow : (k j : ℕ) → bit k (2 ^ j) ≡ cond (eqb k j) 1 0
unfolding bit
bit_pow k j = by_e (eqb k j) refl (ltb k j) refl
  where
    by_e : (b : Bool) → eqb k j ≡ b → (c : Bool) → ltb k j ≡ c → 2 ^ j / 2 ^ k % 2 ≡ cond b 1 0
    by_e true e c d = let q = eqb-true k j e in let s : j ≡ 0 + k = omega (arith, q) in rw s (ap (λ (x : ℕ). x % 2) (bit_shift 0 k))
    by_e false e true d = let h = ltb-true k j d in let s : j ≡ suc (j - k - 1) + k = omega (arith, h) in ap (λ (x : ℕ). 2 ^ x / 2 ^ k % 2) s ∙ ap (λ (x : ℕ). x % 2) (bit_shift (suc (j - k - 1)) k) ∙ even_pow (j - k - 1)
    by_e false e false d = let h = ltb-false k j d in let n = eqb-false k j e in ap (λ (x : ℕ). x % 2) (low_zero (2 ^ j) (2 ^ k) (pow-lt (less j k h (λ q. n (sym q)))))
      where
        less : (a b : ℕ) → a ≤ b → (a ≡ b → ⊥) → a < b
        less a b h n = by-lt (ltb a b) refl
          where
            by-lt : (t : Bool) → ltb a b ≡ t → a < b
            by-lt true e = ltb-true a b e
            by-lt false e = let g = ltb-false a b e in absurd (n (omega (arith, g, h)))

pub bit_ones : (k w : ℕ) → bit k (2 ^ w - 1) ≡ cond (ltb k w) 1 0
unfolding bit
bit_ones k w = by_e (ltb k w) refl
  where
    by_e : (b : Bool) → ltb k w ≡ b → (2 ^ w - 1) / 2 ^ k % 2 ≡ cond b 1 0
    by_e true e =
        let h = ltb-true k w e in let s : w ≡ suc (w - k - 1) + k = omega (arith, h) in
        ap (λ (x : ℕ). (2 ^ x - 1) / 2 ^ k % 2) s ∙ ap (λ (x : ℕ). x / 2 ^ k % 2) (ones_split (suc (w - k - 1)) k) ∙ ap (λ (x : ℕ). x % 2) (high (2 ^ suc (w - k - 1) - 1) k (ones_lt k)) ∙ odd_ones (w - k - 1)
    by_e false e = let h = ltb-false k w e in let p = pow_mono h in let z = ones_lt w in ap (λ (x : ℕ). x % 2) (low_zero (2 ^ w - 1) (2 ^ k) (omega (arith, p, z)))

-- ---- numbers with the same bits are the same
half_bit : (k a : ℕ) → bit k (a / 2) ≡ bit (suc k) a
unfolding bit
half_bit k a = let e : 1 + k ≡ suc k = omega arith in ap (λ (x : ℕ). x % 2) (shr-shr a 1 k ∙ ap (λ (x : ℕ). a / 2 ^ x) e)

zero_bit : (a : ℕ) → bit 0 a ≡ a % 2
unfolding bit
zero_bit a = let e : a / 1 ≡ a = omega arith in ap (λ (x : ℕ). x % 2) e

pub same_bits : (n a b : ℕ) → a < 2 ^ n → b < 2 ^ n → ((k : ℕ) → bit k a ≡ bit k b) → a ≡ b
same_bits zero a b ha hb h = omega (arith, ha, hb)
same_bits (suc n) a b ha hb h =
    let e : n + 1 ≡ suc n = omega arith in
    let qa = shr_lt n 1 (subst (λ (x : ℕ). a < 2 ^ x) (sym e) ha) in let qb = shr_lt n 1 (subst (λ (x : ℕ). b < 2 ^ x) (sym e) hb) in
    let q = same_bits n (a / 2) (b / 2) qa qb (λ k. half_bit k a ∙ h (suc k) ∙ sym (half_bit k b)) in
    let r : a % 2 ≡ b % 2 = sym (zero_bit a) ∙ h 0 ∙ zero_bit b in omega (arith, q, r)

-- ---- one more mark
pub clear_and : (k m : ℕ) → bit k m ≡ 0 → bit_and m (2 ^ k) ≡ 0
unfolding bit
clear_and k m h =
    let u : bit_and m (2 ^ k) / 2 ^ k ≡ 0 = and_shr m (2 ^ k) k ∙ ap (bit_and (m / 2 ^ k)) (one_shift k) ∙ and_mask (m / 2 ^ k) 1 ∙ h in
    let v : bit_and m (2 ^ k) % 2 ^ k ≡ 0 = and_mod m (2 ^ k) k ∙ ap (bit_and (m % 2 ^ k)) (mod_self (2 ^ k)) ∙ and_zero_r (m % 2 ^ k) in
    sym (split (bit_and m (2 ^ k)) k) ∙ rw (u, v) (let c = zero-mul (2 ^ k) in omega (arith, c))

or_bits : (k a b : ℕ) → bit k (bit_or a b) ≡ bit_or (bit k a) (bit k b)
unfolding bit
or_bits k a b = ap (λ (x : ℕ). x % 2) (or_shr a b k) ∙ or_mod (a / 2 ^ k) (b / 2 ^ k) 1

pub marked : (k j m : ℕ) → bit j m ≡ 0 → bit k (bit_or m (2 ^ j)) ≡ bit k m + cond (eqb k j) 1 0
marked k j m h = or_bits k m (2 ^ j) ∙ ap (bit_or (bit k m)) (bit_pow k j) ∙ by_e (eqb k j) refl
  where
    by_e : (b : Bool) → eqb k j ≡ b → bit_or (bit k m) (cond b 1 0) ≡ bit k m + cond b 1 0
    by_e true e = let q = eqb-true k j e in let z : bit k m ≡ 0 = ap (λ (x : ℕ). bit x m) q ∙ h in rw z
    by_e false e = let z : bit k m + 0 ≡ bit k m = omega arith in or-zero (bit k m) ∙ sym z
      where
        or-zero : (a : ℕ) → bit_or a 0 ≡ a
        or-zero a = or_zero_r a

pub zero_bits : (k : ℕ) → bit k 0 ≡ 0
unfolding bit
zero_bits k = ap (λ (x : ℕ). x % 2) (zero-div (2 ^ k))

pub and_clear : (k m : ℕ) → bit_and m (2 ^ k) ≡ 0 → bit k m ≡ 0
unfolding bit
and_clear k m h = sym (and_mask (m / 2 ^ k) 1) ∙ ap (bit_and (m / 2 ^ k)) (sym (one_shift k)) ∙ sym (and_shr m (2 ^ k) k) ∙ ap (λ (x : ℕ). x / 2 ^ k) h ∙ zero-div (2 ^ k)
