-- The value of a bit range is the one number whose bits are those of the range: a bit of a quotient and of a remainder by a power of two is
-- a bit of the number, and a number is its bits. Assumes nothing.
use Prim.Native.Nat.{ℕ, zero, suc, ◌+◌, ◌-◌, ◌/◌, ◌%◌, ◌^◌, ◌≤◌, ◌<◌}
use mathlib.Core.Path.{◌≡◌, ◌∙◌, sym, ap, subst}
use mathlib.Core.Bool.{Bool, true, false}
use native.Mathlib.Nat.{mod-lt, mod-le, div-one, div-le_self, zero-add, le_trans}
use native.Mathlib.Omega.{arith}
use borrow.Author.Tests.{le-leb, lt-leb}
use lib.Bits.{bit_and, and_mask}
use lib.Pow.{pow_pos, ones_split, ones_lt, high as high_part, shr-shr, field, mod-mod-pow}
use Rattle.bits.specs.Range.{bit, width, Bits, in_dword, or_zero, range_of}

-- w + k ones shifted down by k are w ones
pub ones_shifted : (w k : ℕ) → (2 ^ (w + k) - 1) / 2 ^ k ≡ 2 ^ w - 1
ones_shifted w k = rw (ones_split w k) (high_part (2 ^ w - 1) k (ones_lt k))

-- 32 ones shifted down by 32 - w are w ones
pub dword_ones_shifted : (w : ℕ) → w ≤ 32 → 4294967295 / 2 ^ (32 - w) ≡ 2 ^ w - 1
dword_ones_shifted w h =
    let e : w + (32 - w) ≡ 32 = omega arith in
    subst (λ (n : ℕ). (2 ^ n - 1) / 2 ^ (32 - w) ≡ 2 ^ w - 1) e (ones_shifted w (32 - w))

module _ (dword low high : ℕ) where
  -- a range that lies in the dword is the quotient's remainder
  pub range_inside : low ≤ high → high ≤ 31 → range_of dword low high ≡ dword / 2 ^ low % 2 ^ width low high
  unfolding range_of
  range_inside h k = rw (le-leb low high h, le-leb high 31 k)

  -- no bits, no value
  pub range_backwards : high < low → range_of dword low high ≡ 0
  unfolding range_of
  range_backwards h = rw (lt-leb low high h)

  -- past the dword's last bit there is no range, so no value either
  pub range_past_the_dword : low ≤ high → 31 < high → range_of dword low high ≡ 0
  unfolding range_of
  range_past_the_dword h k = rw (le-leb low high h, lt-leb high 31 k)

  -- what the code computes: a shift down, and a mask of as many ones as the range is wide
  pub range_by_mask : low ≤ high → high ≤ 31 → (m : ℕ) → m ≡ 2 ^ width low high - 1
      → bit_and (dword / 2 ^ low) m ≡ range_of dword low high
  range_by_mask h k m e =
      ap (bit_and (dword / 2 ^ low)) e ∙ and_mask (dword / 2 ^ low) (width low high) ∙ sym (range_inside h k)

or_zero_at_most : (b : Bool) {n m : ℕ} → n ≤ m → or_zero b n ≤ m
or_zero_at_most true h = h
or_zero_at_most false h = omega arith

-- in range or not, the value is at most the dword, so it fits where the dword does
pub range_at_most : (dword low high : ℕ) → range_of dword low high ≤ dword
unfolding range_of
range_at_most dword low high =
    or_zero_at_most (in_dword low high)
    (le_trans (mod-le (dword / 2 ^ low) (2 ^ width low high)) (div-le_self dword (2 ^ low)))

-- a bit below the cut is a bit of the whole
bit_of_cut : (n w k : ℕ) → k < w → bit k (n % 2 ^ w) ≡ bit k n
unfolding bit
bit_of_cut n w k h =
    let j : ℕ = w - k - 1 in
    let e : j + 1 + k ≡ w = omega arith in
    subst (λ (u : ℕ). n % 2 ^ u / 2 ^ k % 2 ≡ n / 2 ^ k % 2) e
    (ap (λ (m : ℕ). m % 2) (field n (j + 1) k) ∙ mod-mod-pow (n / 2 ^ k) j 1)

-- a bit of what was shifted down stands that much higher in the whole
bit_of_shifted : (n low k : ℕ) → bit k (n / 2 ^ low) ≡ bit (low + k) n
unfolding bit
bit_of_shifted n low k = ap (λ (m : ℕ). m % 2) (shr-shr n low k)

-- bit 0 is the remainder by two
bit_zero : (n : ℕ) → bit 0 n ≡ n % 2
unfolding bit
bit_zero n = ap (λ (m : ℕ). m % 2) (div-one n)

-- two numbers of w bits with the same bits are one number
pub same_bits : (w a b : ℕ) → a < 2 ^ w → b < 2 ^ w → ((k : ℕ) → k < w → bit k a ≡ bit k b) → a ≡ b
same_bits zero a b p q each = omega arith
same_bits (suc w) a b p q each =
    let lowest : a % 2 ≡ b % 2 = sym (bit_zero a) ∙ each 0 (omega arith) ∙ bit_zero b in
    let rest : a / 2 ≡ b / 2 =
    same_bits w (a / 2) (b / 2) (omega arith) (omega arith)
    (λ k h. bit_of_shifted a 1 k ∙ each (1 + k) (omega arith) ∙ sym (bit_of_shifted b 1 k)) in
    omega arith

module _ (dword low high : ℕ) (order : low ≤ high) (inside : high ≤ 31) where
  -- the value has as many bits as the range
  pub range_cut : range_of dword low high < 2 ^ width low high
  range_cut = rw (range_inside dword low high order inside) (mod-lt (dword / 2 ^ low) (pow_pos (width low high)))

  -- sound: the value holds the range's bits and nothing else
  pub range_is : Bits dword low high (range_of dword low high)
  range_is =
      record {
        cut = range_cut;
        each =
            λ k h.
            ap (bit k) (range_inside dword low high order inside)
            ∙ bit_of_cut (dword / 2 ^ low) (width low high) k h
            ∙ bit_of_shifted dword low k;
      }

  -- complete: a number that holds the range's bits and nothing else is the value
  pub range_all : (v : ℕ) → Bits dword low high v → range_of dword low high ≡ v
  range_all v b =
      same_bits (width low high) (range_of dword low high) v range_cut b.cut
      (λ k h. range_is.each k h ∙ sym (b.each k h))

  -- one value to a range
  pub one_range : (u v : ℕ) → Bits dword low high u → Bits dword low high v → u ≡ v
  one_range u v a b = sym (range_all u a) ∙ range_all v b

-- bits 0 to 31 are the dword
pub whole_range : (dword : ℕ) → dword < 2 ^ 32 → range_of dword 0 31 ≡ dword
whole_range dword h =
    range_all dword 0 31 (omega arith) (omega arith) dword
    (record { cut = h; each = λ k _. ap (λ (m : ℕ). bit m dword) (sym (zero-add k)) })
