-- The digits of a code, as `decimal` computes them, are those of the code in decimal: one, two or three, by what a decimal of one digit is and what one of
-- more is. Assumes nothing.
use Prim.Native.Nat.{ℕ, ◌+◌, ◌/◌, ◌%◌, ◌^◌, ◌≤◌, ◌<◌}
use mathlib.Core.Path.{◌≡◌, sym}
use mathlib.Core.List.{[], ◌∷◌}
use native.Mathlib.Omega.{arith}
use Rattle.text.specs.Decimal.{decimal_text}
use Rattle.text.proofs.Decimals.{decimal_short, decimal_long}

pub one_digit : (n : ℕ) → n < 10 → (48 + n % 10) ∷ [] ≡ decimal_text n
one_digit n h = let e : n % 10 ≡ n = omega arith in rw e (sym (decimal_short n h))

pub two_digits : (n : ℕ) → 10 ≤ n → n < 100 → (48 + n / 10 % 10) ∷ (48 + n % 10) ∷ [] ≡ decimal_text n
two_digits n l h =
    let t : n / 10 < 10 = omega arith in
    let e : n / 10 % 10 ≡ n / 10 = omega arith in
    let big : n < 10 ^ 20 = omega arith in
    rw (e, decimal_long n l big, decimal_short (n / 10) t)

pub three_digits : (n : ℕ) → 100 ≤ n → n < 256 → (48 + n / 100) ∷ (48 + n / 10 % 10) ∷ (48 + n % 10) ∷ [] ≡ decimal_text n
three_digits n l h =
    let t : 10 ≤ n / 10 = omega arith in
    let m : 10 ≤ n = omega arith in
    let u : n / 10 / 10 < 10 = omega arith in
    let e : n / 10 / 10 ≡ n / 100 = omega arith in
    let big : n < 10 ^ 20 = omega arith in
    let small : n / 10 < 10 ^ 20 = omega arith in
    rw (decimal_long n m big, decimal_long (n / 10) t small, decimal_short (n / 10 / 10) u, e)
