-- The mark stands below the bad digit: before it stand only hex digits and `0x`, and these are shown as they are. And the width that a row names
-- is the one that the number was read with. Assumes nothing.
use Prim.Native.Nat.{ℕ, zero, suc, ◌-◌, ◌^◌, ◌≤◌, ◌<◌}
use mathlib.Core.Path.{◌≡◌, refl}
use mathlib.Core.Bool.{Bool, true, false, cond}
use mathlib.Core.List.{List, [], ◌∷◌}
use native.Mathlib.Omega.{arith}
use lib.Dec.{leb}
use lib.ListN.{length, get_or, take}
use lib.Seq.{get_or-take, length-take-le}
use borrow.Author.Tests.{le-leb, leb-true, leb-false, ne_eqb}
use Rattle.text.specs.Class.{between, is_digit}
use Rattle.text.specs.Number.{digit_of, bad_at, BadHex, DigitsFrom}
use Rattle.text.proofs.Numbers.{at_least}
use Rattle.text.proofs.Texts.{both_right}
use Rattle.escape.specs.Escape.{is_plain, shown_byte, escaped}
use Rattle.reasons.specs.declared.Key.{Key}
use Rattle.reasons.specs.declared.Key.TheVariants as K
use Rattle.reasons.specs.Reasons.{limit_of}
use Rattle.why_rows.specs.Names.{key_bits}

-- the width that a row names is that of the limit which the key is read with
pub width_limit : (key : Key) → limit_of key ≡ 2 ^ key_bits key - 1
unfolding key_bits
width_limit K.Route = refl
width_limit K.Offset = refl
width_limit K.Error = refl
width_limit K.Config = refl
width_limit K.Unplug = refl

plain : (b : ℕ) → 32 ≤ b → b ≤ 126 → (b ≡ 92 → ⊥) → is_plain b ≡ true
unfolding is_plain
plain b l h n = rw (le-leb 32 b l, le-leb b 126 h, ne_eqb b 92 n)

-- a byte of a range is at most the range's high end
at_most : (lo hi : ℕ) {b : ℕ} → between lo hi b ≡ true → b ≤ hi
unfolding between
at_most lo hi {b} t = leb-true b hi (both_right (leb lo b) _ t)

digit_plain : (b : ℕ) → leb 16 (digit_of b) ≡ false → is_plain b ≡ true
unfolding digit_of is_digit
digit_plain b t = go (between 48 57 b) refl (between 97 102 b) refl (between 65 70 b) refl t
  where
    go : (x : Bool) → between 48 57 b ≡ x → (y : Bool) → between 97 102 b ≡ y → (z : Bool) → between 65 70 b ≡ z → leb 16 (cond x (b - 48) (cond y (b - 87) (cond z (b - 55) 16))) ≡ false → is_plain b ≡ true
    go true d y e z f u = plain b (omega (arith, at_least 48 57 d)) (omega (arith, at_most 48 57 d)) (λ q. omega (arith, at_most 48 57 d))
    go false d true e z f u = plain b (omega (arith, at_least 97 102 e)) (omega (arith, at_most 97 102 e)) (λ q. omega (arith, at_least 97 102 e))
    go false d false e true f u = plain b (omega (arith, at_least 65 70 f)) (omega (arith, at_most 65 70 f)) (λ q. omega (arith, at_most 65 70 f))
    go false d false e false f u = let w : 16 < 16 = leb-false 16 16 u in absurd (omega arith)

-- a text of plain bytes is shown as it is
plain_shown : (s : List ℕ) → ((j : ℕ) → j < length s → is_plain (get_or s j 0) ≡ true) → escaped s ≡ s
unfolding escaped shown_byte
plain_shown [] h = refl
plain_shown (b ∷ s) h =
    let here : is_plain b ≡ true = h 0 (omega arith) in
    let rest : escaped s ≡ s = plain_shown s (λ j l. h (suc j) (omega arith)) in
    rw (here, rest)

-- the bytes before a bad digit
front_plain : (s : List ℕ) {k from : ℕ} → DigitsFrom s from → ((j : ℕ) → from ≤ j → j < k → bad_at 16 s j ≡ false) → (j : ℕ) → j < k → is_plain (get_or s j 0) ≡ true
front_plain s (DigitsFrom.start n e) free j l = digit_plain (get_or s j 0) (free j (omega arith) l)
front_plain s (DigitsFrom.behind t q e) free zero l = rw q (plain 48 (omega arith) (omega arith) (λ x. omega arith))
front_plain s (DigitsFrom.behind t q e) free (suc zero) l = rw q (plain 120 (omega arith) (omega arith) (λ x. omega arith))
front_plain s (DigitsFrom.behind t q e) free (suc (suc j)) l = digit_plain (get_or s (suc (suc j)) 0) (free (suc (suc j)) (omega arith) l)

-- what is shown before a bad digit is what stands there, byte for byte: so many blanks lead to below it
pub mark_below : (s : List ℕ) {k : ℕ} → BadHex s k → escaped (take k s) ≡ take k s
mark_below s {k} b =
    let size : length (take k s) ≡ k = length-take-le k s (omega (arith, b.first.within)) in
    plain_shown (take k s)
    (λ j l. let m : j < k = omega (arith, size) in rw (get_or-take k s j 0 m) (front_plain s b.digits b.first.before j m))
