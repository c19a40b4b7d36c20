-- A shown name has printable bytes alone, and no two names are shown alike: the first byte shown tells a plain byte from an escape, and two hex digits
-- tell the byte. Assumes nothing.
use Prim.Native.Nat.{ℕ, ◌+◌, ◌/◌, ◌%◌, ◌<◌}
use mathlib.Core.Path.{◌≡◌, refl, sym, ap}
use mathlib.Core.Bool.{Bool, true, false, cond}
use mathlib.Core.List.{List, [], ◌∷◌, ◌++◌}
use native.Mathlib.Omega.{arith}
use lib.Dec.{ltb, leb}
use lib.ListN.{length, length-append}
use borrow.Author.Tests.{ltb-true, ltb-false, leb-true}
use Rattle.text.proofs.Places.{clash}
use Rattle.tlv.specs.Grammar.{All}
use Rattle.print.specs.Hex.{hex_digit, byte_text}
use Rattle.escape.specs.Escape.{is_plain, shown_byte, escaped, Printable}

-- a byte
abbrev pub Byte : ℕ → Type 0
Byte b = b < 256

printable_append : (a b : List ℕ) → All Printable a → All Printable b → All Printable (a ++ b)
printable_append [] b g h = h
printable_append (x ∷ a) b (p, g) h = (p, printable_append a b g h)

digit_printable : (n : ℕ) → n < 16 → Printable (hex_digit n)
unfolding hex_digit
digit_printable n h = go (ltb n 10)
  where
    go : (t : Bool) → Printable (cond t (48 + n) (87 + n))
    go true = record { low = omega arith; high = omega arith }
    go false = record { low = omega arith; high = omega arith }

plain_printable : (b : ℕ) → is_plain b ≡ true → Printable b
unfolding is_plain
plain_printable b e = go (leb 32 b) (leb b 126) refl refl e
  where
    go : (p q : Bool) → leb 32 b ≡ p → leb b 126 ≡ q → is_plain b ≡ true → Printable b
    go true true l h e = record { low = leb-true 32 b l; high = leb-true b 126 h }
    go true false l h e = absurd (clash e (rw (l, h) refl))
    go false q l h e = absurd (clash e (rw l refl))

byte_printable : (b : ℕ) → Byte b → All Printable (shown_byte b)
unfolding shown_byte
byte_printable b h = go (is_plain b) refl
  where
    go : (t : Bool) → is_plain b ≡ t → All Printable (cond t (b ∷ []) (92 ∷ 120 ∷ byte_text b))
    go true e = (plain_printable b e, tt)
    go false e =
        (record { low = omega arith; high = omega arith }, (record { low = omega arith; high = omega arith }, byte-digits))
      where
        byte-digits : All Printable (byte_text b)
        byte-digits = (digit_printable (b / 16) (omega arith), (digit_printable (b % 16) (omega arith), tt))

-- every byte of a shown name is printable: no name ends a row or steers a terminal
pub escaped_printable : (s : List ℕ) → All Byte s → All Printable (escaped s)
unfolding escaped
escaped_printable [] h = tt
escaped_printable (b ∷ s) (h, g) = printable_append (shown_byte b) (escaped s) (byte_printable b h) (escaped_printable s g)

digit_same : (a b : ℕ) → a < 16 → b < 16 → hex_digit a ≡ hex_digit b → a ≡ b
unfolding hex_digit
digit_same a b h k = go (ltb a 10) (ltb b 10) refl refl
  where
    go : (p q : Bool) → ltb a 10 ≡ p → ltb b 10 ≡ q → cond p (48 + a) (87 + a) ≡ cond q (48 + b) (87 + b) → a ≡ b
    go true true l m e = omega arith
    go true false l m e = omega (arith, ltb-true a 10 l, ltb-false b 10 m)
    go false true l m e = omega (arith, ltb-false a 10 l, ltb-true b 10 m)
    go false false l m e = omega arith

-- two names of a byte or more: their first bytes are the same, and what is shown of the others
record SameFirst (a b : ℕ) (x y : List ℕ) : Type 0 where
  first : a ≡ b
  rest : x ≡ y

first_same : (a b : ℕ) (x y : List ℕ) → Byte a → Byte b → shown_byte a ++ x ≡ shown_byte b ++ y → SameFirst a b x y
unfolding shown_byte is_plain
first_same a b x y h k = go (is_plain a) (is_plain b) refl refl
  where
    go : (p q : Bool) → is_plain a ≡ p → is_plain b ≡ q → cond p (a ∷ []) (92 ∷ 120 ∷ byte_text a) ++ x ≡ cond q (b ∷ []) (92 ∷ 120 ∷ byte_text b) ++ y → SameFirst a b x y
    go true true l m e = record { first = cc; rest = cc }
    go true false l m e = let z : a ≡ 92 = cc in absurd (clash l (rw z refl))
    go false true l m e = let z : b ≡ 92 = cc in absurd (clash m (rw z refl))
    go false false l m e =
        let high : hex_digit (a / 16) ≡ hex_digit (b / 16) = cc in
        let low : hex_digit (a % 16) ≡ hex_digit (b % 16) = cc in
        record {
          first = omega (arith, digit_same (a / 16) (b / 16) (omega arith) (omega arith) high, digit_same (a % 16) (b % 16) (omega arith) (omega arith) low);
          rest = cc;
        }

shown_some : (b : ℕ) → 0 < length (shown_byte b)
unfolding shown_byte
shown_some b = go (is_plain b)
  where
    go : (t : Bool) → 0 < length (cond t (b ∷ []) (92 ∷ 120 ∷ byte_text b))
    go true = omega arith
    go false = omega arith

none_shown : (b : ℕ) (s : List ℕ) → length (escaped (b ∷ s)) ≡ 0 → ⊥
unfolding escaped
none_shown b s e = omega (arith, length-append (shown_byte b) (escaped s), shown_some b)

-- two names that are shown alike are one name
pub one_escaped : (s t : List ℕ) → All Byte s → All Byte t → escaped s ≡ escaped t → s ≡ t
unfolding escaped
one_escaped [] [] g h e = refl
one_escaped [] (b ∷ t) g h e = absurd (none_shown b t (sym (ap length e)))
one_escaped (a ∷ s) [] g h e = absurd (none_shown a s (ap length e))
one_escaped (a ∷ s) (b ∷ t) (g, gs) (h, ht) e = both (first_same a b (escaped s) (escaped t) g h e) (one_escaped s t gs ht)
  where
    both : SameFirst a b (escaped s) (escaped t) → (escaped s ≡ escaped t → s ≡ t) → a ∷ s ≡ b ∷ t
    both r again = let p = r.first in let q = again r.rest in cc
