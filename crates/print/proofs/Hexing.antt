-- Digits are those of the definition, and bytes are put two digits at a time: what is put and what is left are the whole text. Assumes nothing.
use Prim.Native.Nat.{ℕ, suc, ◌+◌, ◌*◌, ◌≤◌, ◌<◌}
use mathlib.Core.Path.{◌≡◌, refl, sym, ap, ◌∙◌}
use mathlib.Core.List.{List, [], ◌∷◌}
use native.Mathlib.Numerals.{add-one}
use native.Mathlib.Omega.{arith}
use lib.ListN.{length, get_or, drop}
use lib.Seq.{sets, length-sets, drop-cons, drop-length}
use borrow.Author.Tests.{le-leb, lt-ltb, le-ltb}
use Rattle.print.specs.Put.{buffer_after, place_after, Placed}
use Rattle.print.specs.Hex.{hex_digit, byte_text, hex_text}
use Rattle.print.proofs.Copying.{no_room}

pub digit_low : (n : ℕ) → n < 10 → 48 + n ≡ hex_digit n
unfolding hex_digit
digit_low n h = rw (lt-ltb n 10 h)

pub digit_high : (n : ℕ) → 10 ≤ n → 87 + n ≡ hex_digit n
unfolding hex_digit
digit_high n h = rw (le-ltb n 10 h)

pub two_same : {a b x y : ℕ} → a ≡ x → b ≡ y → a ∷ b ∷ [] ≡ x ∷ y ∷ []
two_same p q = rw (p, q)

pub eight_same : {a b c d e f g h p q r s t u v w : ℕ} → a ≡ p → b ≡ q → c ≡ r → d ≡ s → e ≡ t → f ≡ u → g ≡ v → h ≡ w → a ∷ b ∷ c ∷ d ∷ e ∷ f ∷ g ∷ h ∷ [] ≡ p ∷ q ∷ r ∷ s ∷ t ∷ u ∷ v ∷ w ∷ []
eight_same i j k l m n o z = rw (i, j, k, l, m, n, o, z)

pub hex_length : (s : List ℕ) → length (hex_text s) ≡ 2 * length s
unfolding hex_text
hex_length [] = refl
hex_length (b ∷ s) = omega (arith, hex_length s)

two_sets : (l : List ℕ) (k j g : ℕ) (t : List ℕ) → j ≡ suc (suc k) → sets (sets l k (byte_text g)) j (hex_text t) ≡ sets l k (hex_text (g ∷ t))
unfolding hex_text
two_sets l k j g t e = rw e

pub hex_no_room : (out : List ℕ) (at : ℕ) (s : List ℕ) → length out < at + 2 * length s → Placed out at (hex_text s) out at
hex_no_room out at s h = no_room out at (hex_text s) (omega (arith, hex_length s))

module _ (out : List ℕ) (at : ℕ) (s : List ℕ) where
  -- i bytes are in place, and the digits of the others are what is left
  pub record Hexed (now : List ℕ) (r i : ℕ) : Type 0 where
    pub within : i ≤ length s
    pub place : r ≡ at + 2 * i
    pub size : length now ≡ length out
    pub rest : sets now r (hex_text (drop i s)) ≡ sets out at (hex_text s)

  module _ (fits : at + 2 * length s ≤ length out) where
    pub hexed_starts : Hexed out at 0
    hexed_starts = record { within = omega arith; place = omega arith; size = refl; rest = refl }

    pub hexed_steps : {now exit : List ℕ} {r behind i : ℕ} → Hexed now r i → i < length s → Placed now r (byte_text (get_or s i 0)) exit behind → Hexed exit behind (i + 1)
    unfolding buffer_after place_after
    hexed_steps {now} {exit} {r} {behind} {i} h l put =
        let room : r + 2 ≤ length now = omega (arith, h.place, h.size) in
        let b : exit ≡ sets now r (byte_text (get_or s i 0)) = put.buffer ∙ rw (le-leb _ _ room) refl in
        let e : behind ≡ r + 2 = put.place ∙ rw (le-leb _ _ room) refl in
        let d : drop i s ≡ get_or s i 0 ∷ drop (i + 1) s = rw add-one (drop-cons s i 0 l) in
        record {
          within = omega arith;
          place = omega (arith, e, h.place);
          size = ap length b ∙ length-sets now r (byte_text (get_or s i 0)) ∙ h.size;
          rest =
              ap (λ (m : List ℕ). sets m behind (hex_text (drop (i + 1) s))) b
              ∙ two_sets now r behind (get_or s i 0) (drop (i + 1) s) (omega (arith, e))
              ∙ ap (λ (t : List ℕ). sets now r (hex_text t)) (sym d)
              ∙ h.rest;
        }

    pub hexed_ends : {now : List ℕ} {r i : ℕ} → Hexed now r i → length s ≤ i → Placed out at (hex_text s) now r
    unfolding buffer_after place_after hex_text
    hexed_ends {now} {r} {i} h l =
        let e : i ≡ length s = omega (arith, h.within) in
        let fit : at + length (hex_text s) ≤ length out = omega (arith, hex_length s) in
        let d : drop i s ≡ [] = rw e (drop-length s) in
        record {
          buffer = rw (le-leb _ _ fit) (ap (λ (t : List ℕ). sets now r (hex_text t)) (sym d) ∙ h.rest);
          place = rw (le-leb _ _ fit) (omega (arith, h.place, hex_length s, e));
        }
