-- A piece as the kernel prints it, read by its places: the sum of eight entries is below 128 only where each is a digit's, and neither `0x` nor a
-- digit is a comma, so the piece ends behind its ten bytes. Assumes nothing.
use Rattle.std.specs.Prelude.{Some}
use Prim.Native.Nat.{ℕ, suc, ◌+◌, ◌*◌, ◌-◌, ◌^◌, ◌≤◌, ◌<◌}
use mathlib.Core.Path.{◌≡◌, refl, sym, ap, ◌∙◌}
use mathlib.Core.Bool.{true}
use mathlib.Core.List.{List, ◌∷◌}
use native.Mathlib.Omega.{arith}
use native.Mathlib.Numerals.{add-one}
use native.Mathlib.Nat.{pow-suc, pow-le-pow_right}
use lib.ListN.{length, get_or, take, drop, length-drop}
use lib.Seq.{get_or-take, get_or-drop, drop-cons, length-take-le}
use borrow.Author.Tests.{eq-eqb}
use Rattle.text.specs.Class.{between, is_digit}
use Rattle.text.specs.Number.{digit_of, Reads, HexNumber, number_of}
use Rattle.text.specs.Quote.{bytes}
use Rattle.text.specs.Word.{word_of, Word}
use Rattle.text.proofs.Places.{by_order, first_is_stop}
use Rattle.text.proofs.Numbers.{SoFar, so_far_starts, so_far_steps, whole_value, number_is, number_read}
use Rattle.text.proofs.Hexes.{hex_all}
use Rattle.text.proofs.Words.{two_are}
use Rattle.pairs.specs.Data.{comma_space, piece_end, PieceHere}
use Rattle.pairs.proofs.Cuts.{comma_space_none, comma_space_by, ends_piece}
use Rattle.pairs.proofs.Slots.{piece_dword}

-- ---- eight digits

-- k digits of l are read, of value v, and their entries' sum
pub record Eight (l : List ℕ) (v sum k : ℕ) : Type 0 where
  pub within : k ≤ 8
  pub narrow : v + 17 ≤ 17 * 16 ^ k
  pub total : sum ≤ 255 * k
  pub below : sum < 128 → v < 16 ^ k
  pub read : sum < 128 → SoFar 16 4294967295 0 l v k

module _ (l : List ℕ) (long : length l ≡ 8) where
  pub eight_starts : Eight l 0 0 0
  eight_starts =
      record {
        within = omega arith;
        narrow = omega arith;
        total = omega arith;
        below = λ h. omega arith;
        read = λ h. so_far_starts 16 4294967295 0 l (omega arith);
      }

  power : (k : ℕ) → 16 ^ (k + 1) ≡ 16 * 16 ^ k
  power k = let p = pow-suc 16 k in rw add-one (omega (arith, p))

  pub room_left : {v sum k : ℕ} → Eight l v sum k → k < 8 → v < 17 * 268435456
  room_left {v} {sum} {k} r h =
      let p : 16 ^ k ≤ 16 ^ 7 = pow-le-pow_right {n = 16} (omega arith) {i = k} {j = 7} (omega arith) in
      omega (arith, r.narrow, p)

  pub eight_steps : {v sum k d : ℕ} → Eight l v sum k → k < 8 → d < 256 → (d < 128 → d < 16) → (d < 16 → digit_of (get_or l k 0) ≡ d) →
      Eight l (v * 16 + d) (sum + d) (k + 1)
  eight_steps {v} {sum} {k} {d} r h b small is =
      let e = power k in
      record {
        within = omega arith;
        narrow = omega (arith, r.narrow, e);
        total = omega (arith, r.total);
        below = λ u. omega (arith, r.below (omega arith), e, small (omega arith));
        read = λ u. digit u (small (omega arith));
      }
    where
      digit : sum + d < 128 → d < 16 → SoFar 16 4294967295 0 l (v * 16 + d) (k + 1)
      digit u g =
          let p : 16 ^ k ≤ 16 ^ 7 = pow-le-pow_right {n = 16} (omega arith) {i = k} {j = 7} (omega arith) in
          let f : v < 16 ^ k = r.below (omega arith) in
          so_far_steps 16 4294967295 0 l (r.read (omega arith)) (omega arith) (sym (is g)) g (omega (arith, f, p))

  pub eight_done : {v sum k : ℕ} → Eight l v sum k → 8 ≤ k → sum < 128 → number_of 16 4294967295 l ≡ Some v
  eight_done {v} {sum} {k} r h u = number_read 16 4294967295 l ∙ sym (whole_value 16 4294967295 0 l (r.read u) (omega arith))

-- the part that is read, and its bytes
module _ (s : List ℕ) (n at : ℕ) (h : at + n ≤ length s) where
  pub part_long : length (take n (drop at s)) ≡ n
  part_long = let e = length-drop at s in length-take-le n (drop at s) (omega (arith, e))

  pub part_byte : {k : ℕ} → k < n → get_or (take n (drop at s)) k 0 ≡ get_or s (at + k) 0
  part_byte {k} l = get_or-take n (drop at s) k 0 l ∙ get_or-drop at s k 0

-- ---- the piece

-- `, ` and `0x` as numbers, each that of its text
pub comma_space_number : 0x202c ≡ word_of (bytes ", ")
unfolding word_of
comma_space_number = refl

prefix_number : 0x7830 ≡ word_of (bytes "0x")
unfolding word_of
prefix_number = refl

-- a comma is no digit
comma_is_no_digit : digit_of 44 < 16 → ⊥
unfolding digit_of is_digit between
comma_is_no_digit h = omega arith

-- `, ` by its number
pub comma_space_is : (l : List ℕ) {k : ℕ} → Word 2 l k 0x202c → comma_space l k ≡ true
comma_space_is l {k} w =
    let both = two_are l k w (omega arith) comma_space_number in
    comma_space_by l k both.0 ∙ eq-eqb _ _ both.1

pub comma_space_at : (l : List ℕ) (k : ℕ) {v : ℕ} → Word 2 l k v → v ≡ 0x202c → comma_space l k ≡ true
comma_space_at l k w e = comma_space_is l (rw e at w)

-- the piece of ten bytes
module _ (l : List ℕ) (at : ℕ) {v : ℕ} (room : at + 10 ≤ length l) (front : Word 2 l at 0x7830)
    (number : number_of 16 4294967295 (take 8 (drop (at + 2) l)) ≡ Some v) where
  starts : (get_or l at 0 ≡ 48) × (get_or l (at + 1) 0 ≡ 120)
  starts = two_are l at front (omega arith) prefix_number

  digits : Reads 16 4294967295 (take 8 (drop (at + 2) l)) v
  digits = number_is 16 4294967295 (take 8 (drop (at + 2) l)) number

  no_comma : (k : ℕ) → at ≤ k → k < at + 10 → get_or l k 0 ≡ 44 → ⊥
  no_comma k a b e =
      by_order k (at + 1) (λ h. let q : k ≡ at = omega arith in omega (arith, starts.0, ap (λ (j : ℕ). get_or l j 0) q))
      (λ h. omega (arith, starts.1, ap (λ (j : ℕ). get_or l j 0) h))
      (λ h. digit h)
    where
      digit : at + 1 < k → ⊥
      digit h =
          let q : at + 2 + (k - (at + 2)) ≡ k = omega arith in
          let n : k - (at + 2) < 8 = omega arith in
          let d = digits.digits (k - (at + 2)) (rw (part_long l 8 (at + 2) (omega arith)) n) in
          let is : get_or (take 8 (drop (at + 2) l)) (k - (at + 2)) 0 ≡ 44 =
          part_byte l 8 (at + 2) (omega arith) n ∙ ap (λ (j : ℕ). get_or l j 0) q ∙ e in
          comma_is_no_digit (rw is at d)

  ten : take 10 (drop at l) ≡ 48 ∷ 120 ∷ take 8 (drop (at + 2) l)
  ten =
      let a : suc at ≡ at + 1 = omega arith in
      let b : suc (at + 1) ≡ at + 2 = omega arith in
      let more : drop at l ≡ 48 ∷ 120 ∷ drop (at + 2) l =
      drop-cons l at 0 (omega arith)
      ∙ rw (starts.0, a) (ap (λ (t : List ℕ). 48 ∷ t) (drop-cons l (at + 1) 0 (omega arith) ∙ rw (starts.1, b) refl)) in
      ap (take 10) more

  pub printed_here : (at + 10 < length l → comma_space l (at + 10) ≡ true) →
      PieceHere l at (record { end = at + 10; dword = Some v })
  unfolding piece_end
  printed_here ends =
      let size : at + 10 - at ≡ 10 = omega arith in
      record {
        ends =
            ends_piece l (omega arith) (sym (first_is_stop (comma_space l) (record {
              from = omega arith;
              within = room;
              before = λ k a b. comma_space_none l k (no_comma k a b);
              here = ends;
            })));
        is =
            rw size (sym (piece_dword (take 10 (drop at l)) (hex_all 4294967295 (HexNumber.prefixed _ ten digits))));
      }
