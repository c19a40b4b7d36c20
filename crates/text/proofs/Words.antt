-- Bytes as one number: a number below 256^n has one row of n digits to base 256, so equal numbers are equal bytes. Assumes nothing.
use Prim.Native.Nat.{ℕ, zero, suc, ◌+◌, ◌*◌, ◌-◌, ◌/◌, ◌%◌, ◌^◌, ◌≤◌, ◌<◌}
use mathlib.Core.Path.{◌≡◌, refl, sym, ap, ◌∙◌}
use mathlib.Core.Bool.{Bool, true, false, ◌&&◌}
use mathlib.Core.List.{List, [], ◌∷◌}
use native.Mathlib.Omega.{arith}
use native.Mathlib.Numerals.{add-one}
use native.Mathlib.Nat.{pow-suc, pow-le-pow_right, mul_assoc, mul_comm}
use lib.Dec.{eqb, ltb}
use lib.Arith.{digits_mod}
use lib.Pow.{pow-add}
use lib.Bits.{bit_and, and_mask}
use lib.ListN.{length, get_or, take, drop, drop_of_length-le, get_or-eq_default}
use lib.Seq.{drop-cons}
use borrow.Author.Tests.{eq-eqb, ne_eqb, ltb-true}
use Rattle.text.specs.Same.{same_text}
use Rattle.text.proofs.Places.{by_order}
use Rattle.text.proofs.Texts.{both_left, both_right}
use Rattle.text.specs.Word.{word_at, word_of, Word}

module _ (s : List ℕ) where
  -- two rows of bytes, one behind the other
  at_join : (n m i : ℕ) → word_at (n + m) s i ≡ word_at m s i + 256 ^ m * word_at n s (i + m)
  unfolding word_at
  at_join n zero i = let e : i + 0 ≡ i = omega arith in let z : n + 0 ≡ n = omega arith in rw (e, z) (omega arith)
  at_join n (suc m) i =
      let r : word_at (n + m) s (suc i) ≡ word_at m s (suc i) + 256 ^ m * word_at n s (suc i + m) = at_join n m (suc i) in
      let q : word_at n s (i + suc m) ≡ word_at n s (suc i + m) = ap (word_at n s) (omega arith) in
      let t : 256 ^ suc m * word_at n s (i + suc m) ≡ 256 ^ suc m * word_at n s (suc i + m) = ap (λ (x : ℕ). 256 ^ suc m * x) q in
      let p : 256 ^ suc m * word_at n s (suc i + m) ≡ 256 * (256 ^ m * word_at n s (suc i + m)) =
      ap (λ (x : ℕ). x * word_at n s (suc i + m)) (pow-suc 256 m ∙ mul_comm (256 ^ m) 256) ∙ mul_assoc 256 (256 ^ m) (word_at n s (suc i + m)) in
      let u : n + suc m ≡ suc (n + m) = omega arith in
      let g : word_at (n + suc m) s i ≡ get_or s i 0 + 256 * word_at (n + m) s (suc i) = ap (λ (k : ℕ). word_at k s i) u in
      let h : word_at (suc m) s i ≡ get_or s i 0 + 256 * word_at m s (suc i) = refl in
      g ∙ omega (arith, r, p, t, h)

  pub word_join : (n m : ℕ) {i a b : ℕ} → Word m s i a → Word n s (i + m) b → Word (n + m) s i (a + 256 ^ m * b)
  word_join n m {i} {a} {b} x y =
      record {
        is = rw (x.is, y.is) (sym (at_join n m i));
        bytes = λ k h. by_order k m (λ l. x.bytes k l) (λ l. later k (omega arith) h) (λ l. later k (omega arith) h);
      }
    where
      later : (k : ℕ) → m ≤ k → k < n + m → get_or s (i + k) 0 < 256
      later k l h = let e : i + m + (k - m) ≡ i + k = omega arith in rw e at (y.bytes (k - m) (omega arith))

  pub word_one : {i a : ℕ} → a ≡ get_or s i 0 → a < 256 → Word 1 s i a
  unfolding word_at
  word_one {i} {a} e h = record { is = omega arith; bytes = λ k l. let z : i + k ≡ i = omega arith in rw z (omega arith) }

  -- n bytes make a number below 256^n
  pub word_below : (n i : ℕ) → ((k : ℕ) → k < n → get_or s (i + k) 0 < 256) → word_at n s i < 256 ^ n
  unfolding word_at
  word_below zero i f = omega arith
  word_below (suc n) i f =
      let r = word_below n (suc i) (λ k h. let e : suc i + k ≡ i + suc k = omega arith in rw e (f (suc k) (omega arith))) in
      let z : i + 0 ≡ i = omega arith in
      let b : get_or s i 0 < 256 = rw z at (f 0 (omega arith)) in
      let p : 256 ^ suc n ≡ 256 * 256 ^ n = pow-suc 256 n ∙ mul_comm (256 ^ n) 256 in
      rw p (omega (arith, r, b))

  -- a mask of n bytes leaves the number of the first n
  pub masked : (n m k : ℕ) {i w : ℕ} → Word (n + m) s i w → 256 ^ m ≡ 2 ^ k → bit_and w (2 ^ k - 1) ≡ word_at m s i
  masked n m k {i} {w} x p =
      and_mask w k ∙ rw (← p, x.is, at_join n m i)
      (ap (λ (y : ℕ). y % 256 ^ m) turned ∙ digits_mod (word_at n s (i + m)) {m = 256 ^ m} {r = word_at m s i} (word_below m i (λ j h. x.bytes j (omega arith))))
    where
      turned : word_at m s i + 256 ^ m * word_at n s (i + m) ≡ word_at n s (i + m) * 256 ^ m + word_at m s i
      turned = let e = mul_comm (256 ^ m) (word_at n s (i + m)) in omega (arith, e)

  -- the bytes from j on make w, with those that are missing from the eight of i as 0
  pub record FewTo (i w j : ℕ) : Type 0 where
    pub from : i ≤ j
    pub within : j ≤ length s
    pub near : length s < i + 8
    pub word : Word (i + 8 - j) s j w

  past_end : (n j : ℕ) → length s ≤ j → word_at n s j ≡ 0
  unfolding word_at
  past_end zero j h = refl
  past_end (suc n) j h = omega (arith, get_or-eq_default s 0 {n = j} h, past_end n (suc j) (omega arith))

  pub bytes_start : {i : ℕ} → i ≤ length s → length s < i + 8 → FewTo i 0 (length s)
  bytes_start {i} a b =
      record {
        from = a;
        within = omega arith;
        near = b;
        word = record { is = sym (past_end (i + 8 - length s) (length s) (omega arith)); bytes = λ k h. omega (arith, get_or-eq_default s 0 {n = length s + k} (omega arith)) };
      }

  -- one byte more stays within 64 bits
  pub bytes_fit : {i w j : ℕ} (b : ℕ) → FewTo i w j → i < j → b < 256 → 256 * w + b < 18446744073709551616
  bytes_fit {i} {w} {j} b r h l =
      let small : w < 256 ^ (i + 8 - j) = rw r.word.is (word_below (i + 8 - j) j r.word.bytes) in
      let p : 256 ^ (i + 8 - j) ≤ 256 ^ 7 = pow-le-pow_right {n = 256} (omega arith) {i = i + 8 - j} {j = 7} (omega arith) in
      omega (arith, small, p)

  pub bytes_step : {i w j b : ℕ} → FewTo i w j → i < j → b ≡ get_or s (j - 1) 0 → b < 256 → FewTo i (256 * w + b) (j - 1)
  bytes_step {i} {w} {j} {b} r h e l =
      let z : j - 1 + 1 ≡ j = omega arith in
      let q : i + 8 - j + 1 ≡ i + 8 - (j - 1) = omega (arith, r.within, r.near) in
      let x : Word (i + 8 - j + 1) s (j - 1) (b + 256 ^ 1 * w) = word_join (i + 8 - j) 1 (word_one e l) (rw z r.word) in
      let y : b + 256 ^ 1 * w ≡ 256 * w + b = omega arith in
      record { from = omega arith; within = omega (arith, r.within); near = r.near; word = rw (q, y) at x }

  pub bytes_all : {i w j : ℕ} → FewTo i w j → j ≤ i → Word 8 s i w
  bytes_all {i} {w} {j} r h =
      let e : j ≡ i = omega (arith, r.from) in
      let z : i + 8 - i ≡ 8 = omega arith in
      rw z at (rw e at r.word)

  -- the bytes of n from k on make w
  pub record WordTo (n i w k : ℕ) : Type 0 where
    pub within : k ≤ n
    pub word : Word (n - k) s (i + k) w

  pub word_start : (n i : ℕ) → WordTo n i 0 n
  unfolding word_at
  word_start n i = let z : n - n ≡ 0 = omega arith in record { within = omega arith; word = rw z (record { is = refl; bytes = λ k h. absurd (omega arith) }) }

  pub word_fit : {n i w k : ℕ} (b : ℕ) → WordTo n i w k → n ≤ 8 → 0 < k → b < 256 → 256 * w + b < 18446744073709551616
  word_fit {n} {i} {w} {k} b r h a l =
      let small : w < 256 ^ (n - k) = rw r.word.is (word_below (n - k) (i + k) r.word.bytes) in
      let p : 256 ^ (n - k) ≤ 256 ^ 7 = pow-le-pow_right {n = 256} (omega arith) {i = n - k} {j = 7} (omega arith) in
      omega (arith, small, p)

  pub word_step : {n i w k b : ℕ} → WordTo n i w k → 0 < k → b ≡ get_or s (i + (k - 1)) 0 → b < 256 → WordTo n i (256 * w + b) (k - 1)
  word_step {n} {i} {w} {k} {b} r h e l =
      let z : i + (k - 1) + 1 ≡ i + k = omega arith in
      let q : n - k + 1 ≡ n - (k - 1) = omega (arith, r.within) in
      let x : Word (n - k + 1) s (i + (k - 1)) (b + 256 ^ 1 * w) = word_join (n - k) 1 (word_one e l) (rw z r.word) in
      let y : b + 256 ^ 1 * w ≡ 256 * w + b = omega arith in
      record { within = omega (arith, r.within); word = rw (q, y) at x }

  pub word_all : {n i w k : ℕ} → WordTo n i w k → k ≤ 0 → Word n s i w
  word_all {n} {i} {w} {k} r h =
      let e : n - k ≡ n = omega arith in
      let z : i + k ≡ i = omega arith in
      rw (e, z) at r.word

-- 256^m is a power of two
power_two : (m : ℕ) → 256 ^ m ≡ 2 ^ (8 * m)
power_two zero = refl
power_two (suc m) =
    let e : 8 * suc m ≡ 8 * m + 8 = omega arith in
    pow-suc 256 m ∙ ap (λ (x : ℕ). x * 256) (power_two m) ∙ sym (ap (λ (k : ℕ). 2 ^ k) e ∙ pow-add 2 (8 * m) 8)

pub mask_tells : (s : List ℕ) (m : ℕ) {i w mask : ℕ} → m ≤ 8 → Word 8 s i w → mask ≡ 2 ^ (8 * m) - 1 → bit_and w mask ≡ word_at m s i
mask_tells s m {i} {w} {mask} h x e =
    let q : 8 ≡ 8 - m + m = omega arith in
    rw e (masked s (8 - m) m (8 * m) (rw q at x) (power_two m))

-- the first two bytes of a word
pub first_two : (s : List ℕ) (n : ℕ) {i w : ℕ} → Word (suc (suc n)) s i w → w % 256 + w / 256 % 256 ≡ get_or s i 0 + get_or s (i + 1) 0
unfolding word_at
first_two s n {i} {w} x =
    let z : i + 0 ≡ i = omega arith in
    let y : i + 1 ≡ suc i = omega arith in
    let a : get_or s i 0 < 256 = rw z at (x.bytes 0 (omega arith)) in
    let b : get_or s (suc i) 0 < 256 = rw y at (x.bytes 1 (omega arith)) in
    let e : w ≡ get_or s i 0 + 256 * (get_or s (suc i) 0 + 256 * word_at n s (suc (suc i))) = x.is in
    rw y (omega (arith, a, b, e))

-- a word of two bytes that is a text's number is the text's bytes
pub two_are : (s : List ℕ) (i : ℕ) {w a b : ℕ} → Word 2 s i w → a < 256 → w ≡ word_of (a ∷ b ∷ []) → (get_or s i 0 ≡ a) × (get_or s (i + 1) 0 ≡ b)
unfolding word_at word_of
two_are s i {w} r h e =
    let z : i + 0 ≡ i = omega arith in
    let x : get_or s i 0 < 256 = rw z at (r.bytes 0 (omega arith)) in
    let q : w ≡ get_or s i 0 + 256 * (get_or s (suc i) 0 + 256 * 0) = r.is in
    (omega (arith, x, q), rw add-one (omega (arith, x, q)))

-- one digit of two numbers
split : (a x u v : ℕ) → a < 256 → x < 256 → eqb (a + 256 * u) (x + 256 * v) ≡ (eqb a x && eqb u v)
split a x u v h l =
    by_order a x (λ z. rw (ne_eqb a x (λ e. absurd (omega arith))) (ne_eqb (a + 256 * u) (x + 256 * v) (λ e. absurd (omega arith))))
    (λ z. rest z ∙ rw (eq-eqb a x z))
    (λ z. rw (ne_eqb a x (λ e. absurd (omega arith))) (ne_eqb (a + 256 * u) (x + 256 * v) (λ e. absurd (omega arith))))
  where
    rest : a ≡ x → eqb (a + 256 * u) (x + 256 * v) ≡ eqb u v
    rest z =
        by_order u v (λ y. ne_eqb (a + 256 * u) (x + 256 * v) (λ e. absurd (omega arith)) ∙ sym (ne_eqb u v (λ e. absurd (omega arith))))
        (λ y. eq-eqb (a + 256 * u) (x + 256 * v) (omega arith) ∙ sym (eq-eqb u v y))
        (λ y. ne_eqb (a + 256 * u) (x + 256 * v) (λ e. absurd (omega arith)) ∙ sym (ne_eqb u v (λ e. absurd (omega arith))))

-- every byte is one of 1 to 255
abbrev pub full_bytes : List ℕ → Bool
full_bytes [] = true
full_bytes (b ∷ s) = ltb 0 b && ltb b 256 && full_bytes s

-- equal numbers are equal texts: past the end of s all bytes are 0, and none of the key's is
pub same_word : (key s : List ℕ) (i : ℕ) → full_bytes key ≡ true → ((k : ℕ) → k < length key → get_or s (i + k) 0 < 256) → eqb (word_at (length key) s i) (word_of key) ≡ same_text (take (length key) (drop i s)) key
unfolding word_at word_of
same_word [] s i a f = eq-eqb 0 0 refl
same_word (x ∷ key) s i a f =
    by_order i (length s)
    (within (same_word key s (suc i) (both_right (ltb 0 x && ltb x 256) _ a) (λ k g. let e : suc i + k ≡ i + suc k = omega arith in rw e (f (suc k) (omega arith)))))
    (λ e. past (omega arith))
    (λ l. past (omega arith))
  where
    front : (ltb 0 x && ltb x 256) ≡ true
    front = both_left _ _ a

    above : 0 < x
    above = ltb-true 0 x (both_left _ _ front)

    below : x < 256
    below = ltb-true x 256 (both_right (ltb 0 x) _ front)

    here : get_or s i 0 < 256
    here = let z : i + 0 ≡ i = omega arith in rw z at (f 0 (omega arith))

    apart : eqb (word_at (suc (length key)) s i) (word_of (x ∷ key)) ≡ (eqb (get_or s i 0) x && eqb (word_at (length key) s (suc i)) (word_of key))
    apart = split (get_or s i 0) x (word_at (length key) s (suc i)) (word_of key) here below

    within : eqb (word_at (length key) s (suc i)) (word_of key) ≡ same_text (take (length key) (drop (suc i) s)) key → i < length s → eqb (word_at (suc (length key)) s i) (word_of (x ∷ key)) ≡ same_text (take (suc (length key)) (drop i s)) (x ∷ key)
    within rest h = rw (drop-cons s i 0 h) (apart ∙ ap (λ (y : Bool). eqb (get_or s i 0) x && y) rest)

    past : length s ≤ i → eqb (word_at (suc (length key)) s i) (word_of (x ∷ key)) ≡ same_text (take (suc (length key)) (drop i s)) (x ∷ key)
    past h =
        let none : eqb (get_or s i 0) x ≡ false = ne_eqb (get_or s i 0) x (λ e. absurd (omega (arith, above, get_or-eq_default s 0 {n = i} h))) in
        rw (drop_of_length-le s h) (apart ∙ rw none)
