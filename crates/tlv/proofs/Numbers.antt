-- Numbers of any width, low byte first: a number of j + k bytes is one of j bytes and, times 256 ^ j, one of k bytes behind it. All else is by
-- one byte at a time. Assumes nothing.
use Prim.Native.Nat.{ℕ, zero, suc, ◌+◌, ◌-◌, ◌*◌, ◌/◌, ◌%◌, ◌^◌, ◌≤◌, ◌<◌}
use mathlib.Core.Path.{◌≡◌, ◌∙◌, sym, ap, refl}
use mathlib.Core.List.{List, ◌∷◌, ◌++◌}
use native.Mathlib.Nat.{zero-add, add-zero, suc-add, pow-suc, mul-le-mul_left, pow-le-pow_right, mod-lt, div-lt_iff_lt-mul}
use native.Mathlib.Numerals.{add-one}
use native.Mathlib.Omega.{arith}
use lib.ListN.{length, get_or, take, drop, get_or-eq_default}
use lib.Pow.{pow-add}
use lib.Seq.{get_or-drop, get_or-take, drop-drop, drop-cons}
use Rattle.tlv.specs.Number.{Bytes, number, number_bytes, Read}

-- what the first element of the rest is, and what the rest after it is
pub drop_next : (s : List ℕ) (i : ℕ) {x : ℕ} {r : List ℕ} → drop i s ≡ x ∷ r → (get_or s i 0 ≡ x) × (drop (i + 1) s ≡ r)
drop_next s i e = (
  ap (λ (n : ℕ). get_or s n 0) (sym (add-zero i)) ∙ sym (get_or-drop i s 0 0) ∙ ap (λ (l : List ℕ). get_or l 0 0) e,
  sym (drop-drop 1 i s) ∙ ap (drop 1) e,
)

-- past the end there is nothing but zeros
pub number_past : (k : ℕ) (s : List ℕ) (i : ℕ) → length s ≤ i → number k s i ≡ 0
unfolding number
number_past zero s i h = refl
number_past (suc k) s i h =
    let e : get_or s i 0 ≡ 0 = get_or-eq_default s 0 {n = i} h in
    let r : number k s (i + 1) ≡ 0 = number_past k s (i + 1) (omega arith) in
    omega arith

-- one byte is the byte
pub number_one : (s : List ℕ) (i : ℕ) → number 1 s i ≡ get_or s i 0
unfolding number
number_one s i = omega arith

-- the law over the width: the first j bytes, and 256 ^ j times the k bytes behind them
pub number_add : (j k : ℕ) (s : List ℕ) (i : ℕ) → number (j + k) s i ≡ number j s i + 256 ^ j * number k s (i + j)
unfolding number
number_add zero k s i = rw (zero-add k, add-zero i) (omega arith)
number_add (suc j) k s i =
    let e : i + 1 + j ≡ i + suc j = omega arith in
    let h : number (j + k) s (i + 1) ≡ number j s (i + 1) + 256 ^ j * number k s (i + suc j) =
    number_add j k s (i + 1) ∙ ap (λ (n : ℕ). number j s (i + 1) + 256 ^ j * number k s n) e in
    rw (suc-add j k, pow-suc 256 j) (omega arith)

-- of bytes, k make a number below 256 ^ k
pub number_below : (k : ℕ) (s : List ℕ) → Bytes s → (i : ℕ) → number k s i < 256 ^ k
unfolding number
number_below zero s b i = omega arith
number_below (suc k) s b i = rw (pow-suc 256 k) (omega (arith, b i, number_below k s b (i + 1)))

-- a text's first n bytes read the same in the whole
pub number_take : (k : ℕ) (s : List ℕ) (i n : ℕ) → i + k ≤ n → number k (take n s) i ≡ number k s i
unfolding number
number_take zero s i n h = refl
number_take (suc k) s i n h =
    let e : get_or (take n s) i 0 ≡ get_or s i 0 = get_or-take n s i 0 (omega arith) in
    let r : number k (take n s) (i + 1) ≡ number k s (i + 1) = number_take k s (i + 1) n (omega arith) in
    omega arith

-- what comes behind the first n bytes reads the same in the whole
pub number_drop : (k : ℕ) (s : List ℕ) (n i : ℕ) → number k (drop n s) i ≡ number k s (n + i)
unfolding number
number_drop zero s n i = refl
number_drop (suc k) s n i =
    let e : n + (i + 1) ≡ n + i + 1 = omega arith in
    let h : number k (drop n s) (i + 1) ≡ number k s (n + i + 1) = number_drop k s n (i + 1) ∙ ap (number k s) e in
    omega (arith, get_or-drop n s i 0)

-- k bytes are k bytes
pub number_bytes_length : (k n : ℕ) → length (number_bytes k n) ≡ k
unfolding number_bytes
number_bytes_length zero n = refl
number_bytes_length (suc k) n = ap suc (number_bytes_length k (n / 256))

-- each of them is a byte
pub number_bytes_bytes : (k n : ℕ) → Bytes (number_bytes k n)
unfolding number_bytes
number_bytes_bytes zero n i = omega arith
number_bytes_bytes (suc k) n zero = mod-lt n (omega arith)
number_bytes_bytes (suc k) n (suc i) = number_bytes_bytes k (n / 256) i

-- what was made from a number reads as that number
pub number_made : (k n : ℕ) (s : List ℕ) (i : ℕ) (q : List ℕ) → n < 256 ^ k → drop i s ≡ number_bytes k n ++ q → number k s i ≡ n
unfolding number number_bytes
number_made zero n s i q h e = omega arith
number_made (suc k) n s i q h e =
    let p = drop_next s i e in
    let u : n / 256 < 256 ^ k = (div-lt_iff_lt-mul {k = 256} {x = n} {y = 256 ^ k} (omega arith)).1 (rw (pow-suc 256 k) at h) in
    omega (arith, p.0, number_made k (n / 256) s (i + 1) q u p.1)

-- what reads as a number was made from that number
pub number_bytes_is : (k : ℕ) (s : List ℕ) → Bytes s → (i : ℕ) → i + k ≤ length s → take k (drop i s) ≡ number_bytes k (number k s i)
unfolding number number_bytes
number_bytes_is zero s b i h = refl
number_bytes_is (suc k) s b i h =
    let e : drop i s ≡ get_or s i 0 ∷ drop (suc i) s = drop-cons s i 0 (omega arith) in
    let low : (get_or s i 0 + 256 * number k s (i + 1)) % 256 ≡ get_or s i 0 = omega (arith, b i) in
    let high : (get_or s i 0 + 256 * number k s (i + 1)) / 256 ≡ number k s (i + 1) = omega (arith, b i) in
    rw (e, low, high, ← add-one i) (ap (λ (l : List ℕ). get_or s i 0 ∷ l) (number_bytes_is k s b (i + 1) (omega arith)))

-- k bytes hold some number
bytes_hold : (k : ℕ) → 0 < 256 ^ k
bytes_hold zero = omega arith
bytes_hold (suc k) = rw (pow-suc 256 k) (omega (arith, bytes_hold k))

-- past the end a read answers 0
pub read_past : (k : ℕ) (s : List ℕ) (i : ℕ) → length s ≤ i → Read k s i 0
read_past k s i h = record { is = sym (number_past k s i h); fits = bytes_hold k }

-- the bytes of k from j on make n
pub record ReadTo (k : ℕ) (s : List ℕ) (i n j : ℕ) : Type 0 where
  pub within : j ≤ k
  pub read : Read (k - j) s (i + j) n

pub read_start : (k : ℕ) (s : List ℕ) (i : ℕ) → ReadTo k s i 0 k
unfolding number
read_start k s i = let z : k - k ≡ 0 = omega arith in record { within = omega arith; read = rw z (record { is = refl; fits = omega arith }) }

pub read_fit : {k : ℕ} {s : List ℕ} {i n j : ℕ} (b : ℕ) → ReadTo k s i n j → k ≤ 8 → 0 < j → b < 256 → 256 * n + b < 18446744073709551616
read_fit {k} {s} {i} {n} {j} b r h a l =
    let p : 256 ^ (k - j) ≤ 256 ^ 7 = pow-le-pow_right {n = 256} (omega arith) {i = k - j} {j = 7} (omega arith) in
    omega (arith, r.read.fits, p)

pub read_step : {k : ℕ} {s : List ℕ} {i n j b : ℕ} → ReadTo k s i n j → 0 < j → (b ≡ get_or s (i + (j - 1)) 0) × (b < 256) → ReadTo k s i (256 * n + b) (j - 1)
unfolding number
read_step {k} {s} {i} {n} {j} {b} r h e =
    let z : i + (j - 1) + 1 ≡ i + j = omega arith in
    let q : k - (j - 1) ≡ suc (k - j) = omega (arith, r.within) in
    let m : number (k - j) s (i + (j - 1) + 1) ≡ n = rw z (sym r.read.is) in
    record {
      within = omega (arith, r.within);
      read = rw q (record { is = omega (arith, e.0, m); fits = rw (pow-suc 256 (k - j)) (omega (arith, r.read.fits, e.1)) });
    }

pub read_all : {k : ℕ} {s : List ℕ} {i n j : ℕ} → ReadTo k s i n j → j ≤ 0 → Read k s i n
read_all {k} {s} {i} {n} {j} r h =
    let e : k - j ≡ k = omega arith in
    let z : i + j ≡ i = omega arith in
    rw (e, z) at r.read

-- a byte is a read of one byte
pub read_byte : (s : List ℕ) (i : ℕ) {r : ℕ} → (r ≡ get_or s i 0) × (r < 256) → Read 1 s i r
read_byte s i h = record { is = h.0 ∙ sym (number_one s i); fits = h.1 }

-- two reads of k bytes, one behind the other, are one of twice as many
pub read_twice : (k : ℕ) (s : List ℕ) (i a b : ℕ) → Read k s i a → Read k s (i + k) b → Read (k + k) s i (a + 256 ^ k * b)
read_twice k s i a b low high =
    let top : 256 ^ k * (b + 1) ≤ 256 ^ k * 256 ^ k = mul-le-mul_left (256 ^ k) (omega (arith, high.fits)) in
    record {
      is =
          ap (λ (n : ℕ). n + 256 ^ k * b) low.is
          ∙ ap (λ (n : ℕ). number k s i + 256 ^ k * n) high.is
          ∙ sym (number_add k k s i);
      fits = rw (pow-add 256 k k) (omega (arith, top, low.fits));
    }
