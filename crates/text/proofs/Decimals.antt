-- Decimal texts: a number of two digits or more ends in its last digit, before which stands the rest's text; so the text reads back to
-- the number, and has no zero in front. Assumes nothing.
use Prim.Native.Nat.{ℕ, zero, suc, ◌+◌, ◌*◌, ◌/◌, ◌%◌, ◌^◌, ◌≤◌, ◌<◌}
use mathlib.Core.Path.{◌≡◌, refl, ap, ◌∙◌}
use mathlib.Core.Bool.{true, cond}
use mathlib.Core.List.{List, [], ◌∷◌, ◌++◌}
use native.Mathlib.Omega.{arith}
use native.Mathlib.Nat.{div-lt_iff_lt-mul, pow-suc}
use lib.Dec.{ltb}
use lib.ListN.{length, get_or, get_or-append, length-append}
use borrow.Author.Tests.{lt-ltb, le-ltb, le-leb, ltb-true}
use Rattle.text.specs.Class.{between, is_digit}
use Rattle.text.specs.Number.{digit_of, value, all_digits}
use Rattle.text.specs.Decimal.{digits_within, decimal_text}
use Rattle.text.proofs.Places.{by_order}
use Rattle.text.proofs.Texts.{both_left, both_right}

-- a digit and its byte
pub digit_byte : (d : ℕ) → d < 10 → digit_of (48 + d) ≡ d
unfolding digit_of is_digit between
digit_byte d h =
    let low : 48 ≤ 48 + d = omega arith in
    let high : 48 + d ≤ 57 = omega arith in
    rw (le-leb _ _ low, le-leb _ _ high) (omega arith)

-- one more place for digits changes nothing where there were enough
pub tenth_below : (k n : ℕ) → n < 10 ^ suc k → n / 10 < 10 ^ k
tenth_below k n h = (div-lt_iff_lt-mul {k = 10} {x = n} {y = 10 ^ k} (omega arith)).1 (rw (← pow-suc 10 k) h)

more_room : (k n : ℕ) → n < 10 ^ suc k → digits_within (suc k) n ≡ digits_within (suc (suc k)) n
unfolding digits_within
more_room zero n h = rw (lt-ltb n 10 h)
more_room (suc k) n h =
    ap (λ (l : List ℕ). cond (ltb n 10) ((48 + n) ∷ []) (l ++ ((48 + n % 10) ∷ []))) (more_room k (n / 10) (tenth_below (suc k) n h))

digits_short : (k n : ℕ) → n < 10 → digits_within (suc k) n ≡ (48 + n) ∷ []
unfolding digits_within
digits_short k n h = rw (lt-ltb n 10 h)

-- a number has one digit or more
by_digits : {A : Type 0} (n : ℕ) → (n < 10 → A) → (10 ≤ n → A) → A
by_digits n f g = by_order n 10 f (λ e. g (omega arith)) (λ l. g (omega arith))

pub decimal_short : (n : ℕ) → n < 10 → decimal_text n ≡ (48 + n) ∷ []
unfolding decimal_text
decimal_short n h = digits_short 19 n h

digits_long : (k n : ℕ) → 10 ≤ n → digits_within (suc k) n ≡ digits_within k (n / 10) ++ ((48 + n % 10) ∷ [])
unfolding digits_within
digits_long k n l = rw (le-ltb n 10 l)

pub decimal_long : (n : ℕ) → 10 ≤ n → n < 10 ^ 20 → decimal_text n ≡ decimal_text (n / 10) ++ ((48 + n % 10) ∷ [])
unfolding decimal_text
decimal_long n l h =
    digits_long 19 n l ∙ ap (λ (t : List ℕ). t ++ ((48 + n % 10) ∷ [])) (more_room 18 (n / 10) (tenth_below 19 n h))

-- the value of a text with one digit more
value_snoc : (v : ℕ) (s : List ℕ) (b : ℕ) → value 10 v (s ++ (b ∷ [])) ≡ value 10 v s * 10 + digit_of b
unfolding value
value_snoc v [] b = refl
value_snoc v (a ∷ s) b = value_snoc (v * 10 + digit_of a) s b

digits_snoc : (s : List ℕ) (b : ℕ) → all_digits 10 s ≡ true → digit_of b < 10 → all_digits 10 (s ++ (b ∷ [])) ≡ true
unfolding all_digits
digits_snoc [] b t h = rw (lt-ltb (digit_of b) 10 h)
digits_snoc (a ∷ s) b t h =
    rw (lt-ltb (digit_of a) 10 (ltb-true (digit_of a) 10 (both_left _ _ t))) (digits_snoc s b (both_right (ltb (digit_of a) 10) _ t) h)

-- what a decimal text is: digits only, of the number's value, with no zero in front but for 0 itself
pub record Prints (n : ℕ) (s : List ℕ) : Type 0 where
  pub some : 0 < length s
  pub digits : all_digits 10 s ≡ true
  pub reads : value 10 0 s ≡ n
  pub lean : 0 < n → 48 < get_or s 0 0

prints_short : (n : ℕ) → n < 10 → Prints n ((48 + n) ∷ [])
unfolding all_digits value
prints_short n h =
    let d : digit_of (48 + n) ≡ n = digit_byte n h in
    record {
      some = omega arith;
      digits = rw (d, lt-ltb n 10 h);
      reads = rw d (omega arith);
      lean = λ p. omega arith;
    }

prints_long : (n : ℕ) (t : List ℕ) → 10 ≤ n → Prints (n / 10) t → Prints n (t ++ ((48 + n % 10) ∷ []))
prints_long n t l r =
    let last : n % 10 < 10 = omega arith in
    let d : digit_of (48 + n % 10) ≡ n % 10 = digit_byte (n % 10) last in
    record {
      some = omega (arith, length-append t ((48 + n % 10) ∷ []), r.some);
      digits = digits_snoc t (48 + n % 10) r.digits (rw d last);
      reads = value_snoc 0 t (48 + n % 10) ∙ rw (r.reads, d) (omega arith);
      lean = λ p. rw (get_or-append t ((48 + n % 10) ∷ []) 0 0 r.some) (r.lean (omega arith));
    }

prints_within : (k n : ℕ) → n < 10 ^ suc k → Prints n (digits_within (suc k) n)
prints_within zero n h = rw (digits_short 0 n h) (prints_short n h)
prints_within (suc k) n h =
    by_digits n (λ l. rw (digits_short (suc k) n l) (prints_short n l))
    (λ l. rw (digits_long (suc k) n l) (prints_long n _ l (prints_within k (n / 10) (tenth_below (suc k) n h))))

pub decimal_prints : (n : ℕ) → n < 10 ^ 20 → Prints n (decimal_text n)
unfolding decimal_text
decimal_prints n h = prints_within 19 n h
