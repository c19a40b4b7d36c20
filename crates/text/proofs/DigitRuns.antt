-- Digits read one by one from a place on: their value is that of the part read, and sixteen of them stay within 64 bits; decimal digits that no
-- further one follows are the whole digit run. Assumes nothing.
use Rattle.std.specs.Prelude.{None, Some}
use Prim.Native.Nat.{ℕ, zero, suc, ◌+◌, ◌-◌, ◌*◌, ◌^◌, ◌≤◌, ◌<◌}
use mathlib.Core.Path.{◌≡◌, refl, sym, ap, ◌∙◌}
use mathlib.Core.Bool.{Bool, true, false, cond, ◌&&◌}
use mathlib.Core.List.{List, [], ◌∷◌}
use native.Mathlib.Omega.{arith}
use native.Mathlib.Nat.{pow-suc}
use lib.Dec.{ltb, leb}
use lib.ListN.{length, get_or, take, drop, length-drop}
use lib.Seq.{get_or-take, get_or-drop, length-take-le}
use borrow.Author.Tests.{lt-leb, leb-true, leb-false}
use Rattle.text.specs.Class.{between, is_digit}
use Rattle.text.specs.Number.{digit_of, value, all_digits, number_of, leading_of}
use Rattle.text.specs.Run.{run_end}
use Rattle.text.proofs.FewDigits.{digit_is, digit_none, digit_more, sixteen_fit}
use Rattle.text.proofs.Numbers.{number_all}
use Rattle.text.proofs.Places.{by_order}
use Rattle.text.proofs.Runs.{run_all}
use Rattle.text.proofs.Texts.{both_right}

-- one more digit behind those that were read
value_more : (base v n : ℕ) (l : List ℕ) → n < length l → value base v (take (suc n) l) ≡ value base v (take n l) * base + digit_of (get_or l n 0)
unfolding value
value_more base v n [] h = absurd (omega arith)
value_more base v zero (b ∷ l) h = refl
value_more base v (suc n) (b ∷ l) h = value_more base (v * base + digit_of b) n l (omega arith)

module _ (s : List ℕ) (base from : ℕ) where
  -- the digits up to j, of value v: as each is below 16, so many of them stay below a power of it
  pub record ReadTo (v j : ℕ) : Type 0 where
    pub up : from ≤ j
    pub within : j ≤ length s
    pub narrow : v < 16 ^ (j - from)
    pub digits : (k : ℕ) → from ≤ k → k < j → digit_of (get_or s k 0) < base
    pub is : v ≡ value base 0 (take (j - from) (drop from s))

  pub read_starts : from ≤ length s → ReadTo 0 from
  unfolding value
  read_starts h =
      let e : from - from ≡ 0 = omega arith in
      record { up = omega arith; within = h; narrow = rw e (omega arith); digits = λ k a b. absurd (omega arith); is = rw e }

  -- one of sixteen stays within 64 bits
  pub read_fits : {v j d : ℕ} → ReadTo v j → j - from < 16 → base ≤ 16 → d < base → v * base + d < 18446744073709551616
  read_fits {v} {j} r h b l = sixteen_fit (j - from) h r.narrow b l

  pub read_steps : {v j d : ℕ} → ReadTo v j → j < length s → base ≤ 16 → d ≡ digit_of (get_or s j 0) → d < base → ReadTo (v * base + d) (j + 1)
  read_steps {v} {j} {d} r h b e l =
      let z : j + 1 - from ≡ suc (j - from) = omega (arith, r.up) in
      let back : from + (j - from) ≡ j = omega (arith, r.up) in
      let there : get_or (drop from s) (j - from) 0 ≡ get_or s j 0 = get_or-drop from s (j - from) 0 ∙ ap (λ (k : ℕ). get_or s k 0) back in
      let more = value_more base 0 (j - from) (drop from s) (omega (arith, length-drop from s, r.up)) in
      record {
        up = omega (arith, r.up);
        within = omega arith;
        narrow = rw (z, pow-suc 16 (j - from)) (digit_more (j - from) r.narrow b l);
        digits =
            λ k a c. by_order k j (λ x. r.digits k a x) (λ x. rw (x, ← e) l) (λ x. absurd (omega arith));
        is = rw z (rw (r.is, e, ← there) (sym more));
      }

-- ---- the decimal digit run from a place on

-- a digit below ten is a decimal one
digit_below : (b : ℕ) → digit_of b < 10 → is_digit b ≡ true
digit_below b h = go (is_digit b) refl
  where
    go : (x : Bool) → is_digit b ≡ x → x ≡ true
    go true e = refl
    go false e = absurd (omega (arith, digit_none b e))

digit_most : (b : ℕ) → is_digit b ≡ true → b ≤ 57
unfolding is_digit between
digit_most b e = leb-true b 57 (both_right (leb 48 b) _ e)

-- and one of ten or more is none
pub digit_above : (b : ℕ) → 10 ≤ digit_of b → is_digit b ≡ false
digit_above b h = go (is_digit b) refl
  where
    go : (x : Bool) → is_digit b ≡ x → x ≡ false
    go false e = refl
    go true e = absurd (omega (arith, digit_is b e, digit_most b e))

module _ (s : List ℕ) (from limit : ℕ) {v j : ℕ} (r : ReadTo s 10 from v j) (stops : j < length s → is_digit (get_or s j 0) ≡ false) where
  -- digits that no further one follows are the whole run
  run_read : run_end is_digit s from ≡ j
  run_read =
      run_all is_digit s
      (record { from = r.up; within = r.within; inside = λ k a b. digit_below (get_or s k 0) (r.digits k a b); stops = stops })

  pub leading_none : j ≡ from → None ≡ leading_of limit s from
  unfolding number_of all_digits value
  leading_none e = let z : j - from ≡ 0 = omega arith in rw (run_read, z)

  wide : limit < v → None ≡ leading_of limit s from
  unfolding number_of
  wide l = rw (run_read, ← r.is, lt-leb v limit l) (go (ltb 0 (length (take (j - from) (drop from s))) && all_digits 10 (take (j - from) (drop from s))))
    where
      go : (x : Bool) → None ≡ cond (x && false) (Some v) None
      go true = refl
      go false = refl

  fits : (j ≡ from → ⊥) → v ≤ limit → Some v ≡ leading_of limit s from
  fits some l =
      let size : length (take (j - from) (drop from s)) ≡ j - from = length-take-le (j - from) (drop from s) (omega (arith, length-drop from s, r.within)) in
      rw run_read
      (sym
      (number_all 10 limit (take (j - from) (drop from s))
      (record {
        some = rw size (by_order j from (λ x. absurd (omega (arith, r.up))) (λ x. absurd (some x)) (λ x. omega arith));
        digits = λ k h. rw (get_or-take (j - from) (drop from s) k 0 (rw size at h), get_or-drop from s k 0) (r.digits (from + k) (omega arith) (omega (arith, r.up, size)));
        is = sym r.is;
        within = l;
      })))

  pub leading_some : (j ≡ from → ⊥) → cond (leb v limit) (Some v) None ≡ leading_of limit s from
  leading_some some = go (leb v limit) refl
    where
      go : (b : Bool) → leb v limit ≡ b → cond b (Some v) None ≡ leading_of limit s from
      go true t = fits some (leb-true v limit t)
      go false t = wide (leb-false v limit t)
