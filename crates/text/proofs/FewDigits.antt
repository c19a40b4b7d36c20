-- Few digits: k digits of a base up to 16 have a value below 16^k, so sixteen of them stay within 64 bits. Assumes nothing.
use Rattle.std.specs.Prelude.{None, Some}
use Prim.Native.Nat.{ℕ, suc, ◌+◌, ◌-◌, ◌*◌, ◌^◌, ◌≤◌, ◌<◌}
use mathlib.Core.Path.{◌≡◌, refl, ◌∙◌}
use mathlib.Core.Bool.{Bool, true, false, cond}
use mathlib.Core.List.{List}
use native.Mathlib.Numerals.{add-one}
use native.Mathlib.Omega.{arith}
use native.Mathlib.Nat.{pow-suc, pow-le-pow_right, mul-le-mul}
use lib.ListN.{length, get_or, drop, drop_of_length-le}
use lib.Seq.{drop-cons}
use lib.Dec.{leb}
use borrow.Author.Tests.{lt-ltb, lt-leb, leb-true, leb-false}
use Rattle.text.specs.Class.{between, is_digit}
use Rattle.text.specs.Number.{digit_of, value, bad_at, bad_first, value_within, reading_of}
use Rattle.std.specs.Result.{result_ok}
use Rattle.text.proofs.Places.{place_hit, place_end}
use Rattle.text.proofs.Numbers.{at_least, Clean, clean_starts, clean_steps, is_bad, whole_value}

-- a decimal digit's value, and what any other byte is at least
pub digit_is : (b : ℕ) → is_digit b ≡ true → digit_of b ≡ b - 48
unfolding digit_of
digit_is b e = rw e

pub digit_none : (b : ℕ) → is_digit b ≡ false → 10 ≤ digit_of b
unfolding digit_of
digit_none b e = rw e (lower (between 97 102 b) refl)
  where
    upper : (x : Bool) → between 65 70 b ≡ x → 10 ≤ cond x (b - 55) 16
    upper true t = let h : 65 ≤ b = at_least 65 70 t in omega arith
    upper false t = omega arith

    lower : (x : Bool) → between 97 102 b ≡ x → 10 ≤ cond x (b - 87) (cond (between 65 70 b) (b - 55) 16)
    lower true t = let h : 97 ≤ b = at_least 97 102 t in omega arith
    lower false t = upper (between 65 70 b) refl

-- a value below 16^k with one digit more, of a base up to 16, is below 16^(k + 1)
pub digit_more : (k : ℕ) {v base d : ℕ} → v < 16 ^ k → base ≤ 16 → d < base → v * base + d < 16 ^ k * 16
digit_more k {v} {base} {d} h b l =
    let p : suc v * base ≤ 16 ^ k * 16 = mul-le-mul h b in
    omega (arith, p)

-- and one of sixteen digits stays within 64 bits
pub sixteen_fit : (k : ℕ) {v base d : ℕ} → k < 16 → v < 16 ^ k → base ≤ 16 → d < base → v * base + d < 18446744073709551616
sixteen_fit k {v} {base} {d} few h b l =
    let p : 16 ^ k ≤ 16 ^ 15 = pow-le-pow_right {n = 16} (omega arith) {i = k} {j = 15} (omega arith) in
    omega (arith, p, digit_more k h b l)

module _ (base from : ℕ) (s : List ℕ) where
  -- the number so far, whatever the limit: the bytes up to i are digits, of value v, with the rest to come
  pub record Few (v i : ℕ) : Type 0 where
    pub some : from < length s
    pub up : from ≤ i
    pub narrow : v < 16 ^ (i - from)
    pub clean : Clean base from s i
    pub same_value : value base 0 (drop from s) ≡ value base v (drop i s)

  pub few_starts : from < length s → Few 0 from
  few_starts h =
      let e : from - from ≡ 0 = omega arith in
      record { some = h; up = omega arith; narrow = rw e (omega arith); clean = clean_starts base from s; same_value = refl }

  -- still within 64 bits, so long as it is one of sixteen
  pub few_fit : {v i d : ℕ} → Few v i → i < from + 16 → base ≤ 16 → d < base → v * base + d < 18446744073709551616
  few_fit {v} {i} r h b l = sixteen_fit (i - from) (omega (arith, r.up)) r.narrow b l

  pub few_steps : {v i d : ℕ} → Few v i → i < length s → base ≤ 16 → d ≡ digit_of (get_or s i 0) → d < base → Few (v * base + d) (i + 1)
  unfolding value
  few_steps {v} {i} {d} r h b e l =
      let z : i + 1 - from ≡ suc (i - from) = omega (arith, r.up) in
      record {
        some = r.some;
        up = omega (arith, r.up);
        narrow = rw (z, pow-suc 16 (i - from)) (digit_more (i - from) r.narrow b l);
        clean = clean_steps base from s r.clean h e l;
        same_value = r.same_value ∙ rw (add-one, drop-cons s i 0 h, e);
      }

  module _ (limit : ℕ) where
    pub few_bad : {v i d : ℕ} → Few v i → i < length s → d ≡ digit_of (get_or s i 0) → base ≤ d → None ≡ result_ok (reading_of base limit from s)
    unfolding reading_of bad_first
    few_bad {v} {i} r h e l = rw (lt-ltb from (length s) r.some, r.clean.same, place_hit (bad_at base s) h (is_bad base s i e l))

    pub few_wide : {v i : ℕ} → Few v i → length s ≤ i → limit < v → None ≡ result_ok (reading_of base limit from s)
    unfolding reading_of bad_first value_within value
    few_wide {v} {i} r h l =
        let e : value base 0 (drop from s) ≡ v = r.same_value ∙ rw (drop_of_length-le s h) in
        rw (lt-ltb from (length s) r.some, r.clean.same, place_end (bad_at base s) h, e, lt-leb v limit l)

    pub few_whole : {v i : ℕ} → Few v i → length s ≤ i → v ≤ limit → Some v ≡ result_ok (reading_of base limit from s)
    few_whole {v} {i} r h l = whole_value base limit from s (record { some = r.some; fits = l; clean = r.clean; same_value = r.same_value }) h

    pub few_judged : {v i : ℕ} → Few v i → length s ≤ i → cond (leb v limit) (Some v) None ≡ result_ok (reading_of base limit from s)
    few_judged {v} r h = go (leb v limit) refl
      where
        go : (b : Bool) → leb v limit ≡ b → cond b (Some v) None ≡ result_ok (reading_of base limit from s)
        go true t = few_whole r h (leb-true v limit t)
        go false t = few_wide r h (leb-false v limit t)
