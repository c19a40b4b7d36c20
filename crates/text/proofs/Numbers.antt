-- Numbers of any base within any limit: digits only ever raise the value, so once the limit is passed only a bad digit can still be told; each
-- answer is the relation's, for decimal and hex and every width at once. Assumes nothing.
use Rattle.std.specs.Prelude.{Err, None, Ok, Option, Result, Some}
use Rattle.text.specs.declared.number.BadNumber.{BadNumber}
use Prim.Native.Nat.{ℕ, zero, suc, ◌+◌, ◌-◌, ◌*◌, ◌/◌, ◌≤◌, ◌<◌}
use mathlib.Core.Path.{◌≡◌, refl, sym, ◌∙◌}
use mathlib.Core.Bool.{Bool, true, false, cond, not, ◌&&◌, true≢false}
use mathlib.Core.List.{List, [], ◌∷◌}
use native.Mathlib.Numerals.{add-one}
use native.Mathlib.Omega.{arith}
use native.Mathlib.Nat.{le-mul_of_pos_right, le-div_iff_mul-le, div-lt_iff_lt-mul, le_trans}
use lib.Dec.{ltb, leb}
use lib.ListN.{length, get_or, drop, drop_of_length-le, length-drop}
use lib.Seq.{drop-cons, get_or-drop}
use borrow.Author.Tests.{lt-ltb, le-ltb, le-leb, lt-leb, ltb-true, ltb-false, leb-true, leb-false}
use Rattle.text.specs.Class.{between}
use Rattle.text.specs.Place.{Free, First, first_place}
use Rattle.text.specs.Number.{digit_of, digit_in, value, Reads, all_digits, number_of, bad_at, bad_first, reason_of, value_within, reading_of}
use Rattle.std.specs.Result.{result_ok}
use Rattle.std.specs.Option.{is_some}
use Rattle.text.proofs.Places.{first_is, first_all, first_none, first_free, place_hit, place_miss, place_end}
use Rattle.text.proofs.Texts.{both_left, both_right}

-- a value only grows
pub value_grows : (base : ℕ) → 0 < base → (v : ℕ) (s : List ℕ) → v ≤ value base v s
unfolding value
value_grows base h v [] = omega arith
value_grows base h v (b ∷ s) =
    le_trans (omega (arith, le-mul_of_pos_right v h)) (value_grows base h (v * base + digit_of b) s)

-- a byte of a range is at least the range's low end
pub at_least : (low high : ℕ) {b : ℕ} → between low high b ≡ true → low ≤ b
unfolding between
at_least low high {b} e = leb-true low b (both_left _ _ e)

-- a digit of the base, or a byte that is none
module _ (base b : ℕ) where
  pub digit_there : {d : ℕ} → digit_in base b ≡ Some d → (d ≡ digit_of b) × (d < base)
  unfolding digit_in
  digit_there {d} = go (ltb (digit_of b) base) refl
    where
      go : (x : Bool) → ltb (digit_of b) base ≡ x → cond x (Some (digit_of b)) None ≡ Some d → (d ≡ digit_of b) × (d < base)
      go true t e = let same : digit_of b ≡ d = cc in (sym same, omega (arith, same, ltb-true _ _ t))
      go false t e = absurd (let z : ◌≡◌ {A = ℕ} 0 1 = cc in omega arith)

  pub digit_missing : digit_in base b ≡ None → base ≤ digit_of b
  unfolding digit_in
  digit_missing = go (ltb (digit_of b) base) refl
    where
      go : (x : Bool) → ltb (digit_of b) base ≡ x → cond x (Some (digit_of b)) None ≡ None → base ≤ digit_of b
      go true t e = absurd (let z : ◌≡◌ {A = ℕ} 0 1 = cc in omega arith)
      go false t e = ltb-false _ _ t

  pub digit_shown : {r : Bool} → is_some (digit_in base b) ≡ not r → r ≡ false → digit_of b < base
  digit_shown {r} h e = go (digit_in base b) refl (h ∙ rw e)
    where
      go : (o : Option ℕ) → digit_in base b ≡ o → is_some o ≡ true → digit_of b < base
      go (Some d) q t = let f = digit_there q in omega (arith, f.0, f.1)
      go None q t = absurd (true≢false (sym t))

  pub digit_hidden : {r : Bool} → is_some (digit_in base b) ≡ not r → r ≡ true → base ≤ digit_of b
  digit_hidden {r} h e = go (digit_in base b) refl (h ∙ rw e)
    where
      go : (o : Option ℕ) → digit_in base b ≡ o → is_some o ≡ false → base ≤ digit_of b
      go (Some d) q t = absurd (true≢false t)
      go None q t = digit_missing q

-- ---- the reader's loop

-- a digit that was read is of the base, or it is a bad one
pub is_bad : (base : ℕ) (s : List ℕ) (i : ℕ) {d : ℕ} → d ≡ digit_of (get_or s i 0) → base ≤ d → bad_at base s i ≡ true
is_bad base s i {d} e h = le-leb base (digit_of (get_or s i 0)) (rw e at h)

pub is_good : (base : ℕ) (s : List ℕ) (i : ℕ) {d : ℕ} → d ≡ digit_of (get_or s i 0) → d < base → bad_at base s i ≡ false
is_good base s i {d} e h = lt-leb base (digit_of (get_or s i 0)) (rw e at h)

-- the limit divided once: what it says of a value with one digit more
module _ (base limit : ℕ) (some : 0 < base) where
  pub within_most : {v : ℕ} → v ≤ limit / base → v * base ≤ limit
  within_most {v} h = (le-div_iff_mul-le {k = base} {x = v} {y = limit} some).0 h

  pub above_most : {v : ℕ} (d : ℕ) → limit / base < v → limit < v * base + d
  above_most {v} d h = omega (arith, (div-lt_iff_lt-mul {k = base} {x = limit} {y = v} some).0 h)

module _ (base from : ℕ) (s : List ℕ) where
  -- no bad digit was met on the way to i
  pub record Clean (i : ℕ) : Type 0 where
    pub same : first_place (bad_at base s) (length s) from ≡ first_place (bad_at base s) (length s) i

  pub clean_starts : Clean from
  clean_starts = record { same = refl }

  pub clean_steps : {i d : ℕ} → Clean i → i < length s → d ≡ digit_of (get_or s i 0) → d < base → Clean (i + 1)
  clean_steps {i} c h e l = record { same = c.same ∙ place_miss (bad_at base s) h (is_good base s i e l) }

  -- a reason: no digit, the first bad one, or the width
  pub reason_empty : length s ≤ from → (Err BadNumber.Empty) ≡ reason_of base from s
  unfolding reason_of
  reason_empty h = rw (le-ltb from (length s) h)

  pub reason_bad : {i d : ℕ} → from < length s → Clean i → i < length s → d ≡ digit_of (get_or s i 0) → base ≤ d → Err (BadNumber.BadDigit i) ≡ reason_of base from s
  unfolding reason_of bad_first
  reason_bad {i} l c h e b = rw (lt-ltb from (length s) l, c.same, place_hit (bad_at base s) h (is_bad base s i e b))

  pub reason_wide : {i : ℕ} → from < length s → Clean i → length s ≤ i → (Err BadNumber.TooWide) ≡ reason_of base from s
  unfolding reason_of bad_first
  reason_wide {i} l c h = rw (lt-ltb from (length s) l, c.same, place_end (bad_at base s) h)

module _ (base limit from : ℕ) (s : List ℕ) where
  -- the number so far: the bytes up to i are digits, of value v, with the rest to come
  pub record SoFar (v i : ℕ) : Type 0 where
    pub some : from < length s
    pub fits : v ≤ limit
    pub clean : Clean base from s i
    pub same_value : value base 0 (drop from s) ≡ value base v (drop i s)

  pub so_far_starts : from < length s → SoFar 0 from
  so_far_starts h = record { some = h; fits = omega arith; clean = clean_starts base from s; same_value = refl }

  pub so_far_steps : {v i d : ℕ} → SoFar v i → i < length s → d ≡ digit_of (get_or s i 0) → d < base → v * base + d ≤ limit → SoFar (v * base + d) (i + 1)
  unfolding value
  so_far_steps {v} {i} {d} r h e l f =
      record {
        some = r.some;
        fits = f;
        clean = clean_steps base from s r.clean h e l;
        same_value = r.same_value ∙ rw (add-one, drop-cons s i 0 h, e);
      }

  pub none_there : length s ≤ from → None ≡ result_ok (reading_of base limit from s)
  unfolding reading_of
  none_there h = rw (le-ltb from (length s) h)

  pub none_bad : {v i d : ℕ} → SoFar v i → i < length s → d ≡ digit_of (get_or s i 0) → base ≤ d → None ≡ result_ok (reading_of base limit from s)
  unfolding reading_of bad_first
  none_bad {v} {i} r h e l = rw (lt-ltb from (length s) r.some, r.clean.same, place_hit (bad_at base s) h (is_bad base s i e l))

  -- a value past the limit stays past it
  pub none_wide : {v i d : ℕ} → 0 < base → SoFar v i → i < length s → d ≡ digit_of (get_or s i 0) → limit < v * base + d
      → None ≡ result_ok (reading_of base limit from s)
  unfolding reading_of value_within value bad_first
  none_wide {v} {i} {d} b r h e f =
      let q : value base 0 (drop from s) ≡ value base (v * base + d) (drop (suc i) s) = r.same_value ∙ rw (drop-cons s i 0 h, e) in
      let g : limit < value base 0 (drop from s) = rw q (le_trans f (value_grows base b (v * base + d) (drop (suc i) s))) in
      rw (lt-ltb from (length s) r.some, lt-leb _ _ g) (either (first_place (bad_at base s) (length s) from))
    where
      either : (f : Option ℕ) → None ≡ result_ok (bad_first f (Err BadNumber.TooWide))
      either (Some k) = refl
      either None = refl

  pub whole_value : {v i : ℕ} → SoFar v i → length s ≤ i → Some v ≡ result_ok (reading_of base limit from s)
  unfolding reading_of bad_first value_within value
  whole_value {v} {i} r h =
      let e : value base 0 (drop from s) ≡ v = r.same_value ∙ rw (drop_of_length-le s h) in
      rw (lt-ltb from (length s) r.some, r.clean.same, place_end (bad_at base s) h, e, le-leb v limit r.fits)

-- ---- what each answer says

module _ (base limit from : ℕ) (s : List ℕ) where
  -- each answer with what holds of the text where it is given
  pub data Judged : Result ℕ BadNumber → Type 0 where
    empty : length s ≤ from → Judged (Err BadNumber.Empty)
    bad : {k : ℕ} → First (bad_at base s) from (length s) k → Judged (Err (BadNumber.BadDigit k))
    wide : from < length s → Free (bad_at base s) from (length s) → limit < value base 0 (drop from s) → Judged (Err BadNumber.TooWide)
    fits : {v : ℕ} → from < length s → Free (bad_at base s) from (length s) → value base 0 (drop from s) ≡ v → v ≤ limit → Judged (Ok v)

  pub judged : Judged (reading_of base limit from s)
  unfolding reading_of bad_first value_within
  judged = by-start (ltb from (length s)) refl
    where
      by-limit : from < length s → Free (bad_at base s) from (length s) → (b : Bool) → leb (value base 0 (drop from s)) limit ≡ b
          → Judged (cond b (Ok (value base 0 (drop from s))) (Err BadNumber.TooWide))
      by-limit l free true t = fits l free refl (leb-true _ _ t)
      by-limit l free false t = wide l free (leb-false _ _ t)

      by-found : from < length s → (f : Option ℕ) → first_place (bad_at base s) (length s) from ≡ f
          → Judged (bad_first f (value_within limit (value base 0 (drop from s))))
      by-found l (Some k) e = bad (first_is (bad_at base s) e)
      by-found l None e = by-limit l (first_free (bad_at base s) e (omega arith)) (leb (value base 0 (drop from s)) limit) refl

      by-start : (b : Bool) → ltb from (length s) ≡ b
          → Judged (cond b (bad_first (first_place (bad_at base s) (length s) from) (value_within limit (value base 0 (drop from s)))) (Err BadNumber.Empty))
      by-start true t = by-found (ltb-true _ _ t) (first_place (bad_at base s) (length s) from) refl
      by-start false t = empty (ltb-false _ _ t)

  pub judged_all : {r : Result ℕ BadNumber} → Judged r → reading_of base limit from s ≡ r
  unfolding reading_of bad_first value_within
  judged_all (empty h) = rw (le-ltb from (length s) h)
  judged_all (bad f) = rw (lt-ltb from (length s) (omega (arith, f.from, f.within)), first_all (bad_at base s) f)
  judged_all (wide l free over) = rw (lt-ltb from (length s) l, first_none (bad_at base s) free, lt-leb _ _ over)
  judged_all (fits {v} l free e within) = rw (lt-ltb from (length s) l, first_none (bad_at base s) free, e, le-leb v limit within)

  -- the number is what the digits from the place on read as
  pub judged_reads : {v : ℕ} → Judged (Ok v) → Reads base limit (drop from s) v
  judged_reads (fits l free e within) =
      record {
        some = omega (arith, length-drop from s);
        digits = λ k h. rw (get_or-drop from s k 0) (leb-false _ _ (free (from + k) (omega arith) (omega (arith, length-drop from s))));
        is = e;
        within = within;
      }

  pub reads_judged : {v : ℕ} → Reads base limit (drop from s) v → Judged (Ok v)
  reads_judged {v} r =
      fits (omega (arith, length-drop from s, r.some)) free r.is r.within
    where
      free : Free (bad_at base s) from (length s)
      free k a b =
          let e : from + (k - from) ≡ k = omega arith in
          let d : digit_of (get_or (drop from s) (k - from) 0) < base = r.digits (k - from) (omega (arith, length-drop from s)) in
          let here : digit_of (get_or s (from + (k - from)) 0) < base = rw (← get_or-drop from s (k - from) 0) d in
          lt-leb base (digit_of (get_or s k 0)) (rw e at here)

-- the answer is the relation's: sound, complete, one value
module _ (base limit : ℕ) (s : List ℕ) where
  all_digits_lem : (l : List ℕ) → all_digits base l ≡ true → (k : ℕ) → k < length l → digit_of (get_or l k 0) < base
  unfolding all_digits
  all_digits_lem [] e k h = absurd (omega arith)
  all_digits_lem (b ∷ l) e zero h = ltb-true (digit_of b) base (both_left _ _ e)
  all_digits_lem (b ∷ l) e (suc k) h = all_digits_lem l (both_right (ltb (digit_of b) base) _ e) k (omega arith)

  digits_all : (l : List ℕ) → ((k : ℕ) → k < length l → digit_of (get_or l k 0) < base) → all_digits base l ≡ true
  unfolding all_digits
  digits_all [] f = refl
  digits_all (b ∷ l) f =
      rw (lt-ltb (digit_of b) base (f 0 (omega arith))) (digits_all l (λ k h. f (suc k) (omega arith)))

  pub number_all : {v : ℕ} → Reads base limit s v → number_of base limit s ≡ Some v
  unfolding number_of
  number_all {v} r = rw (lt-ltb 0 (length s) r.some, digits_all s r.digits, r.is, le-leb v limit r.within)

  pub number_is : {v : ℕ} → number_of base limit s ≡ Some v → Reads base limit s v
  unfolding number_of
  number_is {v} e = go (ltb 0 (length s) && all_digits base s && leb (value base 0 s) limit) refl
    where
      go : (b : Bool) → (ltb 0 (length s) && all_digits base s && leb (value base 0 s) limit) ≡ b → Reads base limit s v
      go true t =
          let same : Some (value base 0 s) ≡ Some v = rw t at e in
          let is : value base 0 s ≡ v = cc in
          let front : (ltb 0 (length s) && all_digits base s) ≡ true = both_left _ _ t in
          let fits : value base 0 s ≤ limit = leb-true _ _ (both_right (ltb 0 (length s) && all_digits base s) _ t) in
          record {
            some = ltb-true _ _ (both_left _ _ front);
            digits = all_digits_lem s (both_right (ltb 0 (length s)) _ front);
            is = is;
            within = omega arith;
          }
      go false t =
          let same : None ≡ Some v = rw t at e in
          absurd (let z : ◌≡◌ {A = ℕ} 0 1 = cc in omega arith)

  pub one_number : {v w : ℕ} → Reads base limit s v → Reads base limit s w → v ≡ w
  one_number a b = sym a.is ∙ b.is

-- a number is the reading from the start, its reasons left out
pub number_read : (base limit : ℕ) (s : List ℕ) → number_of base limit s ≡ result_ok (reading_of base limit 0 s)
number_read base limit s = go (reading_of base limit 0 s) (judged base limit 0 s)
  where
    none : ((v : ℕ) → Reads base limit s v → ⊥) → (n : Option ℕ) → number_of base limit s ≡ n → n ≡ None
    none f (Some v) e = absurd (f v (number_is base limit s e))
    none f None e = refl

    other : {r : Result ℕ BadNumber} → Judged base limit 0 s r → ((v : ℕ) → r ≡ Ok v → ⊥) → number_of base limit s ≡ None
    other j f = none (λ v reads. f v (sym (judged_all base limit 0 s j) ∙ judged_all base limit 0 s (reads_judged base limit 0 s reads))) (number_of base limit s) refl

    go : (r : Result ℕ BadNumber) → Judged base limit 0 s r → number_of base limit s ≡ result_ok r
    go (Ok v) j = number_all base limit s (judged_reads base limit 0 s j)
    go (Err BadNumber.Empty) j = other j (λ v e. let z : ◌≡◌ {A = ℕ} 0 1 = cc in omega arith)
    go (Err (BadNumber.BadDigit k)) j = other j (λ v e. let z : ◌≡◌ {A = ℕ} 0 1 = cc in omega arith)
    go (Err BadNumber.TooWide) j = other j (λ v e. let z : ◌≡◌ {A = ℕ} 0 1 = cc in omega arith)

-- ---- a number, or why there is none

pub value_read : (r : Result ℕ BadNumber) {v : ℕ} → result_ok r ≡ Some v → r ≡ Ok v
value_read (Ok w) e = cc
value_read (Err BadNumber.Empty) e = absurd (let z : ◌≡◌ {A = ℕ} 0 1 = cc in omega arith)
value_read (Err (BadNumber.BadDigit k)) e = absurd (let z : ◌≡◌ {A = ℕ} 0 1 = cc in omega arith)
value_read (Err BadNumber.TooWide) e = absurd (let z : ◌≡◌ {A = ℕ} 0 1 = cc in omega arith)

-- where there is no number the reading is the reason
pub reason_read : (base limit from : ℕ) (s : List ℕ) → result_ok (reading_of base limit from s) ≡ None → reason_of base from s ≡ reading_of base limit from s
unfolding reason_of bad_first
reason_read base limit from s q = go (reading_of base limit from s) (judged base limit from s) q
  where
    go : (r : Result ℕ BadNumber) → Judged base limit from s r → result_ok r ≡ None → reason_of base from s ≡ r
    go r (Judged.empty h) q = rw (le-ltb from (length s) h)
    go r (Judged.bad f) q = rw (lt-ltb from (length s) (omega (arith, f.from, f.within)), first_all (bad_at base s) f)
    go r (Judged.wide l free over) q = rw (lt-ltb from (length s) l, first_none (bad_at base s) free)
    go r (Judged.fits l free e within) q = absurd (let z : ◌≡◌ {A = ℕ} 0 1 = cc in omega arith)
