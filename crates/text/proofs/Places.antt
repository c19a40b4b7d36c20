-- The first and the last place: the operators walk place by place, so each law is an induction over the places that are left, and what
-- they answer is what the relations say, and nothing else is. Assumes nothing.
use Rattle.std.specs.Prelude.{None, Option, Some}
use Prim.Native.Nat.{ℕ, zero, suc, ◌+◌, ◌-◌, ◌≤◌, ◌<◌}
use mathlib.Core.Path.{◌≡◌, refl, sym, ap, ◌∙◌}
use mathlib.Core.Bool.{Bool, true, false, cond, true≢false}
use native.Mathlib.Numerals.{add-one}
use native.Mathlib.Omega.{arith}
use mathlib.Core.List.{List}
use lib.Dec.{ltb}
use lib.ListN.{length, get_or, get_or-eq_default}
use borrow.Author.Tests.{lt-ltb, le-ltb, ltb-true, ltb-false}
use Rattle.text.specs.Place.{byte_before, Free, First, Last, first_of, first_in, found_below, first_place, last_place}

-- a test that is both true and false is absurd
pub clash : {b : Bool} → b ≡ true → b ≡ false → ⊥
clash t f = true≢false (sym t ∙ f)

-- what follows from each of the three orders of two numbers follows
pub by_order : {A : Type 0} (m n : ℕ) → (m < n → A) → (m ≡ n → A) → (n < m → A) → A
by_order zero zero f g h = g refl
by_order zero (suc n) f g h = f (omega arith)
by_order (suc m) zero f g h = h (omega arith)
by_order (suc m) (suc n) f g h = by_order m n (λ l. f (omega arith)) (λ e. g (ap suc e)) (λ l. h (omega arith))

-- j is the first place from i on that passes, or n where none below n does
pub record Stops (p : ℕ → Bool) (i n j : ℕ) : Type 0 where
  pub from : i ≤ j
  pub within : j ≤ n
  pub before : Free p i j
  pub here : j < n → p j ≡ true

-- two tests that say the same of every place find the same
module _ {p q : ℕ → Bool} (same : (k : ℕ) → p k ≡ q k) where
  pub first_same : (d i : ℕ) → first_of p d i ≡ first_of q d i
  unfolding first_of
  first_same zero i = refl
  first_same (suc d) i = rw (same i, first_same d (suc i))

  pub last_same : (n : ℕ) → last_place p n ≡ last_place q n
  unfolding last_place
  last_same zero = refl
  last_same (suc n) = rw (same n, last_same n)

module _ (p : ℕ → Bool) where
  pub stops_in : (d i n : ℕ) → n ≡ i + d → Stops p i n (first_of p d i)
  unfolding first_of
  stops_in zero i n e =
      record {
        from = omega arith;
        within = omega arith;
        before = λ k a b. absurd (omega arith);
        here = λ h. absurd (omega arith);
      }
  stops_in (suc d) i n e = go (p i) refl (stops_in d (suc i) n (omega arith))
    where
      go : (b : Bool) → p i ≡ b → Stops p (suc i) n (first_of p d (suc i)) → Stops p i n (cond (p i) i (first_of p d (suc i)))
      go true t r =
          rw t
          (record { from = omega arith; within = omega arith; before = λ k a b. absurd (omega arith); here = λ h. t })
      go false t r =
          rw t
          (record {
            from = omega (arith, r.from);
            within = r.within;
            before = λ k a b. by_order i k (λ h. r.before k h b) (λ h. rw (← h) t) (λ h. absurd (omega arith));
            here = r.here;
          })

  pub first_stops : {i n : ℕ} → i ≤ n → Stops p i n (first_in p n i)
  unfolding first_in
  first_stops {i} {n} h = stops_in (n - i) i n (omega arith)

  -- the three ways of a walk: at the end, at a place that passes, past one that does not
  pub first_end : {i n : ℕ} → n ≤ i → first_in p n i ≡ i
  unfolding first_in first_of
  first_end {i} {n} h = let e : n - i ≡ 0 = omega arith in rw e

  pub first_hit : {i n : ℕ} → i < n → p i ≡ true → first_in p n i ≡ i
  unfolding first_in first_of
  first_hit {i} {n} h t = let e : n - i ≡ suc (n - suc i) = omega arith in rw (e, t)

  pub first_miss : {i n : ℕ} → i < n → p i ≡ false → first_in p n i ≡ first_in p n (i + 1)
  unfolding first_in first_of
  first_miss {i} {n} h t = let e : n - i ≡ suc (n - (i + 1)) = omega arith in rw (e, t, add-one)

  -- no second place stops as the first one does
  pub one_stop : {i n j k : ℕ} → Stops p i n j → Stops p i n k → j ≡ k
  one_stop {i} {n} {j} {k} a b =
      by_order j k (λ h. absurd (clash (a.here (omega (arith, b.within))) (b.before j a.from h)))
      (λ e. e)
      (λ h. absurd (clash (b.here (omega (arith, a.within))) (a.before k b.from h)))

  pub first_is_stop : {i n j : ℕ} → Stops p i n j → first_in p n i ≡ j
  first_is_stop r = one_stop (first_stops (omega (arith, r.from, r.within))) r

  -- the same three ways, of the place that is found
  pub place_end : {i n : ℕ} → n ≤ i → first_place p n i ≡ None
  unfolding first_place found_below
  place_end {i} {n} h = rw (first_end h, le-ltb i n h)

  pub place_hit : {i n : ℕ} → i < n → p i ≡ true → first_place p n i ≡ Some i
  unfolding first_place found_below
  place_hit {i} {n} h t = rw (first_hit h t, lt-ltb i n h)

  pub place_miss : {i n : ℕ} → i < n → p i ≡ false → first_place p n i ≡ first_place p n (i + 1)
  unfolding first_place
  place_miss {i} {n} h t = ap (found_below n) (first_miss h t)

  -- a first place, found exactly where it stands
  pub first_all : {i n j : ℕ} → First p i n j → first_place p n i ≡ Some j
  unfolding first_place found_below
  first_all {i} {n} {j} r =
      let e : first_in p n i ≡ j =
      first_is_stop (record { from = r.from; within = omega (arith, r.within); before = r.before; here = λ h. r.here }) in
      rw (e, lt-ltb j n r.within)

  pub first_is : {i n j : ℕ} → first_place p n i ≡ Some j → First p i n j
  unfolding first_place found_below
  first_is {i} {n} {j} e = go (ltb (first_in p n i) n) refl
    where
      go : (b : Bool) → ltb (first_in p n i) n ≡ b → First p i n j
      go true t =
          let same : Some (first_in p n i) ≡ Some j = rw t at e in
          let j-is : first_in p n i ≡ j = cc in
          let below : first_in p n i < n = ltb-true _ _ t in
          let up : i ≤ n = upper below in
          let r : Stops p i n (first_in p n i) = first_stops up in
          rw (← j-is) (record { from = r.from; within = below; here = r.here below; before = r.before })
        where
          upper : first_in p n i < n → i ≤ n
          upper h =
              by_order i n (λ l. omega arith) (λ q. omega arith)
              (λ l. let z : n ≤ i = omega arith in absurd (omega (arith, first_end z)))
      go false t =
          let z : None ≡ Some j = rw t at e in
          absurd (let y : ◌≡◌ {A = ℕ} 0 1 = cc in omega arith)

  pub first_none : {i n : ℕ} → Free p i n → first_place p n i ≡ None
  unfolding first_place found_below
  first_none {i} {n} f = rw (le-ltb (first_in p n i) n past)
    where
      stop : i ≤ n → first_in p n i ≡ n
      stop h = first_is_stop (record { from = h; within = omega arith; before = f; here = λ l. absurd (omega arith) })

      past : n ≤ first_in p n i
      past =
          by_order i n (λ l. omega (arith, stop (omega arith))) (λ q. omega (arith, stop (omega arith)))
          (λ l. let z : n ≤ i = omega arith in omega (arith, first_end z))

  pub first_free : {i n : ℕ} → first_place p n i ≡ None → i ≤ n → Free p i n
  unfolding first_place found_below
  first_free {i} {n} e h = go (ltb (first_in p n i) n) refl
    where
      go : (b : Bool) → ltb (first_in p n i) n ≡ b → Free p i n
      go true t =
          let z : Some (first_in p n i) ≡ None = rw t at e in
          absurd (let y : ◌≡◌ {A = ℕ} 0 1 = cc in omega arith)
      go false t =
          let r : Stops p i n (first_in p n i) = first_stops h in
          let same : first_in p n i ≡ n = omega (arith, r.within, ltb-false (first_in p n i) n t) in
          rw same at r.before

  pub one_first : {i n j k : ℕ} → First p i n j → First p i n k → j ≡ k
  one_first a b = let x = first_all a in let y = first_all b in cc

  -- a last place: the walk goes down
  pub last_zero : last_place p 0 ≡ None
  unfolding last_place
  last_zero = refl

  pub last_hit : (k : ℕ) → p k ≡ true → last_place p (suc k) ≡ Some k
  unfolding last_place
  last_hit k t = rw t

  pub last_miss : (k : ℕ) → p k ≡ false → last_place p (suc k) ≡ last_place p k
  unfolding last_place
  last_miss k t = rw t

  -- the same two steps as a loop that counts down meets them
  pub last_hit_below : (i : ℕ) → 0 < i → p (i - 1) ≡ true → last_place p i ≡ Some (i - 1)
  last_hit_below zero h t = absurd (omega arith)
  last_hit_below (suc k) h t = let e : suc k - 1 ≡ k = omega arith in rw e (last_hit k (rw e at t))

  pub last_miss_below : (i : ℕ) → 0 < i → p (i - 1) ≡ false → last_place p i ≡ last_place p (i - 1)
  last_miss_below zero h t = absurd (omega arith)
  last_miss_below (suc k) h t = let e : suc k - 1 ≡ k = omega arith in rw e (last_miss k (rw e at t))

  pub last_all : (n : ℕ) {j : ℕ} → Last p n j → last_place p n ≡ Some j
  last_all zero {j} r = absurd (omega (arith, r.within))
  last_all (suc n) {j} r =
      by_order j n
      (λ h. last_miss n (r.after n h (omega arith)) ∙ last_all n (record { within = h; here = r.here; after = λ k a b. r.after k a (omega arith) }))
      (λ e. last_hit n (rw (← e) r.here) ∙ ap Some (sym e))
      (λ h. absurd (omega (arith, r.within)))

  pub last_none : (n : ℕ) → Free p 0 n → last_place p n ≡ None
  last_none zero f = last_zero
  last_none (suc n) f = last_miss n (f n (omega arith) (omega arith)) ∙ last_none n (λ k a b. f k a (omega arith))

  -- whatever the operator answers, it is so
  data Judged (n : ℕ) : Option ℕ → Type 0 where
    there : (j : ℕ) → Last p n j → Judged n (Some j)
    nowhere : Free p 0 n → Judged n None

  judged : (n : ℕ) → Judged n (last_place p n)
  judged zero = rw last_zero (nowhere (λ k a b. absurd (omega arith)))
  judged (suc n) = go (p n) refl (last_place p n) (judged n) refl
    where
      go : (b : Bool) → p n ≡ b → (f : Option ℕ) → Judged n f → last_place p n ≡ f → Judged (suc n) (last_place p (suc n))
      go true t f j e =
          rw (last_hit n t) (there n (record { within = omega arith; here = t; after = λ k a b. absurd (omega arith) }))
      go false t f (there j r) e =
          rw (last_miss n t, e)
          (there j (record {
            within = omega (arith, r.within);
            here = r.here;
            after = λ k a b. by_order k n (λ h. r.after k a h) (λ q. rw q t) (λ h. absurd (omega arith));
          }))
      go false t f (nowhere g) e =
          rw (last_miss n t, e)
          (nowhere (λ k a b. by_order k n (λ h. g k a h) (λ q. rw q t) (λ h. absurd (omega arith))))

  pub last_is : {n j : ℕ} → last_place p n ≡ Some j → Last p n j
  last_is {n} {j} e = go (last_place p n) (judged n) e
    where
      go : (f : Option ℕ) → Judged n f → f ≡ Some j → Last p n j
      go f (there k r) q = let s : k ≡ j = cc in rw (← s) r
      go f (nowhere g) q = absurd (let y : ◌≡◌ {A = ℕ} 0 1 = cc in omega arith)

  pub last_free : {n : ℕ} → last_place p n ≡ None → Free p 0 n
  last_free {n} e = go (last_place p n) (judged n) e
    where
      go : (f : Option ℕ) → Judged n f → f ≡ None → Free p 0 n
      go f (there k r) q = absurd (let y : ◌≡◌ {A = ℕ} 0 1 = cc in omega arith)
      go f (nowhere g) q = g

  pub one_last : {n j k : ℕ} → Last p n j → Last p n k → j ≡ k
  one_last {n} a b = let x = last_all n a in let y = last_all n b in cc

-- the byte before a place, as code reads it
pub before_none : (s : List ℕ) {i : ℕ} → i ≡ 0 → byte_before s i ≡ 0
unfolding byte_before
before_none s e = rw e

pub before_some : (s : List ℕ) (i : ℕ) → 0 < i → byte_before s i ≡ get_or s (i - 1) 0
unfolding byte_before
before_some s zero h = absurd (omega arith)
before_some s (suc k) h = let e : suc k - 1 ≡ k = omega arith in rw e

-- a byte other than 0 stands within the text
pub stands_within : (s : List ℕ) (i : ℕ) → (get_or s i 0 ≡ 0 → ⊥) → i < length s
stands_within s i h = by_order i (length s) (λ l. l) (λ e. absurd (h (get_or-eq_default s 0 {n = i} (omega arith)))) (λ l. absurd (h (get_or-eq_default s 0 {n = i} (omega arith))))

-- what does not pass is passed over
module _ (p : ℕ → Bool) where
  place_skip : (d : ℕ) {i n : ℕ} → i + d ≤ n → Free p i (i + d) → first_place p n i ≡ first_place p n (i + d)
  place_skip zero {i} {n} h f = let e : i + 0 ≡ i = omega arith in rw e
  place_skip (suc d) {i} {n} h f =
      let e : i + suc d ≡ i + 1 + d = omega arith in
      place_miss p {i = i} {n = n} (omega arith) (f i (omega arith) (omega arith))
      ∙ place_skip d {i = i + 1} {n = n} (omega arith) (λ k a b. f k (omega arith) (omega arith))
      ∙ ap (first_place p n) (sym e)

  -- also where what is passed over reaches past the end
  pub place_skip_to : (i e n : ℕ) → i ≤ e → Free p i e → first_place p n i ≡ first_place p n e
  place_skip_to i e n h f =
      by_order e n (λ l. within (omega arith)) (λ q. within (omega arith))
      (λ l. first_none p {i = i} {n = n} (λ k a b. f k a (omega arith)) ∙ sym (place_end p {i = e} {n = n} (omega arith)))
    where
      within : e ≤ n → first_place p n i ≡ first_place p n e
      within l =
          let q : i + (e - i) ≡ e = omega arith in
          place_skip (e - i) {i = i} {n = n} (omega arith) (λ k a b. f k a (omega arith)) ∙ ap (first_place p n) q
