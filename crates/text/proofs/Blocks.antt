-- What a search by blocks knows: a block without the byte is passed over, and what a block with it finds is what the whole search finds, since
-- nothing before it, or nothing behind it, is the byte. Assumes nothing.
use Rattle.std.specs.Prelude.{None, Option, Some}
use Prim.Native.Nat.{ℕ, zero, suc, ◌+◌, ◌-◌, ◌≤◌, ◌<◌}
use mathlib.Core.Path.{◌≡◌, refl, sym, ap, ◌∙◌}
use mathlib.Core.Bool.{Bool, true, false}
use native.Mathlib.Numerals.{add-one}
use native.Mathlib.Omega.{arith}
use lib.Dec.{ltb}
use borrow.Author.Tests.{lt-ltb, le-ltb, ltb-false}
use Rattle.text.specs.Place.{Free, first_of, first_in, last_place}
use Rattle.text.specs.Run.{behind}
use Rattle.text.proofs.Places.{stops_in, one_stop, first_is_stop, by_order, clash, last_hit, last_miss, last_miss_below, last_is, last_free, last_all}

module _ (p : ℕ → Bool) where
  pub none_yet : {i : ℕ} → Free p i (i + 0)
  none_yet k a b = absurd (omega arith)

  -- one more place is free
  pub one_more : (i k : ℕ) → Free p i (i + k) → p (i + k) ≡ false → Free p i (i + (k + 1))
  one_more i k f t j a b = by_order j (i + k) (λ h. f j a h) (λ e. rw e t) (λ h. absurd (omega arith))

  pub free_on : {i j k : ℕ} → Free p i j → Free p j k → Free p i k
  free_on {i} {j} {k} f g m a b = by_order m j (λ h. f m a h) (λ e. g m (omega arith) b) (λ h. g m (omega arith) b)

  -- where one of d places passes, the first that does is one of them
  pub some_of : (d : ℕ) {i j : ℕ} → i ≤ j → j < i + d → p j ≡ true → first_of p d i < i + d
  some_of d {i} {j} a b t =
      by_order (first_of p d i) j (λ h. omega arith) (λ e. omega arith)
      (λ h. absurd (clash t ((stops_in p d i (i + d) refl).before j a h)))

  none_of : (d : ℕ) {i : ℕ} → Free p i (i + d) → first_of p d i ≡ i + d
  none_of d {i} f =
      one_stop p (stops_in p d i (i + d) refl)
      (record { from = omega arith; within = omega arith; before = f; here = λ h. absurd (omega arith) })

  -- a flag that is down only where none passes and up only where one does
  pub flag_tells : (d i : ℕ) (any : Bool) → (any ≡ false → Free p i (i + d)) → (any ≡ true → first_of p d i < i + d) → any ≡ ltb (first_of p d i) (i + d)
  flag_tells d i true f g = sym (lt-ltb (first_of p d i) (i + d) (g refl))
  flag_tells d i false f g = sym (le-ltb (first_of p d i) (i + d) (omega (arith, none_of d (f refl))))

  pub free_block : (d i : ℕ) → ltb (first_of p d i) (i + d) ≡ false → Free p i (i + d)
  free_block d i t =
      let r = stops_in p d i (i + d) refl in
      let e : first_of p d i ≡ i + d = omega (arith, r.within, ltb-false (first_of p d i) (i + d) t) in
      rw e at r.before

  -- d places from i on, walked from the last: k of them are seen, then one more in front
  pub front_hit : (d i k : ℕ) → k < d → p (i + (d - 1 - k)) ≡ true → i + (d - 1 - k) ≡ first_of p (k + 1) (i + (d - (k + 1)))
  unfolding first_of
  front_hit d i k h t = let e : d - (k + 1) ≡ d - 1 - k = omega arith in rw (e, add-one, t)

  pub front_miss : (d i k : ℕ) → k < d → p (i + (d - 1 - k)) ≡ false → first_of p k (i + (d - k)) ≡ first_of p (k + 1) (i + (d - (k + 1)))
  unfolding first_of
  front_miss d i k h t =
      let e : d - (k + 1) ≡ d - 1 - k = omega arith in
      let z : i + (d - k) ≡ suc (i + (d - 1 - k)) = omega arith in
      rw (e, z, add-one, t)

  pub first_up_to : (d i : ℕ) {e : ℕ} → e ≡ first_of p d i → e ≤ i + d
  first_up_to d i q = rw q (stops_in p d i (i + d) refl).within

  -- what the first block with a passing place finds, or the last block of all, is what is first
  pub first_by_block : (d : ℕ) {from i n : ℕ} → from ≤ i → i + d ≤ n → Free p from i → (first_of p d i < n → first_of p d i < i + d) →
      first_in p n from ≡ first_of p d i
  first_by_block d {from} {i} {n} a b f h =
      let r = stops_in p d i (i + d) refl in
      first_is_stop p (record {
        from = omega (arith, r.from);
        within = omega (arith, r.within);
        before = λ k u v. by_order k i (λ l. f k u l) (λ e. r.before k (omega arith) v) (λ l. r.before k (omega arith) v);
        here = λ l. r.here (h l);
      })

  -- d free places below i
  last_skip : (d : ℕ) {i : ℕ} → d ≤ i → Free p (i - d) i → last_place p i ≡ last_place p (i - d)
  last_skip zero {i} h f = let e : i - 0 ≡ i = omega arith in rw e
  last_skip (suc d) {i} h f =
      let e : i - 1 - d ≡ i - suc d = omega arith in
      last_miss_below p i (omega arith) (f (i - 1) (omega arith) (omega arith))
      ∙ last_skip d {i = i - 1} (omega arith) (λ k a b. f k (omega arith) (omega arith))
      ∙ ap (last_place p) e

  pub last_skip_to : {j i : ℕ} → j ≤ i → Free p j i → last_place p i ≡ last_place p j
  last_skip_to {j} {i} h f =
      let e : i - (i - j) ≡ j = omega arith in
      last_skip (i - j) (omega arith) (λ k a b. f k (omega arith) b) ∙ ap (last_place p) e

  -- the place behind the last, one place on
  pub behind_hit : (k : ℕ) → p k ≡ true → behind (last_place p (k + 1)) ≡ k + 1
  unfolding behind
  behind_hit k t = rw (add-one, last_hit p k t)

  pub behind_miss : (k : ℕ) → p k ≡ false → behind (last_place p (k + 1)) ≡ behind (last_place p k)
  behind_miss k t = rw (add-one, last_miss p k t)

  pub behind_up_to : (n : ℕ) {e : ℕ} → e ≡ behind (last_place p n) → e ≤ n
  unfolding behind
  behind_up_to n {e} q = go (last_place p n) refl q
    where
      go : (f : Option ℕ) → last_place p n ≡ f → e ≡ behind f → e ≤ n
      go (Some j) l x = omega (arith, (last_is p l).within)
      go None l x = omega arith

  -- what a block with a passing place finds is what is last below the block's end
  pub last_by_block : (d i : ℕ) → first_of p d i < i + d → behind (last_place p (i + d)) ≡ i + behind (last_place (λ (k : ℕ). p (i + k)) d)
  unfolding behind
  last_by_block d i h = go (last_place q d) refl
    where
      q : ℕ → Bool
      q k = p (i + k)

      at_is : {k : ℕ} → i ≤ k → q (k - i) ≡ p k
      at_is {k} l = let e : i + (k - i) ≡ k = omega arith in ap p e

      go : (f : Option ℕ) → last_place q d ≡ f → behind (last_place p (i + d)) ≡ i + behind (last_place q d)
      go (Some j) e =
          let r = last_is q e in
          let there : last_place p (i + d) ≡ Some (i + j) =
          last_all p (i + d) (record {
            within = omega (arith, r.within);
            here = r.here;
            after = λ k a b. sym (at_is (omega arith)) ∙ r.after (k - i) (omega arith) (omega arith);
          }) in
          ap behind there ∙ (let z : suc (i + j) ≡ i + suc j = omega arith in z) ∙ sym (ap (λ (f : Option ℕ). i + behind f) e)
      go None e =
          let r = stops_in p d i (i + d) refl in
          absurd (clash (r.here h) (sym (at_is r.from) ∙ last_free q e (first_of p d i - i) (omega arith) (omega (arith, r.from, h))))
