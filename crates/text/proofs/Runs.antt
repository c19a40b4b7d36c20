-- Longest runs: a run ends at the first place that does not pass, and one that ends the text starts behind the last such place, so every
-- law of runs is one of places. Assumes nothing.
use Rattle.std.specs.Prelude.{None, Option, Some}
use Rattle.std.specs.Bool.{then_some}
use Rattle.std.specs.Option.{SomeIff}
use Prim.Native.Nat.{ℕ, zero, suc, ◌+◌, ◌-◌, ◌≤◌, ◌<◌}
use mathlib.Core.Path.{◌≡◌, refl, sym, ap, ◌∙◌}
use mathlib.Core.Bool.{Bool, true, false, cond, not}
use mathlib.Core.List.{List}
use native.Mathlib.Omega.{arith}
use lib.Dec.{ltb}
use lib.ListN.{length, get_or}
use borrow.Author.Tests.{ltb-true, not-true, not-false}
use Rattle.text.specs.Class.{is_word, no_word, other_than}
use Rattle.text.specs.Place.{Free, is_at, first_of, first_in, found_below, first_place, first_byte, last_place, last_byte}
use Rattle.text.specs.Run.{Run, RunBack, EndsAt, StartsAt, fails_at, run_end, behind, run_start}
use Rattle.text.proofs.Places.{by_order, Stops, first_stops, first_end, first_hit, first_miss, one_stop, first_same, last_hit_below, last_miss_below, last_zero, last_same, last_all, last_none, last_is, last_free}
use Rattle.text.proofs.Blocks.{free_block, first_by_block, last_by_block, last_skip_to}

-- a test that fails is its negation's pass
flip : {b : Bool} → b ≡ false → not b ≡ true
flip e = rw e

flop : {b : Bool} → b ≡ true → not b ≡ false
flop e = rw e

module _ (p : ℕ → Bool) (s : List ℕ) where
  -- the three ways of a walk along a run
  pub run_over : {i : ℕ} → length s ≤ i → run_end p s i ≡ i
  unfolding run_end
  run_over h = first_end (fails_at p s) h

  pub run_stop : {i : ℕ} → i < length s → p (get_or s i 0) ≡ false → run_end p s i ≡ i
  unfolding run_end
  run_stop h t = first_hit (fails_at p s) h (flip t)

  pub run_step : {i : ℕ} → i < length s → p (get_or s i 0) ≡ true → run_end p s i ≡ run_end p s (i + 1)
  unfolding run_end
  run_step h t = first_miss (fails_at p s) h (flop t)

  -- a run by its places
  run_stops : {i e : ℕ} → Run p s i e → Stops (fails_at p s) i (length s) e
  run_stops r =
      record {
        from = r.from;
        within = r.within;
        before = λ k a b. flop (r.inside k a b);
        here = λ h. flip (r.stops h);
      }

  -- the run that the operator gives is the longest, and the longest is the one it gives
  pub run_is : {i : ℕ} → i ≤ length s → Run p s i (run_end p s i)
  unfolding run_end
  run_is h =
      let r = first_stops (fails_at p s) h in
      record {
        from = r.from;
        within = r.within;
        inside = λ k a b. not-false _ (r.before k a b);
        stops = λ l. not-true _ (r.here l);
      }

  pub run_all : {i e : ℕ} → Run p s i e → run_end p s i ≡ e
  unfolding run_end
  run_all {i} {e} r = one_stop (fails_at p s) (first_stops (fails_at p s) (omega (arith, r.from, r.within))) (run_stops r)

  pub one_run : {i e f : ℕ} → Run p s i e → Run p s i f → e ≡ f
  one_run a b = one_stop (fails_at p s) (run_stops a) (run_stops b)

  pub run_up : (i : ℕ) → i ≤ run_end p s i
  run_up i =
      by_order i (length s) (λ h. (run_is (omega arith)).from) (λ h. (run_is (omega arith)).from)
      (λ h. let z : length s ≤ i = omega arith in omega (arith, run_over z))

  pub run_within : (i : ℕ) → i ≤ length s → run_end p s i ≤ length s
  run_within i h = (run_is h).within

  -- the run that ends the text, as a loop that counts down meets it: the bytes from i on pass
  pub record Back (i : ℕ) : Type 0 where
    pub within : i ≤ length s
    pub same : run_start p s ≡ behind (last_place (fails_at p s) i)

  pub back_start : Back (length s)
  unfolding run_start
  back_start = record { within = omega arith; same = refl }

  pub back_step : {i : ℕ} → Back i → 0 < i → p (get_or s (i - 1) 0) ≡ true → Back (i - 1)
  back_step {i} r h t =
      record {
        within = omega (arith, r.within);
        same = r.same ∙ ap behind (last_miss_below (fails_at p s) i h (flop t));
      }

  pub back_stop : {i : ℕ} → Back i → 0 < i → p (get_or s (i - 1) 0) ≡ false → run_start p s ≡ i
  unfolding behind
  back_stop {i} r h t =
      let e : suc (i - 1) ≡ i = omega arith in
      r.same ∙ ap behind (last_hit_below (fails_at p s) i h (flip t)) ∙ e

  pub back_over : {i : ℕ} → Back i → i ≡ 0 → run_start p s ≡ 0
  unfolding behind
  back_over {i} r h = r.same ∙ ap (λ (k : ℕ). behind (last_place (fails_at p s) k)) h ∙ ap behind (last_zero (fails_at p s))

  -- the run that ends the text, as the relation says it
  back_of : (f : Option ℕ) → last_place (fails_at p s) (length s) ≡ f → RunBack p s (behind f)
  unfolding behind
  back_of (Some j) e =
      let r = last_is (fails_at p s) e in
      record {
        within = r.within;
        inside = λ k a b. not-false _ (r.after k a b);
        stops = λ k q. let z : j ≡ k = omega arith in rw (← z) (not-true _ r.here);
      }
  back_of None e =
      record {
        within = omega arith;
        inside = λ k a b. not-false _ (last_free (fails_at p s) e k a b);
        stops = λ k q. absurd (omega arith);
      }

  pub back_is : RunBack p s (run_start p s)
  unfolding run_start
  back_is = back_of (last_place (fails_at p s) (length s)) refl

  pub back_within : run_start p s ≤ length s
  back_within = back_is.within

  pub back_all : (i : ℕ) → RunBack p s i → run_start p s ≡ i
  unfolding run_start behind
  back_all zero r = ap behind (last_none (fails_at p s) (length s) (λ k a b. flop (r.inside k a b)))
  back_all (suc i) r =
      ap behind
      (last_all (fails_at p s) (length s)
      (record { within = r.within; here = flip (r.stops i refl); after = λ k a b. flop (r.inside k a b) }))

  pub one_back : {i j : ℕ} → RunBack p s i → RunBack p s j → i ≡ j
  one_back {i} {j} a b = sym (back_all i a) ∙ back_all j b

  -- what a caller is told of an answer
  pub ends_at : {i e : ℕ} → e ≡ run_end p s i → EndsAt p s i e
  ends_at {i} {e} q =
      record {
        is = q;
        up = omega (arith, run_up i);
        within =
            by_order i (length s) (λ h. omega (arith, run_within i (omega arith))) (λ h. omega (arith, run_within i (omega arith)))
            (λ h. let z : length s ≤ i = omega arith in omega (arith, run_over z));
      }

  pub starts_at : {i : ℕ} → i ≡ run_start p s → StartsAt p s i
  starts_at {i} q = record { is = q; within = omega (arith, back_within) }

-- the bytes other than one: their run ends at the first place of that byte, and the run that ends the text starts behind the last
module _ (b : ℕ) (s : List ℕ) where
  other_fails_at : (k : ℕ) → fails_at (other_than b) s k ≡ is_at b s k
  other_fails_at k = go (is_at b s k)
    where
      go : (x : Bool) → not (not x) ≡ x
      go true = refl
      go false = refl

  until_first : (i : ℕ) → run_end (other_than b) s i ≡ first_in (is_at b s) (length s) i
  unfolding run_end first_in
  until_first i = first_same other_fails_at (length s - i) i

  pub behind_byte : run_start (other_than b) s ≡ behind (last_place (is_at b s) (length s))
  unfolding run_start
  behind_byte = ap behind (last_same other_fails_at (length s))

  -- so the run tells where the byte stands
  pub first_found : {i k : ℕ} → EndsAt (other_than b) s i k → then_some (ltb k (length s)) k ≡ first_byte b s i
  unfolding first_byte first_place found_below
  first_found {i} {k} r = rw (← until_first i, ← r.is) (go (ltb k (length s)))
    where
      go : (x : Bool) → then_some x k ≡ cond x (Some k) None
      go true = refl
      go false = refl

  pub last_found : {k : ℕ} {r : Option ℕ} → StartsAt (other_than b) s k → SomeIff r (1 ≤ k) (k - 1) → r ≡ last_byte b s
  unfolding last_byte behind
  last_found {k} {r} at = go (last_place (is_at b s) (length s)) (at.is ∙ behind_byte) r
    where
      go : (f : Option ℕ) → k ≡ behind f → (r : Option ℕ) → SomeIff r (1 ≤ k) (k - 1) → r ≡ f
      go (Some j) q (Some i) h = ap Some (omega (arith, h))
      go (Some j) q None h = absurd (h (omega arith))
      go None q (Some i) h = absurd (omega (arith, h))
      go None q None h = refl

  -- by blocks of d bytes: the run ends where the first block that has the byte says, or the last block of all
  pub until_block : (d : ℕ) {from i e : ℕ} → from ≤ i → i + d ≤ length s → Free (is_at b s) from i → ltb (first_of (is_at b s) d i) (i + d) ≡ true →
      e ≡ first_of (is_at b s) d i → EndsAt (other_than b) s from e
  until_block d {from} u l f h q =
      ends_at (other_than b) s (q ∙ sym (first_by_block (is_at b s) d u l f (λ x. ltb-true _ _ h)) ∙ sym (until_first from))

  pub until_end : (d : ℕ) {from i j e : ℕ} → from ≤ j → j ≤ i → j + d ≡ length s → Free (is_at b s) from i → e ≡ first_of (is_at b s) d j →
      EndsAt (other_than b) s from e
  until_end d {from} u l n f q =
      ends_at (other_than b) s
      (q ∙ sym (first_by_block (is_at b s) d u (omega arith) (λ k x y. f k x (omega arith)) (λ x. omega arith)) ∙ sym (until_first from))

  -- and it starts where the last block that has the byte says, or the first block of all
  pub behind_block : (d i : ℕ) {r : ℕ} → d ≤ i → run_start (other_than b) s ≡ behind (last_place (is_at b s) i) →
      ltb (first_of (is_at b s) d (i - d)) (i - d + d) ≡ true → r ≡ behind (last_place (λ (k : ℕ). is_at b s (i - d + k)) d) →
      StartsAt (other_than b) s (i - d + r)
  behind_block d i {r} l e h q =
      let z : i - d + d ≡ i = omega arith in
      let below = last_by_block (is_at b s) d (i - d) (ltb-true _ _ h) in
      starts_at (other_than b) s (sym (e ∙ ap (λ (k : ℕ). behind (last_place (is_at b s) k)) (sym z) ∙ below ∙ ap (◌+◌ (i - d)) (sym q)))

  pub behind_front : (d i : ℕ) {r : ℕ} → i ≡ d → run_start (other_than b) s ≡ behind (last_place (is_at b s) i) →
      r ≡ behind (last_place (λ (k : ℕ). is_at b s (0 + k)) d) → StartsAt (other_than b) s r
  behind_front d i l e q =
      let front : last_place (λ (k : ℕ). is_at b s (0 + k)) d ≡ last_place (is_at b s) d = last_same (λ k. ap (is_at b s) (omega arith)) d in
      starts_at (other_than b) s (q ∙ ap behind front ∙ sym (rw l at e))

  -- a block without the byte is passed over, whole or in part
  pub behind_down : (d : ℕ) {i j : ℕ} → d ≤ i → i - d ≤ j → j ≤ i → run_start (other_than b) s ≡ behind (last_place (is_at b s) i) →
      ltb (first_of (is_at b s) d (i - d)) (i - d + d) ≡ false → run_start (other_than b) s ≡ behind (last_place (is_at b s) j)
  behind_down d {i} {j} l u h e t =
      e ∙ ap behind (last_skip_to (is_at b s) h (λ k x y. free_block (is_at b s) d (i - d) t k (omega arith) (omega arith)))

-- what ends at the first word byte: none stands before it, and where the text goes on one stands there
module _ (s : List ℕ) {i e : ℕ} (r : EndsAt no_word s i e) where
  pub no_word_lem : Free (λ (k : ℕ). is_word (get_or s k 0)) i e
  no_word_lem k a b =
      by_order i (length s) (λ h. within (omega arith)) (λ h. within (omega arith))
      (λ h. absurd (omega (arith, r.within)))
    where
      within : i ≤ length s → is_word (get_or s k 0) ≡ false
      within h = not-true _ ((run_is no_word s h).inside k a (rw (← r.is) b))

  pub word_there : e < length s → is_word (get_or s e 0) ≡ true
  word_there h =
      let z : i ≤ length s = omega (arith, r.up) in
      let q : run_end no_word s i ≡ e = sym r.is in
      not-false _ (rw q at ((run_is no_word s z).stops (rw q h)))
