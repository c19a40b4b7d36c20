-- The next match: a search that goes on behind the word run of a try that failed passes over places that start no match, so what it meets
-- first is the first match, and the first match is the sentence's. Assumes nothing.
use Rattle.pairs.proofs.Ends.{same_hit}
use Rattle.std.specs.Prelude.{None, Option, Some}
use Prim.Native.Nat.{ℕ, ◌+◌, ◌≤◌, ◌<◌}
use mathlib.Core.Path.{◌≡◌, refl, sym, ap, ◌∙◌}
use mathlib.Core.Bool.{Bool, true, false}
use mathlib.Core.List.{List}
use native.Mathlib.Omega.{arith}
use lib.Dec.{ltb}
use lib.ListN.{length}
use borrow.Author.Tests.{ltb-false}
use Rattle.text.specs.Class.{is_word}
use Rattle.text.specs.Place.{Free, first_in, found_below, first_place}
use Rattle.text.specs.Run.{run_end}
use Rattle.text.proofs.Places.{clash, Stops, first_stops, first_is, first_all, place_hit, place_end, place_skip_to}
use Rattle.text.proofs.Runs.{run_up}
use Rattle.pairs.specs.declared.pair.Hit.{Hit}
use Rattle.pairs.specs.Pair.{FirstPair, NoPair, NextPair, pair_with, pair_at, is_hit, pair_from, next_pair, hit}
use Rattle.pairs.proofs.Tries.{pair_at_is, pair_at_all, miss_within, value_up, value_within}

-- where no place was found, none passes
nothing_free : (p : ℕ → Bool) {i n : ℕ} → first_place p n i ≡ None → Free p i n
unfolding first_place found_below
nothing_free p {i} {n} e k low high = go (ltb (first_in p n i) n) refl
  where
    stops : Stops p i n (first_in p n i)
    stops = first_stops p (omega arith)

    go : (b : Bool) → ltb (first_in p n i) n ≡ b → p k ≡ false
    go true t =
        let z : Some (first_in p n i) ≡ None = rw t at e in
        absurd (let y : ◌≡◌ {A = ℕ} 0 1 = cc in omega arith)
    go false t =
        let past : n ≤ first_in p n i = ltb-false _ _ t in
        stops.before k low (omega arith)

module _ (s : List ℕ) where
  abbrev hits : ℕ → Bool
  hits i = is_hit (pair_at s i)

  miss_is : (p : Option Hit) → is_hit p ≡ false → p ≡ None
  unfolding is_hit
  miss_is (Some p) t = absurd (clash {b = true} refl t)
  miss_is None t = refl

  hit_passes : (i : ℕ) {a m e : ℕ} → pair_at s i ≡ hit a m e → hits i ≡ true
  unfolding is_hit
  hit_passes i q = rw q

  miss_fails : (i : ℕ) → pair_at s i ≡ None → hits i ≡ false
  unfolding is_hit
  miss_fails i q = rw q

  -- the next match, as a walk meets it
  pub record Seeking (from i : ℕ) : Type 0 where
    pub up : from ≤ i
    pub same : next_pair s from ≡ next_pair s i

  pub seeking_starts : (from : ℕ) → Seeking from from
  seeking_starts from = record { up = omega arith; same = refl }

  pub next_ends : {i : ℕ} → length s ≤ i → next_pair s i ≡ None
  unfolding next_pair pair_from
  next_ends l = rw (place_end hits l)

  pub next_hits : (i : ℕ) {a m e : ℕ} → i < length s → pair_at s i ≡ hit a m e → next_pair s i ≡ hit a m e
  unfolding next_pair pair_from
  next_hits i l q = rw (place_hit hits {i = i} {n = length s} l (hit_passes i q)) q

  pub next_skips : (i e : ℕ) → i ≤ e → ((k : ℕ) → i ≤ k → k < e → pair_at s k ≡ None) → next_pair s i ≡ next_pair s e
  unfolding next_pair
  next_skips i e l f = ap (pair_from s) (place_skip_to hits i e (length s) l (λ k a b. miss_fails k (f k a b)))

  pub seeking_ends : {from i : ℕ} → Seeking from i → length s ≤ i → next_pair s from ≡ None
  seeking_ends r l = r.same ∙ next_ends l

  module _ {from i m : ℕ} (r : Seeking from i) (in-text : i < length s) (m-is : m ≡ run_end is_word s i) where
    pub seeking_hits : {a b e : ℕ} → pair_with s i m ≡ hit a b e → next_pair s from ≡ hit a b e
    unfolding pair_at
    seeking_hits q = r.same ∙ next_hits i in-text (rw (← m-is) q)

    pub seeking_steps : pair_with s i m ≡ None → Seeking from (m + 1)
    seeking_steps q =
        let up : i ≤ m = rw m-is (run_up is_word s i) in
        record {
          up = omega (arith, r.up);
          same =
              r.same ∙ next_skips i (m + 1) (omega arith)
              (λ k a b. miss_within s i m (omega arith) m-is q k a (omega arith));
        }

  -- the next match is the sentence's
  pub pair_all : {from i m e : ℕ} → FirstPair s from i m e → next_pair s from ≡ hit i m e
  unfolding next_pair pair_from
  pair_all {from} {i} {m} {e} r =
      let here : pair_at s i ≡ hit i m e = pair_at_all s r.here in
      let place : first_place hits (length s) from ≡ Some i =
      first_all hits
      (record {
        from = r.up;
        within = omega (arith, r.here.some, r.here.key.within);
        here = hit_passes i here;
        before = λ k a b. miss_fails k (not-before k a b (pair_at s k) refl);
      }) in
      rw place here
    where
      not-before : (k : ℕ) → from ≤ k → k < i → (p : Option Hit) → pair_at s k ≡ p → p ≡ None
      not-before k a b None q = refl
      not-before k a b (Some p) q = absurd (r.before k p.equals p.end a b (pair_at_is s q).1)

  pub pair_is : {from i m e : ℕ} → next_pair s from ≡ hit i m e → FirstPair s from i m e
  unfolding next_pair pair_from
  pair_is {from} {i} {m} {e} q = go (first_place hits (length s) from) refl q
    where
      go : (f : Option ℕ) → first_place hits (length s) from ≡ f → pair_from s f ≡ hit i m e → FirstPair s from i m e
      go (Some k) place t =
          let f = first_is hits place in
          let here = pair_at_is s t in
          let same : k ≡ i = here.0 in
          rw (← same)
          (record {
            up = f.from;
            here = here.1;
            before = λ j l g a b r. clash (hit_passes j (pair_at_all s r)) (f.before j a b);
          })
      go None place t = absurd (let z : ◌≡◌ {A = ℕ} 0 1 = cc in omega arith)

  pub one_pair : {from i m e i' m' e' : ℕ} → FirstPair s from i m e → FirstPair s from i' m' e' →
      (i ≡ i') × (m ≡ m') × (e ≡ e')
  one_pair a b = same_hit (sym (pair_all a) ∙ pair_all b)

  -- no match exactly where none is found
  pub no_pair_all : {from : ℕ} → NoPair s from → next_pair s from ≡ None
  no_pair_all {from} n = go (next_pair s from) refl
    where
      go : (p : Option Hit) → next_pair s from ≡ p → p ≡ None
      go None q = refl
      go (Some p) q = let f = pair_is q in absurd (n p.key p.equals p.end f.up f.here)

  pub no_pair_is : {from : ℕ} → next_pair s from ≡ None → NoPair s from
  unfolding next_pair pair_from
  no_pair_is {from} q = go (first_place hits (length s) from) refl q
    where
      go : (f : Option ℕ) → first_place hits (length s) from ≡ f → pair_from s f ≡ None → NoPair s from
      go (Some k) place t = absurd (clash (first_is hits place).here (miss_fails k t))
      go None place t =
          λ k l f a r. clash (hit_passes k (pair_at_all s r))
          (nothing_free hits place k a (omega (arith, r.some, r.key.within)))

  -- a match has places that rise within the text
  pub next_rise : {from i m e : ℕ} → next_pair s from ≡ hit i m e → (from ≤ i) × (i < m) × (m + 1 < e) × (e ≤ length s)
  next_rise q =
      let f = pair_is q in
      (f.up, f.here.some, value_up s _ f.here.value, value_within s _ f.here.value)

  -- what a caller is told of an answer
  pub next_pair_lem : {from : ℕ} {r : Option Hit} → r ≡ next_pair s from → NextPair s from r
  next_pair_lem {r = Some p} q = record { is = q; rise = next_rise (sym q) }
  next_pair_lem {r = None} q = record { is = q; rise = tt }
