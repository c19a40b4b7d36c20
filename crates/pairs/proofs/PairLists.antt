-- The pairs of a text: each search starts behind the last match, so the list from a place is the next match and the list from its end, and
-- as each next match is one, so is the list. Assumes nothing.
use Rattle.std.specs.Prelude.{None, Option, Some}
use Prim.Native.Nat.{ℕ, zero, suc, ◌+◌, ◌-◌, ◌≤◌}
use mathlib.Core.Path.{◌≡◌, refl, sym, ◌∙◌}
use mathlib.Core.List.{List, [], ◌∷◌, ◌++◌}
use native.Mathlib.Omega.{arith}
use lib.ListN.{length}
use Rattle.pairs.specs.declared.pair.Hit.{Hit}
use Rattle.pairs.specs.Pair.{PairAt, Pairs, next_pair, followed, pairs_within, pairs_from, hit}
use Rattle.pairs.proofs.Matches.{pair_is, one_pair, no_pair_is, next_rise}

-- a pair by its places
abbrev pub placed : ℕ → ℕ → ℕ → Hit
placed i m e = record { key = i; equals = m; end = e }

module _ (s : List ℕ) where
  one_match : (p q : Hit) → (p.key ≡ q.key) × (p.equals ≡ q.equals) × (p.end ≡ q.end) → p ≡ q
  one_match p q e =
      let a : p.key ≡ q.key = e.0 in
      let b : p.equals ≡ q.equals = e.1 in
      let c : p.end ≡ q.end = e.2 in
      places a b c
    where
      places : {i j m n e f : ℕ} → i ≡ j → m ≡ n → e ≡ f → placed i m e ≡ placed j n f
      places a b c = rw (a, b, c)

  pub one_pairs : {from : ℕ} {l k : List Hit} → Pairs s from l → Pairs s from k → l ≡ k
  one_pairs (Pairs.none n) (Pairs.none o) = refl
  one_pairs (Pairs.none n) (Pairs.next f r) = absurd (n _ _ _ f.up f.here)
  one_pairs (Pairs.next f r) (Pairs.none n) = absurd (n _ _ _ f.up f.here)
  one_pairs (Pairs.next {p = p} {l = l} f r) (Pairs.next {p = q} {l = k} g t) =
      let same : p ≡ q = one_match p q (one_pair s f g) in
      let rest : l ≡ k = one_pairs r (rw same t) in
      cc

  within_is : (n from : ℕ) → length s ≤ n + from → Pairs s from (pairs_within n s from)
  unfolding pairs_within followed
  within_is zero from h = Pairs.none {from = from} (λ k l f a r. omega (arith, r.some, r.key.within))
  within_is (suc n) from h = go (next_pair s from) refl (λ e l. within_is n e l)
    where
      go : (p : Option Hit) → next_pair s from ≡ p → ((e : ℕ) → length s ≤ n + e → Pairs s e (pairs_within n s e)) →
          Pairs s from (followed (pairs_within n s) p)
      go (Some p) q rest = Pairs.next {p = p} (pair_is s q) (rest p.end (let r = next_rise s q in omega arith))
      go None q rest = Pairs.none (no_pair_is s q)

  -- the list is the sentence's
  pub pairs_are : (from : ℕ) → Pairs s from (pairs_from s from)
  unfolding pairs_from
  pairs_are from = within_is (length s - from) from (omega arith)

  pub pairs_is : {from : ℕ} {l : List Hit} → pairs_from s from ≡ l → Pairs s from l
  pairs_is {from} q = rw (← q) (pairs_are from)

  pub pairs_all : {from : ℕ} {l : List Hit} → Pairs s from l → pairs_from s from ≡ l
  pairs_all {from} r = one_pairs (pairs_are from) r

  -- the list as a walk meets it
  pub pairs_next : (from : ℕ) {i m e : ℕ} → next_pair s from ≡ hit i m e → pairs_from s from ≡ placed i m e ∷ pairs_from s e
  pairs_next from {i} {m} {e} q = pairs_all (Pairs.next {p = placed i m e} (pair_is s q) (pairs_are e))

  pub pairs_end : (from : ℕ) → next_pair s from ≡ None → pairs_from s from ≡ []
  pairs_end from q = pairs_all (Pairs.none (no_pair_is s q))

  -- the list goes by the next match alone
  pub pairs_same : (a b : ℕ) → next_pair s a ≡ next_pair s b → pairs_from s a ≡ pairs_from s b
  pairs_same a b q = go (next_pair s b) refl
    where
      go : (p : Option Hit) → next_pair s b ≡ p → pairs_from s a ≡ pairs_from s b
      go (Some p) r = pairs_next a (q ∙ r) ∙ sym (pairs_next b r)
      go None r = pairs_end a (q ∙ r) ∙ sym (pairs_end b r)

  -- each pair of the list is one
  pub pairs_each : (l : List Hit) {p : Hit} (r : List Hit) {from : ℕ} → Pairs s from (l ++ (p ∷ r)) →
      PairAt s p.key p.equals p.end
  pairs_each [] r (Pairs.next f t) = f.here
  pairs_each (q ∷ l) r (Pairs.next f t) = pairs_each l r t
