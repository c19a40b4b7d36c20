-- The last pair of a key: the newest value of the key is kept along the list, so what is left at its end is the value of the last pair that
-- has the key, and a pair of another key changes nothing. Assumes nothing.
use Rattle.pairs.proofs.Ends.{same_span}
use Rattle.std.specs.Prelude.{None, Some, Option}
use Prim.Native.Nat.{ℕ, ◌+◌, ◌≤◌, ◌<◌}
use mathlib.Core.Path.{◌≡◌, refl, sym, ap, ◌∙◌}
use mathlib.Core.Bool.{Bool, true, false, cond}
use mathlib.Core.List.{List, [], ◌∷◌, ◌++◌}
use native.Mathlib.Omega.{arith}
use lib.ListN.{length}
use Rattle.text.specs.Number.{number_of, hex_number_of}
use Rattle.text.specs.Same.{same_text}
use Rattle.text.proofs.Places.{clash}
use Rattle.text.proofs.Texts.{same_refl, same_true}
use Rattle.pairs.specs.declared.pair.Span.{Span}
use Rattle.pairs.specs.declared.pair.Hit.{Hit}
use Rattle.pairs.specs.Pair.{Lacks, LastPair, KeyMissing, ValueAt, key_of, next_pair, pairs_from, newer, last_in, last_pair, part, decimal_in, decimal_of, hex_in, hex_at, span, hit}
use Rattle.pairs.proofs.Tries.{value_up, value_within}
use Rattle.pairs.proofs.PairLists.{placed, pairs_are, pairs_all, pairs_next, pairs_end, pairs_each}

module _ (s key : List ℕ) where
  -- what one pair changes
  pub newer_has : (best : Option Span) (p : Hit) → key_of s p ≡ key → newer s key best p ≡ span (p.equals + 1) p.end
  unfolding newer
  newer_has best p e = rw (e, same_refl key)

  pub newer_other : (best : Option Span) (p : Hit) → (key_of s p ≡ key → ⊥) → newer s key best p ≡ best
  unfolding newer
  newer_other best p n = go (same_text (key_of s p) key) refl
    where
      go : (b : Bool) → same_text (key_of s p) key ≡ b → cond b (span (p.equals + 1) p.end) best ≡ best
      go true t = absurd (n (same_true _ _ t))
      go false t = refl

  -- what a pair in front changes
  pub last_front : (best : Option Span) (p : Hit) (l : List Hit) →
      last_in s key best (p ∷ l) ≡ last_in s key (newer s key best p) l
  unfolding last_in
  last_front best p l = refl

  pub last_unknown : (best : Option Span) (p : Hit) (l : List Hit) → (key_of s p ≡ key → ⊥) →
      last_in s key best (p ∷ l) ≡ last_in s key best l
  last_unknown best p l n = last_front best p l ∙ ap (λ (b : Option Span). last_in s key b l) (newer_other best p n)

  pub last_append : (best : Option Span) (l k : List Hit) → last_in s key best (l ++ k) ≡ last_in s key (last_in s key best l) k
  unfolding last_in
  last_append best [] k = refl
  last_append best (p ∷ l) k = last_append (newer s key best p) l k

  pub last_lacks : (best : Option Span) {l : List Hit} → Lacks s key l → last_in s key best l ≡ best
  unfolding last_in
  last_lacks best Lacks.empty = refl
  last_lacks best (Lacks.other {p = p} {l = l} n r) = last_unknown best p l n ∙ last_lacks best r

  -- what the next pair changes
  pub last_next : (best : Option Span) (from : ℕ) {i m e : ℕ} → next_pair s from ≡ hit i m e →
      last_in s key best (pairs_from s from) ≡ last_in s key (newer s key best (placed i m e)) (pairs_from s e)
  last_next best from {i} {m} {e} q =
      ap (last_in s key best) (pairs_next s from q) ∙ last_front best (placed i m e) (pairs_from s e)

  pub last_takes : (best : Option Span) (from : ℕ) {i m e : ℕ} → next_pair s from ≡ hit i m e →
      same_text (key_of s (placed i m e)) key ≡ true →
      last_in s key best (pairs_from s from) ≡ last_in s key (span (m + 1) e) (pairs_from s e)
  unfolding newer
  last_takes best from q t = last_next best from q ∙ rw t

  pub last_passes : (best : Option Span) (from : ℕ) {i m e : ℕ} → next_pair s from ≡ hit i m e →
      same_text (key_of s (placed i m e)) key ≡ false →
      last_in s key best (pairs_from s from) ≡ last_in s key best (pairs_from s e)
  unfolding newer
  last_passes best from q t = last_next best from q ∙ rw t

  pub last_end : (best : Option Span) (from : ℕ) → next_pair s from ≡ None → last_in s key best (pairs_from s from) ≡ best
  unfolding last_in
  last_end best from q = ap (last_in s key best) (pairs_end s from q)

  -- the last pair of the key is the sentence's
  pub last_pair_all : {v e : ℕ} → LastPair s key v e → last_pair s key ≡ span v e
  unfolding last_pair
  last_pair_all {v} {e} r =
      let from_is : span (r.last.equals + 1) r.last.end ≡ span v e = rw (r.from, r.to) refl in
      ap (last_in s key None) (pairs_all s r.all)
      ∙ last_append None r.before (r.last ∷ r.after)
      ∙ last_front (last_in s key None r.before) r.last r.after
      ∙ last_lacks (newer s key (last_in s key None r.before) r.last) r.none_after
      ∙ newer_has (last_in s key None r.before) r.last r.is_key
      ∙ from_is

  pub key_missing_all : KeyMissing s key → last_pair s key ≡ None
  unfolding last_pair
  key_missing_all r = ap (last_in s key None) (pairs_all s r.all) ∙ last_lacks None r.none

  -- whatever is kept along a list, it is so
  data Kept (best : Option Span) (l : List Hit) (r : Option Span) : Type 0 where
    lacking : Lacks s key l → r ≡ best → Kept best l r
    having : (a : List Hit) (p : Hit) (b : List Hit) → l ≡ a ++ (p ∷ b) → key_of s p ≡ key → Lacks s key b →
        r ≡ span (p.equals + 1) p.end → Kept best l r

  kept : (best : Option Span) (l : List Hit) → Kept best l (last_in s key best l)
  unfolding last_in
  kept best [] = lacking Lacks.empty refl
  kept best (p ∷ l) = go (kept (newer s key best p) l)
    where
      here : (b : Bool) → same_text (key_of s p) key ≡ b → Lacks s key l →
          last_in s key (newer s key best p) l ≡ newer s key best p →
          Kept best (p ∷ l) (last_in s key (newer s key best p) l)
      here true t n q = having [] p l refl (same_true _ _ t) n (q ∙ newer_has best p (same_true _ _ t))
      here false t n q =
          let other : key_of s p ≡ key → ⊥ = λ e. clash (rw e (same_refl key)) t in
          lacking (Lacks.other other n) (q ∙ newer_other best p other)

      go : Kept (newer s key best p) l (last_in s key (newer s key best p) l) →
          Kept best (p ∷ l) (last_in s key (newer s key best p) l)
      go (lacking n q) = here (same_text (key_of s p) key) refl n q
      go (having a x b e k n q) = having (p ∷ a) x b (ap (λ (t : List Hit). p ∷ t) e) k n q

  pub last_pair_is : {v e : ℕ} → last_pair s key ≡ span v e → LastPair s key v e
  unfolding last_pair
  last_pair_is {v} {e} q = go (kept None (pairs_from s 0))
    where
      go : Kept None (pairs_from s 0) (last_in s key None (pairs_from s 0)) → LastPair s key v e
      go (lacking n r) = absurd (let z : ◌≡◌ {A = ℕ} 0 1 = cc in omega arith)
      go (having a p b l k n r) =
          record {
            before = a;
            last = p;
            after = b;
            all = rw (← l) (pairs_are s 0);
            is_key = k;
            none_after = n;
            from = (same_span (sym q ∙ r)).0;
            to = (same_span (sym q ∙ r)).1;
          }

  pub key_missing_is : last_pair s key ≡ None → KeyMissing s key
  unfolding last_pair
  key_missing_is q = go (kept None (pairs_from s 0))
    where
      go : Kept None (pairs_from s 0) (last_in s key None (pairs_from s 0)) → KeyMissing s key
      go (lacking n r) = record { pairs = pairs_from s 0; all = pairs_are s 0; none = n }
      go (having a p b l k n r) = absurd (let z : ◌≡◌ {A = ℕ} 0 1 = cc in omega arith)

  pub one_last_pair : {v e v' e' : ℕ} → LastPair s key v e → LastPair s key v' e' → (v ≡ v') × (e ≡ e')
  one_last_pair a b = same_span (sym (last_pair_all a) ∙ last_pair_all b)

  pub not_both : {v e : ℕ} → LastPair s key v e → KeyMissing s key → ⊥
  not_both a b =
      let x = last_pair_all a in
      let y = key_missing_all b in
      let z : ◌≡◌ {A = ℕ} 0 1 = cc in omega arith

  -- the value lies within the text
  pub last_within : {a b : ℕ} → last_pair s key ≡ span a b → (a < b) × (b ≤ length s)
  last_within q =
      let r = last_pair_is q in
      let p = pairs_each s r.before r.after r.all in
      (omega (arith, r.from, r.to, value_up s _ p.value), omega (arith, r.to, value_within s _ p.value))

  -- what a caller is told of an answer
  pub value_at : {r : Option Span} → r ≡ last_pair s key → ValueAt s key r
  value_at {r = Some w} q = record { is = q; within = last_within (sym q) }
  value_at {r = None} q = record { is = q; within = tt }

-- the last pair's value, read
module _ (s key : List ℕ) (limit : ℕ) where
  pub decimal_some : {a b : ℕ} → last_pair s key ≡ span a b → number_of 10 limit (part s a b) ≡ decimal_of s key limit
  unfolding decimal_of decimal_in
  decimal_some q = rw q

  pub hex_some : {a b : ℕ} → last_pair s key ≡ span a b → hex_number_of limit (part s a b) ≡ hex_at s key limit
  unfolding hex_at hex_in
  hex_some q = rw q

  pub hex_none : last_pair s key ≡ None → None ≡ hex_at s key limit
  unfolding hex_at hex_in
  hex_none q = rw q
