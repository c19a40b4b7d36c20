-- One walk for all keys: a pair changes what is kept for its own row only, and so for every row what the walk keeps and what is to come
-- are the last pair of the row's key. Assumes nothing.
use Rattle.std.specs.Prelude.{None, Option}
use Prim.Native.Nat.{ℕ, suc, ◌+◌, ◌≤◌, ◌<◌}
use mathlib.Core.Path.{◌≡◌, refl, sym, ap, ◌∙◌}
use mathlib.Core.Bool.{Bool, true, false}
use mathlib.Core.List.{List}
use native.Mathlib.Omega.{arith}
use lib.Dec.{eqb}
use lib.ListN.{length, get_or, set, length-set, replicate, length-replicate, get_or-replicate}
use lib.Seq.{get_or-set_same, get_or-set_other}
use borrow.Author.Tests.{eqb-true, eqb-false}
use Rattle.text.specs.Class.{is_word}
use Rattle.text.specs.Place.{Free}
use Rattle.text.specs.Run.{run_end}
use Rattle.text.proofs.Places.{by_order}
use Rattle.text.proofs.Runs.{run_over, run_stop}
use Rattle.pairs.specs.declared.keys.Form.{Form}
use Rattle.pairs.specs.declared.pair.Span.{Span}
use Rattle.pairs.specs.Pair.{part, pair_with, pair_at, next_pair, pairs_from, last_in, last_pair, hit, span}
use Rattle.pairs.specs.Table.{Key, keys, row_at, key_named}
use Rattle.pairs.proofs.Tries.{try_empty}
use Rattle.pairs.proofs.Matches.{next_ends, next_hits, next_skips}
use Rattle.pairs.proofs.PairLists.{pairs_same}
use Rattle.pairs.proofs.LastPairs.{last_takes, last_passes, last_end}
use Rattle.pairs.proofs.Rows.{key_same, key_form, key_within}
use Rattle.walk.specs.declared.value.Kept.{Kept}
use Rattle.walk.specs.declared.last.LastPairs.{LastPairs}
use Rattle.walk.specs.Kept.{kept_in, kept_at, kept_of, LastKept, Stepped}

-- what the walk keeps at a place: for each row the last pair is a span of which it keeps what is to be kept, or a later one
pub record Walked (s : List ℕ) (rows : List (Option Kept)) (at : ℕ) : Type 0 where
  pub size : length rows ≡ suc (length keys)
  pub so_far : ℕ → Option Span
  pub kept_so : (k : ℕ) → k < length keys → get_or rows k None ≡ kept_at s (row_at k).form (so_far k)
  pub same : (k : ℕ) → k < length keys → last_pair s (row_at k).name ≡ last_in s (row_at k).name (so_far k) (pairs_from s at)

module _ (s : List ℕ) where
  -- rows of nothing
  pub walked_none : {rows : List (Option Kept)} → rows ≡ replicate (suc (length keys)) None → Walked s rows 0
  unfolding last_pair kept_at
  walked_none {rows} e =
      record {
        size = ap length e ∙ length-replicate (suc (length keys)) None;
        so_far = λ k. None;
        kept_so = λ k h. rw e (get_or-replicate (suc (length keys)) k None None (omega arith));
        same = λ k h. refl;
      }

  -- where no pair starts, nothing is to come that did not come from before
  pub walked_skips : {rows : List (Option Kept)} {a b : ℕ} → a ≤ b → ((k : ℕ) → a ≤ k → k < b → pair_at s k ≡ None) → Walked s rows a → Walked s rows b
  walked_skips {rows} {a} {b} h f w =
      record {
        size = w.size;
        so_far = w.so_far;
        kept_so = w.kept_so;
        same =
            λ k l. w.same k l
            ∙ ap (last_in s (row_at k).name (w.so_far k)) (pairs_same s a b (next_skips s a b h f));
      }

  -- no pair starts at a byte that is none of a word
  no_word_misses : (k : ℕ) → is_word (get_or s k 0) ≡ false → pair_at s k ≡ None
  unfolding pair_at
  no_word_misses k n = by_order k (length s) (λ h. empty (run_stop is_word s h n)) (λ h. empty (run_over is_word s (omega arith))) (λ h. empty (run_over is_word s (omega arith)))
    where
      empty : run_end is_word s k ≡ k → pair_with s k (run_end is_word s k) ≡ None
      empty q = try_empty s k (run_end is_word s k) (omega arith)

  pub walked_words : {rows : List (Option Kept)} {a b : ℕ} → a ≤ b → Free (λ (k : ℕ). is_word (get_or s k 0)) a b → Walked s rows a → Walked s rows b
  walked_words h f w = walked_skips h (λ k a b. no_word_misses k (f k a b)) w

  module _ {rows : List (Option Kept)} {i m e : ℕ} {key : Key} (w : Walked s rows i) (q : next_pair s i ≡ hit i m e) (named : key ≡ key_named (part s i m)) where
    -- the span of the pair for its own row, and of every other row what it was
    now_kept : Bool → ℕ → Option Span
    now_kept true k = span (m + 1) e
    now_kept false k = w.so_far k

    is_row : (k : ℕ) → eqb key.row k ≡ eqb (key_named (part s i m)).row k
    is_row k = ap (λ (x : Key). eqb x.row k) named

    kept_here : Option Kept
    kept_here = kept_in key.form s (m + 1) e

    pub walked_next : Walked s (set rows key.row (kept_in key.form s (m + 1) e)) e
    unfolding kept_at now_kept kept_here
    walked_next =
        record {
          size = length-set rows key.row kept_here ∙ w.size;
          so_far = λ k. now_kept (eqb key.row k) k;
          kept_so = λ k h. keeps k h (eqb key.row k) refl;
          same = λ k h. w.same k h ∙ goes_on k h (eqb key.row k) refl;
        }
      where
        keeps : (k : ℕ) → k < length keys → (b : Bool) → eqb key.row k ≡ b →
            get_or (set rows key.row kept_here) k None ≡ kept_at s (row_at k).form (now_kept b k)
        keeps k h true t =
            let here : key.row ≡ k = eqb-true key.row k t in
            let row : (key_named (part s i m)).row ≡ k = ap (λ (x : Key). x.row) (sym named) ∙ here in
            let form : key.form ≡ (row_at k).form = ap (λ (x : Key). x.form) named ∙ key_form (part s i m) k h row in
            rw (
              here,
              get_or-set_same rows k kept_here None (omega (arith, w.size, h)),
            )
            (ap (λ (f : Form). kept_in f s (m + 1) e) form)
        keeps k h false t =
            let other : k ≡ key.row → ⊥ = λ x. eqb-false key.row k t (sym x) in
            rw (get_or-set_other rows key.row k kept_here None other)
            (w.kept_so k h)

        goes_on : (k : ℕ) → k < length keys → (b : Bool) → eqb key.row k ≡ b →
            last_in s (row_at k).name (w.so_far k) (pairs_from s i) ≡ last_in s (row_at k).name (now_kept b k) (pairs_from s e)
        goes_on k h true t =
            last_takes s (row_at k).name (w.so_far k) i q (key_same (part s i m) k h ∙ sym (is_row k) ∙ t)
        goes_on k h false t =
            last_passes s (row_at k).name (w.so_far k) i q (key_same (part s i m) k h ∙ sym (is_row k) ∙ t)

  -- one step, whichever way it went
  pub walked_steps : {rows rows-after : List (Option Kept)} {i r : ℕ} → i < length s → i < r → Stepped s i rows rows-after r → Walked s rows i → Walked s rows-after r
  walked_steps {i = i} {r = r} in-text on (Stepped.passed f e) w = rw e (walked_skips {a = i} {b = r} (omega arith) f w)
  walked_steps {i = i} {r = r} in-text on (Stepped.took m q {key} named e) w = rw e (walked_next w (next_hits s i in-text q) named)

  -- there is a place for every key
  pub row_fits : (i m : ℕ) {key : Key} → key ≡ key_named (part s i m) → key.row < suc (length keys)
  row_fits i m named = omega (arith, ap (λ (x : Key). x.row) named, key_within (part s i m))

  -- what is kept at the end is what is to be kept of the last pair
  pub walked_ends : {last : LastPairs} {at : ℕ} → Walked s last.rows at → length s ≤ at → LastKept s last
  unfolding kept_of
  walked_ends {last} {at} w l =
      record {
        size = w.size;
        each =
            λ k h. w.kept_so k h
            ∙ ap (kept_at s (row_at k).form) (sym (w.same k h ∙ last_end s (row_at k).name (w.so_far k) at (next_ends s l)));
      }
