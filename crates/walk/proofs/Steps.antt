-- One step of the walk: a try from a word byte that fails fails from every byte of its word run, and one that does not is a pair. Assumes nothing.
use Rattle.std.specs.Prelude.{None, Option, Some}
use Rattle.std.proofs.lemmas.Option.{none-some, same_Some}
use Prim.Native.Nat.{ℕ, suc, ◌+◌, ◌≤◌, ◌<◌}
use mathlib.Core.Path.{◌≡◌, refl, sym, ap, ◌∙◌}
use mathlib.Core.Bool.{true, false}
use mathlib.Core.List.{List}
use native.Mathlib.Omega.{arith}
use lib.ListN.{length, get_or, set}
use Rattle.text.specs.Class.{is_word}
use Rattle.text.specs.Run.{run_end}
use Rattle.text.proofs.Places.{by_order, clash}
use Rattle.text.proofs.Runs.{run_is}
use Rattle.pairs.specs.declared.keys.Form.{Form}
use Rattle.pairs.specs.Pair.{value_end, pair_with, pair_at}
use Rattle.pairs.specs.Table.{keys}
use Rattle.pairs.proofs.Tries.{value_is, value_up, value_within, try-unequal, try-hits, try-misses, miss_within}
use Rattle.walk.specs.declared.start.Start.{Start}
use Rattle.walk.specs.declared.value.Kept.{Kept}
use Rattle.walk.specs.declared.value.Value.{Value}
use Rattle.walk.specs.Start.{Started}
use Rattle.walk.specs.Kept.{kept_in, value_of, Stepped, Step}

-- what the answer of a value tells
module _ (s : List ℕ) (form : Form) (v : ℕ) where
  pub value_missing : {r : Option Value} → r ≡ value_of s form v (value_end s v) → r ≡ None → value_end s v ≡ None
  unfolding value_of
  value_missing is none = go (value_end s v) (sym is ∙ none)
    where
      go : (f : Option ℕ) → value_of s form v f ≡ None → f ≡ None
      go (Some e) q = absurd (none-some _ (sym q))
      go None q = refl

  pub value_there : {r : Option Value} {value : Value} → r ≡ value_of s form v (value_end s v) → r ≡ Some value
      → (value_end s v ≡ Some value.end) × (value.kept ≡ kept_in form s v value.end)
  unfolding value_of
  value_there {value = value} is some = go (value_end s v) (sym is ∙ some)
    where
      go : (f : Option ℕ) → value_of s form v f ≡ Some value → (f ≡ Some value.end) × (value.kept ≡ kept_in form s v value.end)
      go (Some e) q =
          let same = same_Some _ _ q in
          let end : e ≡ value.end = ap (λ (x : Value). x.end) same in
          (ap Some end, sym (ap (λ (x : Value). x.kept) same) ∙ ap (kept_in form s v) end)
      go None q = absurd (none-some _ q)

module _ (s : List ℕ) (i : ℕ) {start : Start} (b : Started s i start) (in-text : i < length s) (word : is_word (get_or s i 0) ≡ true) where
  -- the word run is not empty and ends within the text
  run_in : start.end ≤ length s
  run_in = omega (arith, b.ends.within)

  run_some : i < start.end
  run_some =
      by_order i start.end (λ h. h) (λ e. absurd (clash word (stops e))) (λ h. absurd (omega (arith, b.ends.up)))
    where
      stops : i ≡ start.end → is_word (get_or s i 0) ≡ false
      stops e =
          let r = run_is is_word s {i = i} (omega arith) in
          let q : run_end is_word s i ≡ i = sym b.ends.is ∙ sym e in
          rw q at (r.stops (rw q in-text))

  -- behind the word run a step passes over it
  pub step_on : i < start.end + 1
  step_on = omega (arith, run_some)

  pub step_in : start.end + 1 ≤ suc (length s)
  step_in = omega (arith, run_in)

  passes : {rows : List (Option Kept)} → pair_with s i start.end ≡ None → Step s i rows rows (start.end + 1)
  passes q =
      record {
        on = step_on;
        within = step_in;
        stepped =
            Stepped.passed (λ k l h. miss_within s i start.end (omega arith) b.ends.is q k l (omega arith)) refl;
      }

  pub step_keyless : {rows : List (Option Kept)} → start.row ≡ suc (length keys) → Step s i rows rows (start.end + 1)
  step_keyless e = passes (try-unequal s i start.end run_some (b.no_key e))

  module _ (keyed : start.row ≡ suc (length keys) → ⊥) where
    row_in : start.row < suc (length keys)
    row_in = by_order start.row (suc (length keys)) (λ h. h) (λ e. absurd (keyed e)) (λ h. absurd (omega (arith, b.fits)))

    -- there is a place for the key
    pub step_fits : start.row < suc (length keys)
    step_fits = row_in

    pub value_from : start.end + 1 ≤ length s
    value_from = by_order start.end (length s) (λ h. omega arith) (λ h. absurd (past (omega arith))) (λ h. absurd (past (omega arith)))
      where
        past : length s ≤ start.end → ⊥
        past h = omega (arith, b.sign row_in, lib.ListN.get_or-eq_default s 0 {n = start.end} h)

    pub step_empty : {rows : List (Option Kept)} → value_end s (start.end + 1) ≡ None → Step s i rows rows (start.end + 1)
    step_empty e = passes (try-misses s i start.end run_some (b.sign row_in) e)

    pub step_takes : {rows : List (Option Kept)} {e : ℕ} → value_end s (start.end + 1) ≡ Some e →
        Step s i rows (set rows start.row (kept_in start.form s (start.end + 1) e)) e
    unfolding pair_at
    step_takes {rows} {e} q =
        let value = value_is s (start.end + 1) q in
        let m-is : run_end is_word s i ≡ start.end = sym b.ends.is in
        record {
          on = omega (arith, run_some, value_up s (start.end + 1) value);
          within = omega (arith, value_within s (start.end + 1) value);
          stepped =
              Stepped.took start.end (rw m-is (try-hits s i start.end run_some (b.sign row_in) q))
              {key = record { row = start.row; form = start.form }} (sym (b.named row_in)) refl;
        }
