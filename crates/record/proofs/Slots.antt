-- Dwords written one by one are dwords written over the first slots: what is still to be written shortens as the place moves on. Assumes nothing.
use Prim.Native.Nat.{ℕ, zero, suc, ◌+◌, ◌-◌, ◌*◌, ◌≤◌, ◌<◌}
use mathlib.Core.Path.{◌≡◌, ◌∙◌, sym, ap, refl}
use mathlib.Core.List.{List, ◌++◌}
use native.Mathlib.Numerals.{add-one}
use native.Mathlib.Nat.{sub-zero, zero-add}
use native.Mathlib.Omega.{arith}
use lib.ListN.{length, drop, set, length-set}
use lib.Seq.{sets, sets-eq}
use Rattle.tlv.specs.Number.{number}
use Rattle.record.specs.Reading.{over, dwords_at}

-- what a run of stores from the first place on leaves
pub sets_over : (new l : List ℕ) → length new ≤ length l → sets l 0 new ≡ over new l
sets_over new l h = sets-eq new l 0 (rw zero-add h) ∙ ap (λ (k : ℕ). new ++ drop k l) (zero-add (length new))

pub dwords_length : (t : List ℕ) (from n : ℕ) → length (dwords_at t from n) ≡ n
unfolding dwords_at
dwords_length t from zero = refl
dwords_length t from (suc n) = ap suc (dwords_length t (from + 4) n)

module _ (t : List ℕ) (from n : ℕ) (found : List ℕ) where
  -- i dwords are written
  pub record Copied (slots : List ℕ) (i : ℕ) : Type 0 where
    pub within : i ≤ n
    pub size : length slots ≡ length found
    pub same : sets found 0 (dwords_at t from n) ≡ sets slots i (dwords_at t (from + 4 * i) (n - i))

  from_here : from + 4 * 0 ≡ from
  from_here = omega arith

  pub copying_starts : Copied found 0
  copying_starts = record { within = omega arith; size = refl; same = rw (from_here, sub-zero n) }

  pub copying_steps : {slots : List ℕ} {i : ℕ} → Copied slots i → i < n → {d : ℕ} → d ≡ number 4 t (from + 4 * i) → Copied (set slots i d) (i + 1)
  unfolding dwords_at
  copying_steps {slots} {i} c h {d} e =
      let left : n - i ≡ suc (n - (i + 1)) = omega arith in
      let next : from + 4 * i + 4 ≡ from + 4 * (i + 1) = omega arith in
      record {
        within = omega arith;
        size = length-set slots i d ∙ c.size;
        same = c.same ∙ rw (left, e, next) (ap (λ (k : ℕ). sets (set slots i (number 4 t (from + 4 * i))) k (dwords_at t (from + 4 * (i + 1)) (n - (i + 1)))) (sym (add-one i)));
      }

  pub copying_ends : {slots : List ℕ} {i : ℕ} → Copied slots i → n ≤ i → n ≤ length found → slots ≡ over (dwords_at t from n) found
  unfolding dwords_at
  copying_ends {slots} {i} c h room =
      let none : n - i ≡ 0 = omega arith in
      sym (c.same ∙ rw none) ∙ sets_over (dwords_at t from n) found (rw (dwords_length t from n) room)
