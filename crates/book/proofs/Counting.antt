-- The fields from a place on, by their number: one field, and those behind it. Assumes nothing.
use Prim.Native.Nat.{ℕ, zero, suc, ◌+◌, ◌-◌}
use mathlib.Core.Path.{◌≡◌, ◌∙◌, ap, refl}
use mathlib.Core.List.{List, []}
use mathlib.Core.Logic.{⊎_elim}
use native.Mathlib.Omega.{arith}
use lib.ListN.{length}
use Rattle.tlv.specs.Reading.{Part, Stands, field_at, parts}
use Rattle.tlv.proofs.Walks.{parts_end, parts_cut, parts_field}
use Rattle.book.specs.Finders.{nth_place}
use Rattle.book.proofs.Steps.{Bare}

module _ (s : List ℕ) where
  -- no field
  pub parts_bare : (at : ℕ) → Bare (field_at s at) → parts s at ≡ []
  parts_bare at h = ⊎_elim (parts_end s at) (parts_cut s at) h

  pub count_bare : (at : ℕ) → Bare (field_at s at) → length (parts s at) ≡ 0
  count_bare at h = ap length (parts_bare at h)

  pub nth_bare : (k at : ℕ) → Bare (field_at s at) → nth_place k (parts s at) ≡ 0
  nth_bare k at h = ap (nth_place k) (parts_bare at h)

  module _ (p : Part) (stands : Stands s p) where
    -- one more than behind it
    pub count_field : length (parts s p.at) ≡ length (parts s p.to) + 1
    count_field = ap length (parts_field s p stands) ∙ omega arith

    -- itself, or one less from behind it on
    pub nth_here : (k : ℕ) → k ≡ 0 → nth_place k (parts s p.at) ≡ p.at
    nth_here zero h = ap (nth_place 0) (parts_field s p stands)
    nth_here (suc k) h = absurd (omega arith)

    pub nth_behind : (k : ℕ) → (k ≡ 0 → ⊥) → nth_place k (parts s p.at) ≡ nth_place (k - 1) (parts s p.to)
    nth_behind zero h = absurd (h refl)
    nth_behind (suc k) h =
        let e : suc k - 1 ≡ k = omega arith in
        ap (nth_place (suc k)) (parts_field s p stands) ∙ rw e
