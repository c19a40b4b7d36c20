-- Zeros, and what filling them is. Assumes nothing.
use Prim.Native.Nat.{ℕ, zero, suc, ◌-◌, ◌≤◌, ◌<◌}
use mathlib.Core.Path.{◌≡◌, refl, ap, ap₂, subst, ◌∙◌}
use mathlib.Core.Bool.{Bool, true, false}
use mathlib.Core.List.{List, [], ◌∷◌}
use native.Mathlib.Omega.{arith}
use borrow.Author.Tests.{ltb-true, ltb-false}
use lib.Dec.{ltb}
use lib.ListN.{length, get_or, replicate}
use Rattle.packet.specs.Steps.{map_from}
use Rattle.packet.specs.Field.{or_else}

-- all are zeros
zeros : (l : List ℕ) → ((k : ℕ) → k < length l → get_or l k 0 ≡ 0) → l ≡ replicate (length l) 0
zeros [] h = refl
zeros (x ∷ l) h = ap₂ ◌∷◌ (h 0 (omega arith)) (zeros l (λ k lt. h (suc k) (omega (arith, lt))))

-- as `fill` leaves them
pub zeros_by : (l m : List ℕ) → length l ≡ length m
    → ((k d : ℕ) → 0 ≤ k → k < length m - 1 → get_or l k d ≡ 0) → (0 < length m → (d : ℕ) → get_or l (length m - 1) d ≡ 0)
    → l ≡ replicate (length m) 0
zeros_by l m n before last = zeros l each ∙ ap (λ (k : ℕ). replicate k 0) n
  where
    each : (k : ℕ) → k < length l → get_or l k 0 ≡ 0
    each k lt = by (ltb k (length m - 1)) refl
      where
        by : (b : Bool) → ltb k (length m - 1) ≡ b → get_or l k 0 ≡ 0
        by true e = before k 0 (omega arith) (ltb-true k (length m - 1) e)
        by false e =
            let at : length m - 1 ≡ k = omega (arith, ltb-false k (length m - 1) e, lt, n) in
            subst (λ (j : ℕ). get_or l j 0 ≡ 0) at (last (omega (arith, lt, n)) 0)

-- filling zeros is taking what there is
pub filled_zeros : (e : ℕ → ℕ) (i n : ℕ) (ds : List ℕ) → n ≡ length ds → map_from (λ i p. or_else p (e i)) i (replicate n 0) ≡ map_from (λ i d. e i) i ds
unfolding map_from
filled_zeros e i zero [] h = refl
filled_zeros e i zero (d ∷ ds) h = absurd (omega arith)
filled_zeros e i (suc n) [] h = absurd (omega arith)
filled_zeros e i (suc n) (d ∷ ds) h = ap (◌∷◌ (e i)) (filled_zeros e (suc i) n ds (omega arith))
