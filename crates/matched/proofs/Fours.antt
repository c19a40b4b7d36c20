-- `has` and `without` of the list speak of the first request that is the four: by induction over the list.
-- Assumes nothing.
use Prim.Native.Nat.{ℕ, zero, suc, ◌<◌}
use native.Mathlib.Omega.{arith}
use mathlib.Core.Path.{◌≡◌, refl}
use mathlib.Core.Bool.{Bool, true, false}
use mathlib.Core.List.{List, [], ◌∷◌, ◌++◌}
use lib.ListN.{length, take, drop}
use Rattle.slots.specs.declared.Four.{Four}
use Rattle.slots.specs.Look.{same_four}
use Rattle.pending.proofs.Fours.{one_four, same_four_lem}
use Rattle.matched.specs.Requests.{has, without}
use Rattle.matched.specs.Holds.{request_at}

pub other_four : (a b : Four) → (a ≡ b → ⊥) → same_four a b ≡ false
other_four a b n = by (same_four a b) refl
  where
    by : (y : Bool) → same_four a b ≡ y → same_four a b ≡ false
    by true e = absurd (n (one_four a b e))
    by false e = e

-- the first request that has the four stands at m
pub record FirstAt (four : Four) (l : List Four) (m : ℕ) : Type 0 where
  pub inside : m < length l
  pub here : request_at l m ≡ four
  pub before : (j : ℕ) → j < m → request_at l j ≡ four → ⊥

pub has_at : (four : Four) (l : List Four) (m : ℕ) → FirstAt four l m → has four l ≡ true
unfolding has
has_at four [] m f = absurd (let h = f.inside in omega arith)
has_at four (x ∷ l) zero f = rw (same_four_lem x four f.here)
has_at four (x ∷ l) (suc m) f =
    let h = f.inside in
    let d = other_four x four (f.before 0 (omega arith)) in
    rw d (has_at four l m (record { inside = omega arith; here = f.here; before = λ j g. f.before (suc j) (omega arith) }))

pub without_at : (four : Four) (l : List Four) (m : ℕ) → FirstAt four l m → without four l ≡ take m l ++ drop (suc m) l
unfolding without
without_at four [] m f = absurd (let h = f.inside in omega arith)
without_at four (x ∷ l) zero f = rw (same_four_lem x four f.here)
without_at four (x ∷ l) (suc m) f =
    let h = f.inside in
    let d = other_four x four (f.before 0 (omega arith)) in
    let r = without_at four l m (record { inside = omega arith; here = f.here; before = λ j g. f.before (suc j) (omega arith) }) in rw (d, r)

pub has_none : (four : Four) (l : List Four) → ((j : ℕ) → j < length l → request_at l j ≡ four → ⊥) → has four l ≡ false
unfolding has
has_none four [] b = refl
has_none four (x ∷ l) b =
    let d = other_four x four (b 0 (omega arith)) in let r = has_none four l (λ j g. b (suc j) (omega arith)) in rw (d, r)

pub without_none : (four : Four) (l : List Four) → ((j : ℕ) → j < length l → request_at l j ≡ four → ⊥) → without four l ≡ l
unfolding without
without_none four [] b = refl
without_none four (x ∷ l) b =
    let d = other_four x four (b 0 (omega arith)) in let r = without_none four l (λ j g. b (suc j) (omega arith)) in rw (d, r)
