-- Equal texts: the test passes for a text and itself, and for no other. Assumes nothing.
use Prim.Native.Nat.{ℕ}
use mathlib.Core.Path.{◌≡◌, refl, ap}
use mathlib.Core.Bool.{Bool, true, false, ◌&&◌}
use mathlib.Core.List.{List, [], ◌∷◌}
use native.Mathlib.Omega.{arith}
use lib.Dec.{eqb}
use lib.ListN.{length}
use borrow.Author.Tests.{eq-eqb, eqb-true}
use Rattle.text.specs.Same.{same_text}

-- a conjunction's halves
pub both_left : (a b : Bool) → (a && b) ≡ true → a ≡ true
both_left true b e = refl
both_left false b e = e

pub both_right : (a b : Bool) → (a && b) ≡ true → b ≡ true
both_right true b e = e
both_right false b e = absurd (let z : ◌≡◌ {A = ℕ} 0 1 = cc in omega arith)

pub same_refl : (s : List ℕ) → same_text s s ≡ true
same_refl [] = refl
same_refl (a ∷ s) = rw (eq-eqb a a refl) (same_refl s)

pub same_true : (s t : List ℕ) → same_text s t ≡ true → s ≡ t
same_true [] [] e = refl
same_true [] (b ∷ t) e = absurd (let z : ◌≡◌ {A = ℕ} 0 1 = cc in omega arith)
same_true (a ∷ s) [] e = absurd (let z : ◌≡◌ {A = ℕ} 0 1 = cc in omega arith)
same_true (a ∷ s) (b ∷ t) e =
    let h : a ≡ b = eqb-true a b (both_left _ _ e) in
    let r : s ≡ t = same_true s t (both_right (eqb a b) _ e) in
    cc

-- texts of other lengths differ
pub same_length : (s t : List ℕ) → (length s ≡ length t → ⊥) → same_text s t ≡ false
same_length s t h = go (same_text s t) refl
  where
    go : (b : Bool) → same_text s t ≡ b → b ≡ false
    go true e = absurd (h (ap length (same_true s t e)))
    go false e = refl
