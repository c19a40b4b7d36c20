-- Tests that are computed once and then used of each number below a bound, or of each name of a table: what one that passes says of any of them. Assumes
-- nothing.
use Prim.Native.Nat.{ℕ, zero, suc, ◌+◌, ◌≤◌, ◌<◌}
use mathlib.Core.Path.{◌≡◌, refl, sym}
use mathlib.Core.Bool.{Bool, true, false, not, ◌&&◌, ◌||◌}
use mathlib.Core.List.{List, [], ◌∷◌}
use native.Mathlib.Omega.{arith}
use borrow.Author.Tests.{not-true}
use Rattle.text.specs.Same.{same_text}
use Rattle.text.proofs.Places.{by_order}
use Rattle.text.proofs.Texts.{both_left, both_right}

-- ---- numbers

-- the test passes for n numbers from b on
unfoldable pub all : (ℕ → Bool) → ℕ → ℕ → Bool
all p zero b = true
all p (suc n) b = p b && all p n (suc b)

pub all_at : (p : ℕ → Bool) (n b : ℕ) → all p n b ≡ true → (k : ℕ) → b ≤ k → k < b + n → p k ≡ true
unfolding all
all_at p zero b t k h l = absurd (omega arith)
all_at p (suc n) b t k h l =
    by_order b k (λ x. all_at p n (suc b) (both_right (p b) _ t) k (omega arith) (omega arith))
    (λ e. rw (← e) (both_left _ _ t))
    (λ x. absurd (omega arith))

-- two tests say the same
unfoldable pub same : Bool → Bool → Bool
same true b = b
same false b = not b

pub same_is : (a b : Bool) → same a b ≡ true → a ≡ b
unfolding same
same_is true b e = sym e
same_is false true e = e
same_is false false e = refl

-- ---- names

-- a name stands in the table
abbrev pub has : List (List ℕ) → List ℕ → Bool
has [] name = false
has (t ∷ ts) name = same_text name t || has ts name

-- no name stands twice
abbrev pub once : List (List ℕ) → Bool
once [] = true
once (t ∷ ts) = not (has ts t) && once ts

-- the first name stands nowhere behind, and none of the others stands twice
pub once_first : (t : List ℕ) (ts : List (List ℕ)) → once (t ∷ ts) ≡ true → (has ts t ≡ false) × (once ts ≡ true)
once_first t ts e = (not-true _ (both_left _ _ e), both_right (not (has ts t)) _ e)
