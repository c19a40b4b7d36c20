-- What is told fixes the answer: an answer that can be got back from what it tells is one that no other answer tells. And the laws of a number that
-- comes first. Assumes nothing.
use Prim.Native.Nat.{ℕ, zero, suc}
use mathlib.Core.Path.{◌≡◌, refl, sym, ap, ◌∙◌}
use mathlib.Core.Logic.{◌⊎◌, inl, inr}
use native.Mathlib.Omega.{arith}
use Rattle.std.specs.Prelude.{None, Option, Some}
use Rattle.text.specs.Told.{Told, is, absent, refused, unless, maybe}

-- an answer by its cases
abbrev pub by_cases : {A B : Type 0} → (A → B) → B → (ℕ → B) → Told A → B
by_cases value none number (is v) = value v
by_cases value none number absent = none
by_cases value none number (refused k) = number k

-- what can be got back from what it tells is fixed by it
pub fixed_by_told : {A B : Type 0} (told : A → B) (back : B → A) → ((a : A) → back (told a) ≡ a) → (a b : A) → told a ≡ told b → a ≡ b
fixed_by_told told back same a b e = sym (same a) ∙ ap back e ∙ same b

-- no second answer: two that tell the same, a value or none, are the same
pub one_maybe : {A : Type 0} (a b : Option A) → maybe a ≡ maybe b → a ≡ b
one_maybe {A} = fixed_by_told maybe (by_cases Some None (λ k. None)) same
  where
    same : (a : Option A) → by_cases Some None (λ k. None) (maybe a) ≡ a
    same (Some a) = refl
    same None = refl

-- ---- a number that comes first

pub number_first : {A : Type 0} (n : ℕ) (told : Told A) → (n ≡ 0 → ⊥) → unless n told ≡ refused n
number_first zero told some = absurd (some refl)
number_first (suc n) told some = refl

-- a value is told where no number comes first
pub value_behind : {A : Type 0} (n : ℕ) (told : Told A) {a : A} → unless n told ≡ is a → (n ≡ 0) × (told ≡ is a)
value_behind zero told e = (refl, e)
value_behind (suc n) told e = absurd (let z : ◌≡◌ {A = ℕ} 0 1 = cc in omega arith)

-- a number is told where it comes first, or where none does and it comes behind
pub number_behind : {A : Type 0} (n : ℕ) (told : Told A) {k : ℕ} → unless n told ≡ refused k
    → ((n ≡ k) × (k ≡ 0 → ⊥)) ⊎ ((n ≡ 0) × (told ≡ refused k))
number_behind zero told e = inr (refl, e)
number_behind (suc n) told {k} e = let same : suc n ≡ k = cc in inl (same, λ z. omega (arith, same, z))
