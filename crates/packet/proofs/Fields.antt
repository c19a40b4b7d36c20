-- A place is 0 or it is one: what is found inside it, its name, and which of two places counts. Assumes nothing.
use Rattle.std.specs.Prelude.{IfSome, None, Option, Some}
use Rattle.std.specs.Option.{is_some, unwrap_or}
use Prim.Native.Nat.{ℕ, zero, suc, ◌≤◌, ◌<◌}
use mathlib.Core.Path.{◌≡◌, refl, sym, ap, ◌∙◌}
use mathlib.Core.Bool.{not}
use mathlib.Core.List.{List, [], ◌∷◌}
use native.Mathlib.Omega.{arith}
use borrow.Author.Tests.{ne_eqb}
use lib.Dec.{eqb}
use lib.ListN.{length}
use Rattle.book.specs.Finders.{place_of, Locates, name_of}
use Rattle.packet.specs.Field.{or_else, inside, name_in, some_byte}

module _ (q : ℕ) where
  pub none_else : (p : ℕ) → p ≡ 0 → or_else p q ≡ q
  none_else zero e = refl
  none_else (suc p) e = absurd (omega arith)

  pub some_else : (p : ℕ) → (p ≡ 0 → ⊥) → or_else p q ≡ p
  some_else zero n = absurd (n refl)
  some_else (suc p) n = refl

pub else_same : (p : ℕ) → or_else p p ≡ p
else_same zero = refl
else_same (suc p) = refl

pub else_none : (p : ℕ) → or_else p 0 ≡ p
else_none zero = refl
else_none (suc p) = refl

module _ (find : ℕ → ℕ) where
  pub inside_none : (p : ℕ) → p ≡ 0 → inside find p ≡ 0
  inside_none zero e = refl
  inside_none (suc p) e = absurd (omega arith)

  pub inside_some : (p : ℕ) → (p ≡ 0 → ⊥) → inside find p ≡ find p
  inside_some zero n = absurd (n refl)
  inside_some (suc p) n = refl

module _ (s : List ℕ) where
  pub name_none : (p : ℕ) → p ≡ 0 → name_in s p ≡ []
  name_none zero e = refl
  name_none (suc p) e = absurd (omega arith)

  pub name_some : (p : ℕ) → (p ≡ 0 → ⊥) → name_in s p ≡ name_of s p
  name_some zero n = absurd (n refl)
  name_some (suc p) n = refl

-- a name has a byte, or no length
pub byte_there : (name : List ℕ) → some_byte name ≡ not (eqb (length name) 0)
byte_there [] = refl
byte_there (b ∷ name) = sym (ap not (ne_eqb (length (b ∷ name)) 0 (λ z. omega (arith, z))))

-- ---- what a finder answers

-- something is found just where the place that is told is none's
pub located : {n told : ℕ} (r : Option ℕ) → Locates n told r → is_some r ≡ not (eqb told 0)
located (Some p) l = sym (ap (λ (k : ℕ). not (eqb k 0)) (sym l.is) ∙ rw (ne_eqb p 0 (λ e. omega (arith, l.stands.0, e))))
located None l = ap (λ (k : ℕ). not (eqb k 0)) l.is

-- nothing is found where none is told
pub nothing_told : {n told : ℕ} {r : Option ℕ} → Locates n told r → r ≡ None → told ≡ 0
nothing_told {r = r} l e = sym l.is ∙ ap place_of e

-- what is found is what is told, and it is no 0
pub found_told : {n told p : ℕ} {r : Option ℕ} → Locates n told r → r ≡ Some p → (p ≡ told) × (0 < p)
found_told {n = n} {p = p} {r = r} l e =
    let w : IfSome (Some p) (λ q. (0 < q) × (q ≤ n)) = rw e at l.stands in
    (sym (ap place_of e) ∙ l.is, w.0)

-- 0 for none
pub or_none : (r : Option ℕ) → unwrap_or r 0 ≡ place_of r
or_none (Some p) = refl
or_none None = refl
