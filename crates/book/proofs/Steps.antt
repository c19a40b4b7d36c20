-- A field of a given tag at a place, and what is there where no field stands: one case for each answer of `field_at`. Assumes nothing.
use Prim.Native.Nat.{ℕ}
use mathlib.Core.Path.{◌≡◌, refl}
use mathlib.Core.Bool.{cond}
use mathlib.Core.Logic.{◌⊎◌, inl, inr, ⊎_elim}
use native.Mathlib.Omega.{arith}
use borrow.Author.Tests.{eq-eqb, ne_eqb}
use lib.Dec.{eqb}
use Rattle.tlv.specs.declared.Step.{Step}
use Rattle.tlv.specs.declared.Step.TheVariants.{Field, Stray, Overrun, End}
use Rattle.tlv.specs.Reading.{refusal_of}
use Rattle.book.specs.Search.{at_field, of_tag}

-- no field stands at a place: the text ends there, or a field runs past its end
abbrev pub Bare : Step → Type 0
Bare r = (r ≡ End) ⊎ (refusal_of r ≡ 31)

-- what a match on the answer says where it is no field
pub bare : (r : Step) → ((t from to : ℕ) → r ≡ Field t from to → ⊥) → Bare r
bare (Field t from to) h = absurd (h t from to refl)
bare Stray h = inr refl
bare Overrun h = inr refl
bare End h = inl refl

module _ {A : Type 0} (tag : ℕ) (told : ℕ → ℕ → A) (other : A) {r : Step} where
  -- a field of that tag
  pub tag_told : {t from to : ℕ} → r ≡ Field t from to → t ≡ tag → of_tag tag told other r ≡ told from to
  tag_told {t} {from} {to} e h = rw (e, eq-eqb t tag h)

  -- a field of another tag
  pub tag_other : {t from to : ℕ} → r ≡ Field t from to → (t ≡ tag → ⊥) → of_tag tag told other r ≡ other
  tag_other {t} {from} {to} e h = rw (e, ne_eqb t tag h)

-- where no field stands
pub field_bare : {A : Type 0} (told : ℕ → ℕ → ℕ → A) (other : A) (r : Step) → Bare r → at_field told other r ≡ other
field_bare told other (Field t from to) h =
    absurd (⊎_elim (λ (k : Field t from to ≡ End). let z : ◌≡◌ {A = ℕ} 0 1 = cc in omega arith) (λ k. omega arith) h)
field_bare told other Stray h = refl
field_bare told other Overrun h = refl
field_bare told other End h = refl

pub tag_bare : {A : Type 0} (tag : ℕ) (told : ℕ → ℕ → A) (other : A) (r : Step) → Bare r → of_tag tag told other r ≡ other
tag_bare tag told other r h = field_bare (λ t from to. cond (eqb t tag) (told from to) other) other r h
