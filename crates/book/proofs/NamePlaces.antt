-- Where a name lies: behind what the tag of the field that has it says stands before it. Assumes nothing.
use Prim.Native.Nat.{ℕ, ◌+◌}
use mathlib.Core.Path.{◌≡◌, sym, ◌∙◌}
use mathlib.Core.List.{List}
use native.Mathlib.Omega.{arith}
use borrow.Author.Tests.{eq-eqb, ne_eqb}
use lib.ListN.{get_or}
use Rattle.tlv.proofs.Fields.{Found}
use Rattle.book.specs.Finders.{name_place}

module _ (s : List ℕ) (at : ℕ) {tag from to : ℕ} (f : Found s at tag from to) where
  -- a value's name: behind its number
  pub value_place : tag ≡ 7 → from + 4 ≡ name_place s at
  value_place seven = rw (eq-eqb (get_or s at 0) 7 (sym f.tag_is ∙ seven)) (omega (arith, f.from_is))

  -- an entry's or a bit range's: behind offset or bits, and behind its own tag and length
  pub other_place : (tag ≡ 7 → ⊥) → from + 2 + 3 ≡ name_place s at
  other_place other = rw (ne_eqb (get_or s at 0) 7 (λ e. other (f.tag_is ∙ e))) (omega (arith, f.from_is))
