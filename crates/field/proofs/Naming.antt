-- A name is handed out as the book's own bytes, so where it lies and how many bytes it has is the span that holds it. Assumes nothing.
use Prim.Native.Nat.{ℕ, ◌+◌, ◌-◌, ◌≤◌}
use mathlib.Core.Path.{◌≡◌, refl, sym, ap, ap₂, subst, ◌∙◌}
use mathlib.Core.List.{List, [], ◌∷◌}
use native.Mathlib.Omega.{arith}
use borrow.Author.Tests.{eq-eqb, ne_eqb}
use lib.ListN.{length, get_or, take, drop}
use Rattle.text.specs.Part.{Slice, or_start}
use Rattle.text.proofs.OwnParts.{some_place}
use Rattle.tlv.proofs.Places.{between_is}
use Rattle.book.specs.Finders.{name_place, OwnName}
use Rattle.packet.specs.Field.{name_in}
use Rattle.field.specs.declared.Span.{Span}
use Rattle.field.specs.Names.{span_of, Names}

module _ {book part : Slice} (place : ℕ) (own : OwnName book place (name_in book.now place) part) where
  -- the span holds the name
  names : Names book.now place (span_of book.now place)
  unfolding span_of
  names =
      let from : ℕ = or_start (name_place book.now place) (name_in book.now place) in
      let count : ℕ = length (name_in book.now place) in
      let size : from + count - from ≡ count = omega arith in
      record {
        is = refl;
        holds = between_is book.now from (from + count) ∙ ap (λ (n : ℕ). take n (drop from book.now)) size ∙ own.own;
      }

  named : {at : ℕ} → at ≡ or_start (name_place book.now place) (name_in book.now place) → Names book.now place (record { at = at; len = length part.now })
  unfolding span_of
  named {at} here =
      let is : ◌≡◌ {A = Span} (record { at = at; len = length part.now }) (span_of book.now place) =
      ap₂ (λ (a n : ℕ). record { at = a; len = n }) here (ap length own.is) in
      subst (Names book.now place) (sym is) names

  -- no name: at 0 with no byte
  pub no_name : length part.now ≡ 0 → Names book.now place (record { at = 0; len = 0 })
  unfolding or_start
  no_name none = subst (λ (n : ℕ). Names book.now place (record { at = 0; len = n })) none (named (by (name_in book.now place) (ap length (sym own.is) ∙ none)))
    where
      by : (l : List ℕ) → length l ≡ 0 → 0 ≡ or_start (name_place book.now place) l
      by [] n = refl
      by (b ∷ l) n = absurd (omega (arith, n))

  module _ (some : length part.now ≡ 0 → ⊥) (tag : ℕ) (tag_is : tag ≡ get_or book.now place 0) where
    here : name_place book.now place ≡ or_start (name_place book.now place) (name_in book.now place)
    here = some_place (name_place book.now place) (name_in book.now place) (omega (arith, ap length own.is, some))

    -- a value's name
    module _ (seven : tag ≡ 7) where
      behind-number : place + 7 ≡ name_place book.now place
      behind-number = rw (eq-eqb (get_or book.now place 0) 7 (sym tag_is ∙ seven))

      pub value-fits : place + 7 ≤ length book.now
      value-fits = omega (arith, behind-number, here, own.within)

      pub value-named : Names book.now place (record { at = place + 7; len = length part.now })
      value-named = named (behind-number ∙ here)

    -- an entry's or a bit range's
    module _ (other : tag ≡ 7 → ⊥) where
      behind_head : place + 8 ≡ name_place book.now place
      behind_head = rw (ne_eqb (get_or book.now place 0) 7 (λ e. other (tag_is ∙ e)))

      pub other_fits : place + 8 ≤ length book.now
      other_fits = omega (arith, behind_head, here, own.within)

      pub other-named : Names book.now place (record { at = place + 8; len = length part.now })
      other-named = named (behind_head ∙ here)
