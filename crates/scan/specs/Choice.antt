-- Strict and lenient side by side, over the contract of `parse`: where no piece is bad they are the same, and where one is, 18 is all that strict adds.
use Rattle.refusal.specs.declared.Refusal.{Refusal}
use Rattle.refusal.specs.Number.{number_of}
use Rattle.std.specs.Prelude.{ℕ, ◌≤◌, ◌≡◌, List, ◌↔◌, length, Err, Ok, Result}
use Rattle.entry.specs.declared.Entry.{Entry}
use Rattle.entry.specs.Entry.{EntryValue}
use Rattle.scan.specs.declared.Pieces.TheVariants.{Strict, Lenient}
use Rattle.scan.specs.Parse.{Parsed}
use Rattle.scan.specs.Line.{BadPiece, Line, Has}

-- two calls on one line with the same slots: what each answered and left in the slots
pub record BothCalls (t out : List ℕ) (strict : Result Entry Refusal) (left : List ℕ) (lenient : Result Entry Refusal) (left' : List ℕ) : Type 0 where
  pub strict_call : Parsed Strict t out left strict
  pub lenient_call : Parsed Lenient t out left' lenient

-- an answer that comes behind 15: the line is accepted, or refused for its number of dwords
pub data Behind15 : Result Entry Refusal → Type 0 where
  accepted : (e : Entry) → Behind15 (Ok e)
  many_dwords : Behind15 (Err Refusal.ManyDwords)
  few_slots : Behind15 (Err Refusal.FewSlots)

-- what the choice changes
pub record StrictAndLenient : Type 0 where
  -- where no piece is bad, both give the same answer, entry or number, and leave the slots the same
  pub same_without_bad : (t out : List ℕ) (strict : Result Entry Refusal) (left : List ℕ) (lenient : Result Entry Refusal) (left' : List ℕ) → BothCalls t out strict left lenient left'
      → (Has t BadPiece → ⊥) → (strict ≡ lenient) × (left ≡ left')
  -- strict says 18 exactly where a piece is bad and lenient accepts or says 16 or 17
  pub eighteen_exactly : (t out : List ℕ) (strict : Result Entry Refusal) (left : List ℕ) (lenient : Result Entry Refusal) (left' : List ℕ) → BothCalls t out strict left lenient left'
      → (strict ≡ Err Refusal.BadPiece) ↔ (Has t BadPiece × Behind15 lenient)
  -- any other number of strict is lenient's too
  pub other_numbers : (t out : List ℕ) (strict : Result Entry Refusal) (left : List ℕ) (lenient : Result Entry Refusal) (left' : List ℕ) → BothCalls t out strict left lenient left'
      → (e : Refusal) → strict ≡ Err e → (e ≡ Refusal.BadPiece → ⊥) → lenient ≡ Err e
  -- 1 to 15 of lenient are strict's too
  pub first_numbers : (t out : List ℕ) (strict : Result Entry Refusal) (left : List ℕ) (lenient : Result Entry Refusal) (left' : List ℕ) → BothCalls t out strict left lenient left'
      → (e : Refusal) → number_of e ≤ 15 → lenient ≡ Err e → strict ≡ Err e
  -- lenient never says 18
  pub lenient_never_18 : (t out left : List ℕ) → Parsed Lenient t out left (Err Refusal.BadPiece) → ⊥
  -- what strict accepts lenient accepts, as the same entry with the same dwords
  pub accepted_by_both : (t out : List ℕ) (strict : Result Entry Refusal) (left : List ℕ) (lenient : Result Entry Refusal) (left' : List ℕ) → BothCalls t out strict left lenient left'
      → (e : Entry) → strict ≡ Ok e → (lenient ≡ Ok e) × (left ≡ left')
  -- the strict grammar is the lenient one without the lines that have a bad piece
  pub grammar : (t : List ℕ) (v : EntryValue) → Line Strict t v ↔ (Line Lenient t v × (Has t BadPiece → ⊥))
  -- a strict line has a dword or more: brackets hold a piece, and none is left out
  pub some_dword : (t : List ℕ) (v : EntryValue) → Line Strict t v → 1 ≤ length v.dwords
