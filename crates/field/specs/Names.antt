-- Where a name stands in the book, so that it can be read there and need not be copied.
-- Assumes nothing.
use Rattle.std.specs.Prelude.{ℕ, ◌+◌, ◌≡◌, List, length}
use Rattle.text.specs.Part.{or_start}
use Rattle.tlv.specs.Reading.{between}
use Rattle.book.specs.Finders.{name_place}
use Rattle.packet.specs.Field.{name_in}
use Rattle.field.specs.declared.Span.{Span}

-- the part of the book that is the name of what stands at a place: where `name_in` hands it out, and at 0 with no byte where there is none
unfoldable pub span_of : List ℕ → ℕ → Span
span_of s place = record { at = or_start (name_place s place) (name_in s place); len = length (name_in s place) }

-- the one span, and what it holds
pub record Names (s : List ℕ) (place : ℕ) (r : Span) : Type 0 where
  pub is : r ≡ span_of s place
  pub holds : between s r.at (r.at + r.len) ≡ name_in s place
