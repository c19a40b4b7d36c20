-- What each filter puts out for the units of a whole input.
-- How to read it: `a ++ b` is a and then b. The units of an input are lines, or lines and records (crates/units/specs/Units.antt has the relation that says so).
use Rattle.std.specs.Prelude.{ℕ, ◌+◌, List, [], ◌∷◌, ◌++◌, length}
use Rattle.listing_rows.specs.Rows.{totals_row}
use Rattle.scan.specs.declared.Pieces.{Pieces}
use Rattle.stream.specs.Answers.{said_of, records_of}
use Rattle.filters.specs.declared.Filter.TheVariants as F
use Rattle.filters.specs.Seen.{Seen}
use Rattle.filters.specs.Texts.{seen_of, row_of, is_entry, told_by}

module _ (see : List ℕ → Seen) where
  -- the rows of units, the first of which stands behind n others
  unfoldable pub rows_from : ℕ → List (List ℕ) → List ℕ
  rows_from n [] = []
  rows_from n (u ∷ us) = row_of (n + 1) (see u) ++ rows_from (n + 1) us

  -- how many of them are entries
  unfoldable pub entries_in : List (List ℕ) → ℕ
  entries_in [] = 0
  entries_in (u ∷ us) = is_entry (see u) + entries_in us

  -- a row for each unit, in their order, then how many there were, and how many were entries
  unfoldable pub listed : List (List ℕ) → List ℕ
  listed us = rows_from 0 us ++ totals_row (length us) (entries_in us)

  -- the rows of those that are refused, the first unit standing behind n others
  unfoldable pub refused_rows : ℕ → List (List ℕ) → List ℕ
  refused_rows n [] = []
  refused_rows n (u ∷ us) = told_by (n + 1) (see u) ++ refused_rows (n + 1) us

-- THE LISTING of an input's lines: read leniently, listed
unfoldable pub listing_of : List (List ℕ) → List ℕ
listing_of us = listed (seen_of F.Listing) us

module _ (pieces : Pieces) where
  -- WHAT `unpack` PUTS OUT for the units of a stream by its choice: each line or record, listed
  unfoldable pub unpacking_of : List (List ℕ) → List ℕ
  unpacking_of us = listed (seen_of (F.Unpack pieces)) us

  -- WHAT `pack` PUTS OUT for them: the records of what they say, one behind the other
  unfoldable pub packing_of : List (List ℕ) → List ℕ
  packing_of us = records_of (said_of pieces us)

  -- and what it tells: the rows of those that are refused, then the totals
  unfoldable pub packing_tells : List (List ℕ) → List ℕ
  packing_tells us = refused_rows (seen_of (F.Pack pieces)) 0 us ++ totals_row (length us) (entries_in (seen_of (F.Pack pieces)) us)
