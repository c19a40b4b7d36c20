-- A filter, unit by unit: what each puts out by the counts before it, and the counts after it.
use Rattle.std.specs.Prelude.{ℕ, min, ◌+◌, ◌-◌, ◌^◌, List, [], ◌∷◌, ◌++◌}
use Rattle.text.specs.Told.{Told}
use Rattle.entry.specs.declared.Entry.{Entry}
use Rattle.listing_rows.specs.Rows.{totals_row}
use Rattle.filters.specs.declared.Filter.{Filter}
use Rattle.filters.specs.declared.Filter.TheVariants as F
use Rattle.filters.specs.declared.Counts.{Counts}
use Rattle.filters.specs.Seen.{Seen}
use Rattle.filters.specs.Seen as S
use Rattle.filters.specs.Texts.{answer_by, seen_by, row_of, record_by, told_by}

-- one more, in 64 bits
unfoldable pub one_more : ℕ → ℕ
one_more n = min (n + 1) (2 ^ 64 - 1)

-- the counts with one unit more, as it is seen; where none ended they stay
unfoldable pub counted : Counts → Seen → Counts
counted c (S.Entry kind dwords) = record { units = one_more c.units; entries = one_more c.entries }
counted c (S.Refused k) = record { units = one_more c.units; entries = c.entries }
counted c S.Nothing = c

-- what a unit puts out, by its answer
unfoldable pub out_by : Filter → Counts → List ℕ → Told Entry → List ℕ
out_by F.Listing c u told = row_of (one_more c.units) (seen_by told)
out_by (F.Pack pieces) c u told = record_by u told
out_by (F.Unpack pieces) c u told = row_of (one_more c.units) (seen_by told)

-- and what is told of it
unfoldable pub tell_by : Filter → Counts → Told Entry → List ℕ
tell_by F.Listing c told = []
tell_by (F.Pack pieces) c told = told_by (one_more c.units) (seen_by told)
tell_by (F.Unpack pieces) c told = []

unfoldable pub out_text : Filter → Counts → List ℕ → List ℕ
out_text f c u = out_by f c u (answer_by f u)

unfoldable pub told_text : Filter → Counts → List ℕ → List ℕ
told_text f c u = tell_by f c (answer_by f u)

-- the counts after it
unfoldable pub next_counts : Filter → Counts → List ℕ → Counts
next_counts f c u = counted c (seen_by (answer_by f u))

-- what the end puts out
unfoldable pub last_out : Filter → Counts → List ℕ
last_out F.Listing c = totals_row c.units c.entries
last_out (F.Pack pieces) c = []
last_out (F.Unpack pieces) c = totals_row c.units c.entries

-- and what it tells
unfoldable pub last_told : Filter → Counts → List ℕ
last_told F.Listing c = []
last_told (F.Pack pieces) c = totals_row c.units c.entries
last_told (F.Unpack pieces) c = []

module _ {S : Type 0} (next : S → List ℕ → S) where
  -- what is kept after units
  unfoldable pub after : S → List (List ℕ) → S
  after c [] = c
  after c (u ∷ us) = after (next c u) us

  -- the texts of units, one behind the other
  unfoldable pub texts : (S → List ℕ → List ℕ) → S → List (List ℕ) → List ℕ
  texts text c [] = []
  texts text c (u ∷ us) = text c u ++ texts text (next c u) us
