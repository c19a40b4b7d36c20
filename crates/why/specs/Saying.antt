-- What was said and counted: a row for each unreadable number, one behind the other.
use Rattle.std.specs.Prelude.{ℕ, ◌≡◌, List, [], ◌∷◌}
use Rattle.text.specs.Told.{Told, is, absent, refused}
use Rattle.channel.specs.declared.sink.Outlet.{Outlet}
use Rattle.channel.specs.Sink.{SaidThrough}
use Rattle.reasons.specs.declared.payload.Place.{Place}
use Rattle.reasons.specs.Reasons.{payload_place}
use Rattle.why_rows.specs.declared.tally.Counts.{Counts}
use Rattle.why_rows.specs.Rows.{row_text, totals_text}
use Rattle.why_rows.specs.Tally.{up, with_line, with_payload, tally}
use Rattle.why.specs.declared.asking.Asking.{Asking}
use Rattle.why.specs.Finding.{Finding, findings}

-- the rows of the unreadable numbers of the line of that number
unfoldable pub rows_of : ℕ → List Finding → List (List ℕ)
rows_of n [] = []
rows_of n (f ∷ fs) = row_text n f.what f.text f.reason ∷ rows_of n fs

-- the counts after them
unfoldable pub tallied : Counts → List Finding → Counts
tallied c [] = c
tallied c (f ∷ fs) = tallied (tally c f.reason) fs

-- the counts after a line, before its numbers are looked at
unfoldable pub line_counts : Counts → Told Place → Counts
line_counts c (is place) = with_payload (with_line c)
line_counts c absent = with_line c
line_counts c (refused k) = with_line c

-- each of these rows was said through the sink, in order, and nothing else
pub data SaidAll (r : Outlet) : Outlet → List (List ℕ) → Type 0 where
  none : {s : Outlet} → r ≡ s → SaidAll r s []
  next : {row : List ℕ} {s m : Outlet} {rows : List (List ℕ)} → SaidThrough s row m → SaidAll r m rows → SaidAll r s (row ∷ rows)

-- the rows of unreadable numbers of the line that was counted last were said, and counted
pub record Gone (d : Asking) (fs : List Finding) (r : Asking) : Type 0 where
  pub says : SaidAll r.sink d.sink (rows_of d.counts.lines fs)
  pub counts : r.counts ≡ tallied d.counts fs

-- the rows of a line's unreadable numbers were said, under the number of the line, and all is counted
pub record LineSaid (t : List ℕ) (d r : Asking) : Type 0 where
  pub says : SaidAll r.sink d.sink (rows_of (up d.counts.lines) (findings t))
  pub counts : r.counts ≡ tallied (line_counts d.counts (payload_place t)) (findings t)

-- the totals were said
pub record TotalsSaid (d r : Asking) : Type 0 where
  pub says : SaidThrough d.sink (totals_text d.counts) r.sink
  pub counts : r.counts ≡ d.counts
