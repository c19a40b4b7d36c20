-- One row or record put behind what was put out before.
use Rattle.std.specs.Prelude.{ℕ, ◌+◌, ◌≤◌, ◌≡◌, List, length}
use Rattle.text.specs.Told.{is}
use Rattle.entry.specs.declared.Entry.{Entry}
use Rattle.writer.specs.Writing.{write_of, bytes_of}
use Rattle.listing_rows.specs.Rows.{Put}
use Rattle.filters.specs.declared.Run.{Run}
use Rattle.filters.specs.Seen.{Seen}
use Rattle.filters.specs.Seen as S
use Rattle.filters.specs.Texts.{row_of, told_by}
use Rattle.filters.specs.Filter.{one_more, counted}

-- the row of a unit as it is seen
pub record RowPut (seen : Seen) (out : List ℕ) (run : Run) (out' : List ℕ) (r : Run) : Type 0 where
  pub from_is : r.from ≡ run.from
  pub state_is : r.state ≡ run.state
  pub counts_is : r.counts ≡ counted run.counts seen
  pub told_is : r.told ≡ run.told
  pub put : Put out run.at (row_of (one_more run.counts.units) seen) out' r.at
  pub short : r.at ≤ run.at + 75

-- what is told of a unit that has no record
pub record Told (seen : Seen) (told : List ℕ) (run : Run) (told' : List ℕ) (r : Run) : Type 0 where
  pub from_is : r.from ≡ run.from
  pub state_is : r.state ≡ run.state
  pub counts_is : r.counts ≡ counted run.counts seen
  pub at_is : r.at ≡ run.at
  pub tells : Put told run.told (told_by (one_more run.counts.units) seen) told' r.told
  pub short : r.told ≤ run.told + 75

-- an entry has a record, which 5,227 bytes hold
pub record Recorded (text : List ℕ) (e : Entry) (dwords : List ℕ) : Type 0 where
  pub short : length (bytes_of text e dwords) ≤ 5227
  pub written : (room : ℕ) → 5227 ≤ room → write_of text e dwords room ≡ is (length (bytes_of text e dwords))

-- it is put
pub record RecordPut (text : List ℕ) (e : Entry) (dwords out : List ℕ) (run : Run) (out' : List ℕ) (r : Run) : Type 0 where
  pub from_is : r.from ≡ run.from
  pub state_is : r.state ≡ run.state
  pub counts_is : r.counts ≡ counted run.counts (S.Entry e.kind e.dwords)
  pub told_is : r.told ≡ run.told
  pub put : Put out run.at (bytes_of text e dwords) out' r.at
