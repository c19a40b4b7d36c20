-- What one more line changes: it is counted; its entry makes a step of the table and is noted, counted and told by its report; of a line that is
-- refused nothing else is kept.
use Rattle.std.specs.Prelude.{ℕ, ◌≡◌, List, set, Err, Ok, Result}
use Rattle.text.specs.Told.{is, refused}
use Rattle.refusal.specs.declared.Refusal.{Refusal}
use Rattle.refusal.specs.Number.{number_of}
use Rattle.entry.specs.declared.Entry.{Entry}
use Rattle.scan.specs.declared.Pieces.{Pieces}
use Rattle.scan.specs.Parse.{parse_of}
use Rattle.slots.specs.declared.decide.Report.{Report}
use Rattle.pending.specs.Step.{Answer, Step}
use Rattle.unanswered_rows.specs.declared.Row.{Row}
use Rattle.unanswered_rows.specs.declared.Note.{Note}
use Rattle.desk.specs.declared.Desk.{Desk}
use Rattle.desk.specs.Kept.{note_of, notes_after, line_more, report_more, counts_after, row_by}

-- the line is counted
abbrev pub with_line : Desk → Desk
with_line d = record { table = d.table; notes = d.notes; counts = line_more d.counts }

-- an entry
pub record Entered (e : Entry) (d u : Desk) (row : Result Row Refusal) : Type 0 where
  pub report : Answer
  pub steps : Step e d.table.slots report u.table.slots
  pub notes : u.notes ≡ notes_after d.notes report (note_of d.counts.lines e)
  pub counts : u.counts ≡ counts_after d.counts report
  pub says : row ≡ row_by report d.notes (note_of d.counts.lines e)

-- a line, read by the choice
pub data Turned (pieces : Pieces) (line : List ℕ) (d u : Desk) (row : Result Row Refusal) : Type 0 where
  entry : {e : Entry} → parse_of pieces line 256 ≡ is e → Entered e (with_line d) u row → Turned pieces line d u row
  refusal : {r : Refusal} → parse_of pieces line 256 ≡ refused (number_of r) → u ≡ with_line d → row ≡ Err r → Turned pieces line d u row

-- ---- what the parts of an entry's turn do

-- a note beside a slot
abbrev pub noted : Desk → ℕ → Note → Desk
noted d i note = record { table = d.table; notes = set d.notes i note; counts = d.counts }

-- a report is filed, once the entry is counted
pub record Filed (report : Report) (note : Note) (d u : Desk) (row : Row) : Type 0 where
  pub table : u.table ≡ d.table
  pub notes : u.notes ≡ notes_after d.notes (Ok report) note
  pub counts : u.counts ≡ report_more report d.counts
  pub says : Ok row ≡ row_by (Ok report) d.notes note
