-- What a report changes beside the table, and what its row says.
use Rattle.std.specs.Prelude.{ℕ, ◌+◌, ◌-◌, ◌^◌, min, List, get_or, set, Err, Ok, Result}
use Rattle.refusal.specs.declared.Refusal.{Refusal}
use Rattle.entry.specs.declared.Entry.{Entry}
use Rattle.slots.specs.declared.decide.Report.{Report}
use Rattle.slots.specs.declared.decide.Report.TheVariants as P
use Rattle.pending.specs.Step.{Answer}
use Rattle.unanswered_rows.specs.declared.Row.{Row}
use Rattle.unanswered_rows.specs.declared.Row.TheVariants as R
use Rattle.unanswered_rows.specs.declared.Note.{Note}
use Rattle.unanswered_rows.specs.declared.Counts.{Counts}
use Rattle.unanswered_rows.specs.Gap.{gap_of}

-- one more, in 64 bits
abbrev pub one_more : ℕ → ℕ
one_more n = min (n + 1) (2 ^ 64 - 1)

-- beside a slot that no request took
abbrev pub no_note : Note
no_note = record { line = 0; at = record { seconds = 0; microseconds = 0 } }

-- before the first line
abbrev pub no_counts : Counts
no_counts = record { lines = 0; entries = 0; taken = 0; answered = 0; away = 0; stray = 0 }

-- what is kept of the entry of the line of that number
abbrev pub note_of : ℕ → Entry → Note
note_of line e = record { line = line; at = record { seconds = e.seconds; microseconds = e.microseconds } }

-- a request that is taken is noted beside its slot
unfoldable pub notes_after : List Note → Answer → Note → List Note
notes_after notes (Ok (P.Taken i)) note = set notes i note
notes_after notes (Ok P.Dropped) note = notes
notes_after notes (Ok P.Other) note = notes
notes_after notes (Ok P.NoSeq) note = notes
notes_after notes (Ok P.TurnedAway) note = notes
notes_after notes (Ok (P.Answered i)) note = notes
notes_after notes (Ok P.Stray) note = notes
notes_after notes (Err r) note = notes

-- one line more
abbrev pub line_more : Counts → Counts
line_more c = record { lines = one_more c.lines; entries = c.entries; taken = c.taken; answered = c.answered; away = c.away; stray = c.stray }

-- one entry more
abbrev pub entry_more : Counts → Counts
entry_more c = record { lines = c.lines; entries = one_more c.entries; taken = c.taken; answered = c.answered; away = c.away; stray = c.stray }

-- one more of what is counted by its report
abbrev pub report_more : Report → Counts → Counts
report_more (P.Taken i) c = record { lines = c.lines; entries = c.entries; taken = one_more c.taken; answered = c.answered; away = c.away; stray = c.stray }
report_more (P.Answered i) c = record { lines = c.lines; entries = c.entries; taken = c.taken; answered = one_more c.answered; away = c.away; stray = c.stray }
report_more P.TurnedAway c = record { lines = c.lines; entries = c.entries; taken = c.taken; answered = c.answered; away = one_more c.away; stray = c.stray }
report_more P.Stray c = record { lines = c.lines; entries = c.entries; taken = c.taken; answered = c.answered; away = c.away; stray = one_more c.stray }
report_more P.Dropped c = c
report_more P.Other c = c
report_more P.NoSeq c = c

-- both; where the table is refused, the entry alone
unfoldable pub counts_after : Counts → Answer → Counts
counts_after c (Ok report) = report_more report (entry_more c)
counts_after c (Err r) = entry_more c

-- an answer says which line it answers, and the time between both
abbrev pub answer_row : Note → Note → Row
answer_row request note = R.Answered request.line (gap_of request.at note.at)

-- what a row says by the report: an answer looks at the note beside the slot
unfoldable pub row_by : Answer → List Note → Note → Result Row Refusal
row_by (Ok P.Dropped) notes note = Ok R.Dropped
row_by (Ok P.Other) notes note = Ok R.Other
row_by (Ok P.NoSeq) notes note = Ok R.NoSeq
row_by (Ok (P.Taken i)) notes note = Ok R.Taken
row_by (Ok P.TurnedAway) notes note = Ok R.TurnedAway
row_by (Ok (P.Answered i)) notes note = Ok (answer_row (get_or notes i no_note) note)
row_by (Ok P.Stray) notes note = Ok R.Stray
row_by (Err r) notes note = Err r
