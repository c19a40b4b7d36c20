-- Document 02's words for a report; where a table is refused, its number.
use Rattle.text.specs.Told.{Told, is, refused}
use Rattle.std.specs.Prelude.{Err, Ok}
use Rattle.refusal.specs.Number.{number_of}
use Rattle.slots.specs.declared.decide.Report.{Report}
use Rattle.slots.specs.declared.decide.Report.TheVariants as R
use Rattle.pending.specs.Step.{Answer}

pub data Word : Type 0 where
  dropped : Word
  other : Word
  no_seq : Word
  taken : Word
  turned_away : Word
  answered : Word
  stray : Word

-- the word of a report
abbrev pub word_for : Report → Word
word_for R.Dropped = dropped
word_for R.Other = other
word_for R.NoSeq = no_seq
word_for (R.Taken i) = taken
word_for R.TurnedAway = turned_away
word_for (R.Answered i) = answered
word_for R.Stray = stray

unfoldable pub report_told : Answer → Told Word
report_told (Ok r) = is (word_for r)
report_told (Err r) = refused (number_of r)
