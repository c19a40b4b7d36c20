-- What the C calls answer: the answers of the calls below them, as plain structs.
use Rattle.std.specs.Prelude.{ℕ, ◌≡◌, List, [], length}
use Rattle.text.specs.Told as T
use Rattle.entry.specs.Event.{event_of, name_of, padded}
use Rattle.entry.specs.declared.Entry.{Entry}
use Rattle.scan.specs.declared.Pieces.{Pieces}
use Rattle.scan.specs.Parse.{parse_of, line_dwords, slots_by}
use Rattle.writer.specs.Writing.{bytes_of, write_of, buffer_by}
use Rattle.intake.specs.Intake.{taken_of, taken_dwords}
use Rattle.intake.specs.declared.What.{What}
use Rattle.intake.specs.declared.What.TheVariants as W
use Rattle.c_entry.specs.declared.Flat.{Flat}
use Rattle.c_entry.specs.Flat.{absent, flat_of, raise_of}
use Rattle.capi.specs.declared.EntryAnswer.{EntryAnswer}
use Rattle.capi.specs.declared.WhatAnswer.{WhatAnswer}
use Rattle.capi.specs.declared.WriteAnswer.{WriteAnswer}
use Rattle.capi.specs.declared.EventName.{EventName}

-- stands where there is no entry: zeros, and no optional field
abbrev pub blank_entry : Flat
blank_entry =
    record {
      task_at = 0;
      task_len = 0;
      pid = 0;
      cpu = 0;
      seconds = 0;
      microseconds = 0;
      function_at = 0;
      function_len = 0;
      kind = 0;
      size = 0;
      dropped = 0;
      domain = 0;
      route = 0;
      offset = absent;
      code = absent;
      len = absent;
      port = absent;
      config = absent;
      seq = absent;
      unplug = absent;
      dwords = 0;
    }

-- what is told of a text: number 0 and the entry, or the number and a blank entry
unfoldable pub answer_by : T.Told Entry → EntryAnswer
answer_by (T.is e) = record { number = 0; entry = flat_of e }
answer_by T.absent = record { number = 0; entry = blank_entry }
answer_by (T.refused k) = record { number = k; entry = blank_entry }

-- the answer, and each slot: an entry's dwords over the first, a refusal leaves them as found
pub record Read (told : T.Told Entry) (dwords out exit : List ℕ) (r : EntryAnswer) : Type 0 where
  pub is : r ≡ answer_by told
  pub slots : exit ≡ slots_by told dwords out

-- that of a line, by the choice: strict or lenient
abbrev pub LineRead : Pieces → List ℕ → List ℕ → List ℕ → EntryAnswer → Type 0
LineRead pieces t out exit r = Read (parse_of pieces t (length out)) (line_dwords t) out exit r

-- that of a text, which is a record if it starts with A1, else a line by the choice
abbrev pub EitherRead : Pieces → List ℕ → List ℕ → List ℕ → EntryAnswer → Type 0
EitherRead pieces t out exit r = Read (taken_of pieces t (length out)) (taken_dwords t) out exit r

-- what a text is, as a number: 0 neither, 1 a line, 2 a record
abbrev pub case_of : T.Told What → ℕ
case_of (T.is W.Record) = 2
case_of (T.is W.Line) = 1
case_of T.absent = 0
case_of (T.refused k) = 0

-- that, and the number that refuses the text, 0 where nothing is refused
unfoldable pub what_by : T.Told What → WhatAnswer
what_by told = record { number = T.number_in told; what = case_of told }

-- what the writer tells: number 0 and how many bytes, or the number and no byte
unfoldable pub written_by : T.Told ℕ → WriteAnswer
written_by (T.is n) = record { number = 0; bytes = n }
written_by T.absent = record { number = 0; bytes = 0 }
written_by (T.refused k) = record { number = k; bytes = 0 }

-- the record of the numbers, none where they are no entry's
unfoldable pub record_for : List ℕ → T.Told Entry → List ℕ → List ℕ
record_for text (T.is e) dwords = bytes_of text e dwords
record_for text T.absent dwords = []
record_for text (T.refused k) dwords = []

-- what the writer tells of the numbers: 37 where they are no entry's
unfoldable pub write_for : List ℕ → T.Told Entry → List ℕ → ℕ → T.Told ℕ
write_for text raised dwords room = T.and_then raised (λ e. write_of text e dwords room)

-- the answer, and each byte of the buffer: the record over the first, a refusal leaves them as found
pub record Wrote (text : List ℕ) (f : Flat) (dwords out exit : List ℕ) (r : WriteAnswer) : Type 0 where
  pub is : r ≡ written_by (write_for text (raise_of f) dwords (length out))
  pub buffer : exit ≡ buffer_by (write_for text (raise_of f) dwords (length out)) (record_for text (raise_of f) dwords) out

-- the name of a code's event
unfoldable pub name_by : ℕ → EventName
name_by code = record { bytes = (padded (name_of (event_of code))).bytes; len = (padded (name_of (event_of code))).len }
