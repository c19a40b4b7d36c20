-- Number 10, which document 02 i) takes out: whatever text a call is given, it does not answer 10. It is stated over the contracts of the calls, so it holds of whatever they
-- answer: of each call of the crates that is given a line, a record or an entry's text and answers a number, of each call for C that is, and of what the programs' rows are made
-- from. Calls that are given a part of a line, its header or its payload, hand their numbers to `parse`.
-- How to read it: `told answer ≡ refused 10` is "the answer refuses with number 10"; `a ≡ b` is "a equals b"; `P → Q` "if P then Q"; `P → ⊥` "P never holds"; `(x : A) → P` "for every x, P".
use Rattle.refusal.specs.declared.Refusal.{Refusal}
use Rattle.packet.specs.declared.Packet.{Packet}
use Rattle.reasons.specs.declared.HexText.{HexText}
use Rattle.reasons.specs.declared.payload.Place.{Place}
use Rattle.std.specs.Prelude.{ℕ, ◌≡◌, List, length, Option, Result}
use Rattle.tlv.specs.Number.{Bytes}
use Rattle.entry.specs.declared.Entry.{Entry}
use Rattle.scan.specs.declared.Pieces.{Pieces}
use Rattle.text.specs.Told.{refused}
use Rattle.refusal.specs.Told.{told, told_maybe}
use Rattle.scan.specs.Frame.{frame_of}
use Rattle.scan.specs.Parse as Parse
use Rattle.reasons.specs.declared.Key.{Key}
use Rattle.reasons.specs.Reasons.{key_answer, piece_answer, PayloadAt}
use Rattle.record.specs.Judging.{refusal_of}
use Rattle.record.specs.Reading.{Reading, read_of, dwords_of}
use Rattle.writer.specs.Writing.{Writing}
use Rattle.intake.specs.declared.What.{What}
use Rattle.intake.specs.declared.What.TheVariants as Is
use Rattle.intake.specs.Intake.{Taken}
use Rattle.intake.specs.Packets.{PacketTaken}
use Rattle.intake.specs.What.{what_of}
use Rattle.filters.specs.Seen.{Seen}
use Rattle.filters.specs.Seen as S
use Rattle.filters.specs.declared.Filter.{Filter}
use Rattle.filters.specs.Texts.{seen_line, seen_of}
use Rattle.unanswered_rows.specs.declared.Row.{Row}
use Rattle.desk.specs.declared.Desk.{Desk}
use Rattle.desk.specs.Turn.{Turned}
use Rattle.c_entry.specs.declared.Flat.{Flat}
use Rattle.capi.specs.declared.EntryAnswer.{EntryAnswer}
use Rattle.capi.specs.declared.WhatAnswer.{WhatAnswer}
use Rattle.capi.specs.declared.WriteAnswer.{WriteAnswer}
use Rattle.capi.specs.declared.packets.TextPacket.{TextPacket}
use Rattle.capi.specs.declared.hexes.HexAnswer.{HexAnswer}
use Rattle.capi.specs.Calls.{Read, LineRead, EitherRead, what_by, Wrote}
use Rattle.capi.specs.Packets.{TextRead}
use Rattle.capi.specs.Hexes.{hex_by, key_numbered, key_told}
use Rattle.units.specs.declared.State.{State}
use Rattle.stream.specs.declared.Fed.{Fed}
use Rattle.stream.specs.declared.Finished.{Finished}
use Rattle.stream.specs.Feeding.{FeedDone, FinishDone}
use Rattle.capi.specs.declared.streams.StreamAnswer.{StreamAnswer}
use Rattle.capi.specs.Streams.{StreamFed, StreamEnded}

-- The calls of the crates.
pub record CallsNever : Type 0 where
  -- `parse` of `scan`, strict and lenient.
  pub parse : (pieces : Pieces) (text slots left : List ℕ) (answer : Result Entry Refusal) → Parse.Parsed pieces text slots left answer → told answer ≡ refused 10 → ⊥
  -- `read_frame` of `scan`, which parts a line.
  pub read_frame : (text : List ℕ) (answer : Result ℕ Refusal) → told answer ≡ frame_of text → told answer ≡ refused 10 → ⊥
  -- `ask_key` of `reasons`.
  pub ask_key : (text : List ℕ) (key : Key) (answer : Result (Option HexText) Refusal) → told_maybe answer ≡ key_answer text key → told_maybe answer ≡ refused 10 → ⊥
  -- `ask_piece` of `reasons`.
  pub ask_piece : (text : List ℕ) (i : ℕ) (answer : Result (Option HexText) Refusal) → told_maybe answer ≡ piece_answer text i → told_maybe answer ≡ refused 10 → ⊥
  -- `payload_of` of `reasons`.
  pub payload_of : (text : List ℕ) (answer : Result Place Refusal) → PayloadAt text answer → told answer ≡ refused 10 → ⊥
  -- `read` of `record`; the text is bytes, as every lent text is.
  pub record_read : (text : List ℕ) → Bytes text → (slots left : List ℕ) (answer : Result Entry Refusal) → Reading text slots answer left → told answer ≡ refused 10 → ⊥
  -- The number that `judge` of `record` refuses by.
  pub refusal : (text : List ℕ) → Bytes text → (answer : ℕ) → answer ≡ refusal_of text → answer ≡ 10 → ⊥
  -- `write` of `writer`, whatever the entry.
  pub write : (text : List ℕ) (e : Entry) (dwords buffer left : List ℕ) (answer : Result ℕ Refusal) → Writing text e dwords buffer answer left → told answer ≡ refused 10 → ⊥
  -- `read` of `intake`, strict and lenient.
  pub read : (pieces : Pieces) (text : List ℕ) → Bytes text → (slots left : List ℕ) (answer : Result Entry Refusal) → Taken pieces text slots left answer → told answer ≡ refused 10 → ⊥
  -- `packet` of `intake`, strict and lenient, over any book; the book is bytes, as every lent book is.
  pub packet : (pieces : Pieces) (text : List ℕ) → Bytes text → (book : List ℕ) → Bytes book → (slots slots_left places places_left : List ℕ) (answer : Result Packet Refusal)
      → PacketTaken pieces text book slots slots_left places places_left answer → told answer ≡ refused 10 → ⊥
  -- `what_is` of `intake`, strict and lenient.
  pub what_is : (pieces : Pieces) (text : List ℕ) → Bytes text → (answer : Result What Refusal) → told answer ≡ what_of pieces text → told answer ≡ refused 10 → ⊥
  -- `feed` of `stream`, whatever is kept; part and buffer are bytes, as all that is lent.
  pub stream_feed : (pieces : Pieces) (part rest : List ℕ) → Bytes part → Bytes rest → (slots : List ℕ) (state : State) (rest_left slots_left : List ℕ) (answer : Fed)
      → FeedDone pieces part rest slots state rest_left slots_left answer → told_maybe answer.answer ≡ refused 10 → ⊥
  -- `finish` of `stream`.
  pub stream_finish : (pieces : Pieces) (rest : List ℕ) → Bytes rest → (slots : List ℕ) (state : State) (slots_left : List ℕ) (answer : Finished)
      → FinishDone pieces rest slots state slots_left answer → told_maybe answer.answer ≡ refused 10 → ⊥

-- The calls for C. Their strict forms and their lenient ones are told apart by the choice.
pub record CallsForCNever : Type 0 where
  -- `ck_parse`, `ck_parse_lenient`.
  pub ck_parse : (pieces : Pieces) (text slots left : List ℕ) (answer : EntryAnswer) → LineRead pieces text slots left answer → answer.number ≡ 10 → ⊥
  -- `ck_hex_key`, whatever number names the key.
  pub ck_hex_key : (text : List ℕ) (key : ℕ) (answer : HexAnswer) → answer ≡ hex_by (key_told text (key_numbered key)) → answer.number ≡ 10 → ⊥
  -- `ck_hex_piece`.
  pub ck_hex_piece : (text : List ℕ) (i : ℕ) (answer : HexAnswer) → answer ≡ hex_by (piece_answer text i) → answer.number ≡ 10 → ⊥
  -- `ck_record_read`.
  pub ck_record_read : (text : List ℕ) → Bytes text → (slots left : List ℕ) (answer : EntryAnswer) → Read (read_of text (length slots)) (dwords_of text) slots left answer
      → answer.number ≡ 10 → ⊥
  -- `ck_record_write`, whatever the numbers of the entry.
  pub ck_record_write : (text : List ℕ) (f : Flat) (dwords buffer left : List ℕ) (answer : WriteAnswer) → Wrote text f dwords buffer left answer → answer.number ≡ 10 → ⊥
  -- `ck_read`, `ck_read_lenient`.
  pub ck_read : (pieces : Pieces) (text : List ℕ) → Bytes text → (slots left : List ℕ) (answer : EntryAnswer) → EitherRead pieces text slots left answer → answer.number ≡ 10 → ⊥
  -- `ck_read_packet`, `ck_read_packet_lenient`.
  pub ck_read_packet : (pieces : Pieces) (text : List ℕ) → Bytes text → (book : List ℕ) → Bytes book → (slots slots_left places places_left : List ℕ) (answer : TextPacket)
      → TextRead pieces text book slots slots_left places places_left answer → answer.packet.number ≡ 10 → ⊥
  -- `ck_what`, `ck_what_lenient`.
  pub ck_what : (pieces : Pieces) (text : List ℕ) → Bytes text → (answer : WhatAnswer) → answer ≡ what_by (what_of pieces text) → answer.number ≡ 10 → ⊥
  -- `ck_stream_feed`, `ck_stream_feed_lenient`.
  pub ck_stream_feed : (pieces : Pieces) (part rest : List ℕ) → Bytes part → Bytes rest → (slots : List ℕ) (state : State) (rest_left slots_left : List ℕ) (answer : StreamAnswer)
      → StreamFed pieces part rest slots state rest_left slots_left answer → answer.number ≡ 10 → ⊥
  -- `ck_stream_finish`, `ck_stream_finish_lenient`.
  pub ck_stream_finish : (pieces : Pieces) (rest : List ℕ) → Bytes rest → (slots : List ℕ) (state : State) (slots_left : List ℕ) (answer : StreamAnswer)
      → StreamEnded pieces rest slots state slots_left answer → answer.number ≡ 10 → ⊥

-- What the programs' rows are made from.
pub record RowsNever : Type 0 where
  -- A line as `filters` sees it: a row of the listing, by lenient, and of `unpack`, and what `pack` tells of a line.
  pub see_line : (pieces : Pieces) (text : List ℕ) (answer : Seen) → answer ≡ seen_line pieces text → answer ≡ S.Refused 10 → ⊥
  -- A unit as `put_row` of `filters` says it: a row of each filter, and what `pack` tells, whatever the unit.
  pub see_unit : (f : Filter) (unit : List ℕ) → Bytes unit → (answer : Seen) → answer ≡ seen_of f unit → answer ≡ S.Refused 10 → ⊥
  -- `step_line` of `desk`, whatever is kept: a row of `unanswered`.
  pub step_line : (pieces : Pieces) (text : List ℕ) (desk left : Desk) (answer : Result Row Refusal) → Turned pieces text desk left answer
      → told answer ≡ refused 10 → ⊥

-- No call answers 10, whatever text it is given.
pub record NoCallAnswers10 : Type 0 where
  -- None of the crates.
  pub calls : CallsNever
  -- None for C.
  pub calls_for_c : CallsForCNever
  -- None that a row is made from.
  pub rows : RowsNever
