-- No call answers 10: a line's number, a record's and a packet's each have a table of conditions, in which 10 applies to nothing, and every call that is given a text tells a number
-- of these tables, or 36 or 37 of the writer, or 50 or 51 of the table of requests, or 53 to 55 of a stream. Assumes nothing.
use Rattle.std.specs.Prelude.{Err, None, Ok, Option, Result, Some}
use Rattle.refusal.specs.declared.Refusal.{Refusal}
use Rattle.refusal.specs.declared.Refusal.TheVariants as Refusal
use Rattle.book.specs.declared.Uuid.{Uuid}
use Prim.Native.Nat.{ℕ}
use mathlib.Core.Path.{◌≡◌, refl, sym, ap, ◌∙◌}
use mathlib.Core.Bool.{Bool, true, false, cond}
use mathlib.Core.List.{List}
use mathlib.Core.Logic.{inl, inr}
use native.Mathlib.Omega.{arith}
use lib.Dec.{leb, ltb}
use lib.ListN.{length}
use Rattle.refusal.specs.Number.{number_of}
use Rattle.refusal.specs.Told.{told, told_maybe}
use Rattle.text.specs.Told as T
use Rattle.text.specs.Told.{Told, number_in, and_then}
use Rattle.text.proofs.Told.{number_first, number_behind}
use Rattle.tlv.specs.Number.{Bytes}
use Rattle.entry.specs.declared.Entry.{Entry}
use Rattle.scan.specs.declared.Pieces.{Pieces}
use Rattle.scan.specs.Frame.{frame_of}
use Rattle.scan.specs.Parse as Line
use Rattle.scan.proofs.Theorems.{number_10_never}
use Rattle.pairs.specs.Pair.{part}
use Rattle.reasons.specs.declared.Key.{Key}
use Rattle.reasons.specs.declared.Key.TheVariants as K
use Rattle.reasons.specs.declared.payload.Place.{Place}
use Rattle.reasons.specs.declared.HexText.{HexText}
use Rattle.reasons.specs.Reasons as Reasons
use Rattle.reasons.specs.Reasons.{payload_from, payload_place, key_in, key_answer, piece_answer}
use Rattle.reasons.proofs.Theorems.{key_exactly, piece_exactly}
use Rattle.packet.specs.declared.Packet.{Packet}
use Rattle.packet.specs.Conditions.{Condition}
use Rattle.packet.specs.Packet as Packets
use Rattle.packet.proofs.Theorems.{packet_number_exactly}
use Rattle.record.specs.Conditions.{breaks, few_slots}
use Rattle.record.specs.Judging.{refusal_of}
use Rattle.record.specs.Reading as Records
use Rattle.record.specs.Reading.{read_of}
use Rattle.record.proofs.Records.{record_refused_exactly}
use Rattle.writer.specs.Writing.{bytes_of, write_of}
use Rattle.writer.specs.Ranges.{writable}
use Rattle.intake.specs.Intake.{starts_a1, taken_of, taken_dwords}
use Rattle.intake.specs.Packets.{packet_by, packet_taken}
use Rattle.intake.specs.declared.What.{What}
use Rattle.intake.specs.What.{grammar_of, what_of}
use Rattle.intake.proofs.WhatItIs.{record_number_range}
use Rattle.filters.specs.Seen as S
use Rattle.scan.specs.declared.Pieces.TheVariants.{Lenient}
use Rattle.filters.specs.declared.Filter.{Filter}
use Rattle.filters.specs.declared.Filter.TheVariants as F
use Rattle.filters.specs.Texts as Filters
use Rattle.filters.specs.Texts.{seen_by, seen_line, seen_of}
use Rattle.slots.specs.declared.decide.Report.TheVariants as P
use Rattle.pending.specs.Step.{Answer}
use Rattle.pending.specs.Words.{report_told}
use Rattle.matched.proofs.Refusals.{no_other_number}
use Rattle.unanswered_rows.specs.declared.Row.{Row}
use Rattle.unanswered_rows.specs.declared.Note.{Note}
use Rattle.desk.specs.declared.Desk.{Desk}
use Rattle.desk.specs.Kept.{one_more, note_of, row_by}
use Rattle.desk.specs.Turn.{Turned, entry, refusal}
use Rattle.c_entry.specs.declared.Flat.{Flat}
use Rattle.c_entry.specs.Flat.{entry_of, in_range, raise_of}
use Rattle.capi.specs.declared.EntryAnswer.{EntryAnswer}
use Rattle.capi.specs.declared.hexes.HexAnswer.{HexAnswer}
use Rattle.capi.specs.Calls.{answer_by, what_by, written_by, write_for}
use Rattle.capi.specs.Packets as C
use Rattle.capi.specs.declared.streams.StreamAnswer.{StreamAnswer}
use Rattle.capi.specs.Streams.{stream_by}
use Rattle.units.specs.declared.Framing.TheVariants.{Both}
use Rattle.units.specs.declared.State.{State}
use Rattle.units.specs.Units.{stated}
use Rattle.units.specs.Kept.{is_long, is_kept}
use Rattle.stream.specs.declared.Fed.{Fed}
use Rattle.stream.specs.declared.Finished.{Finished}
use Rattle.stream.specs.Answers.{answer_of}
use Rattle.stream.specs.Feeding.{FeedDone, FinishDone}
use Rattle.stream.proofs.States.{feed_unit, end_unit}
use Rattle.capi.specs.Hexes.{hex_by, key_numbered, other_key, key_told}
use Rattle.retired.specs.Retired.{CallsNever, CallsForCNever, RowsNever, NoCallAnswers10}

-- what is told is not 10
abbrev Never : {A : Type 0} → Told A → Type 0
Never told = told ≡ T.refused 10 → ⊥

-- no number, or another
other : {A : Type 0} (told : Told A) → (number_in told ≡ 10 → ⊥) → Never told
other told n e = n (ap number_in e)

-- ---- what each text is told

line_never : (pieces : Pieces) (t : List ℕ) (room : ℕ) → Never (Line.parse_of pieces t room)
line_never = number_10_never

key_never : (t : List ℕ) (key : Key) → Never (key_answer t key)
key_never t key e = let few = (key_exactly t key (T.refused 10)).0 e in omega (arith, few.0)

piece_never : (t : List ℕ) (i : ℕ) → Never (piece_answer t i)
piece_never t i e = let few = (piece_exactly t i (T.refused 10)).0 e in omega (arith, few.0)

record_never : (t : List ℕ) → Bytes t → (room : ℕ) → Never (read_of t room)
record_never t b room e =
    elim ((record_refused_exactly t b room 10).0 e) [
      | breaks r ↦ omega (arith, record_number_range t 10 r)
      | few_slots q f ↦ omega (arith, q)
    ]

refusal_never : (t : List ℕ) → Bytes t → refusal_of t ≡ 10 → ⊥
unfolding read_of
refusal_never t b e = record_never t b 0 (number_first (refusal_of t) _ (λ z. omega (arith, e, z)) ∙ ap T.refused e)

write_never : (text : List ℕ) (e : Entry) (dwords : List ℕ) (room : ℕ) → Never (write_of text e dwords room)
unfolding write_of
write_never text e dwords room = by (writable text e dwords) (leb (length (bytes_of text e dwords)) room)
  where
    by : (x y : Bool) → Never (cond x (cond y (T.is (length (bytes_of text e dwords))) (T.refused 36)) (T.refused 37))
    by true true = other (T.is (length (bytes_of text e dwords))) (λ n. omega arith)
    by true false = other (T.refused 36) (λ n. omega arith)
    by false y = other (T.refused 37) (λ n. omega arith)

taken_never : (pieces : Pieces) (t : List ℕ) → Bytes t → (room : ℕ) → Never (taken_of pieces t room)
unfolding taken_of
taken_never pieces t b room = by (starts_a1 t)
  where
    by : (x : Bool) → Never (cond x (read_of t room) (Line.parse_of pieces t room))
    by true = record_never t b room
    by false = line_never pieces t room

unit_never : (pieces : Pieces) (t : List ℕ) → Bytes t → (room : ℕ) → Never (answer_of pieces t room)
unfolding answer_of
unit_never pieces t b room = by (starts_a1 t) (is_long t) (ltb (length t) (stated t))
  where
    by : (x y z : Bool) → Never (cond x (cond y (T.refused 55) (cond z (T.refused 54) (read_of t room))) (Line.parse_of pieces t room))
    by true true z = other (T.refused 55) (λ n. omega arith)
    by true false true = other (T.refused 54) (λ n. omega arith)
    by true false false = record_never t b room
    by false y z = line_never pieces t room

-- a stream's call tells a unit's number, or 53
refused_by : (a : Result (Option Entry) Refusal) {n : ℕ} → told_maybe a ≡ T.refused n → (k : Refusal) × ((a ≡ Err k) × (number_of k ≡ n))
refused_by (Ok (Some e)) q = absurd (let z : ◌≡◌ {A = ℕ} 0 1 = cc in omega arith)
refused_by (Ok None) q = absurd (let z : ◌≡◌ {A = ℕ} 0 1 = cc in omega arith)
refused_by (Err k) q = (k, (refl, ap number_in q))

alien_never : {a : Result (Option Entry) Refusal} → a ≡ Err Refusal.NoStream → Never (told_maybe a)
alien_never q e = let z : ◌≡◌ {A = ℕ} 53 10 = ap number_in (sym (ap told_maybe q) ∙ e) in omega (arith, z)

fed_never : (pieces : Pieces) (part rest : List ℕ) → Bytes part → Bytes rest → (slots : List ℕ) (st : State) (rest' slots' : List ℕ) (r : Fed)
    → FeedDone pieces part rest slots st rest' slots' r → Never (told_maybe r.answer)
fed_never pieces part rest bp br slots st rest' slots' r x e = go (is_kept Both rest st.held st.passed) refl
  where
    go : (b : Bool) → is_kept Both rest st.held st.passed ≡ b → ⊥
    go false q = alien_never (ap (λ (y : Fed). y.answer) (x.alien q).0) e
    go true q =
        let k = refused_by r.answer e in
        let u = feed_unit pieces part rest slots st rest' slots' r bp br x q k.1.0 in
        unit_never pieces u.0 u.1.0 (length slots) (u.1.1 ∙ ap T.refused k.1.1)

ended_never : (pieces : Pieces) (rest : List ℕ) → Bytes rest → (slots : List ℕ) (st : State) (slots' : List ℕ) (r : Finished)
    → FinishDone pieces rest slots st slots' r → Never (told_maybe r.answer)
ended_never pieces rest br slots st slots' r x e = go (is_kept Both rest st.held st.passed) refl
  where
    go : (b : Bool) → is_kept Both rest st.held st.passed ≡ b → ⊥
    go false q = alien_never (ap (λ (y : Finished). y.answer) (x.alien q).0) e
    go true q =
        let k = refused_by r.answer e in
        let u = end_unit pieces rest slots st slots' r br x q k.1.0 in
        unit_never pieces u.0 u.1.0 (length slots) (u.1.1 ∙ ap T.refused k.1.1)

-- as a plain struct
stream_number : (at : ℕ) (st : State) (said : Told Entry) → Never said → {r : StreamAnswer} → r ≡ stream_by at st said → r.number ≡ 10 → ⊥
unfolding stream_by
stream_number at st (T.is e) n c h = let z : ◌≡◌ {A = ℕ} 0 10 = sym (ap (λ (y : StreamAnswer). y.number) c) ∙ h in omega (arith, z)
stream_number at st T.absent n c h = let z : ◌≡◌ {A = ℕ} 0 10 = sym (ap (λ (y : StreamAnswer). y.number) c) ∙ h in omega (arith, z)
stream_number at st (T.refused k) n c h = let z : k ≡ 10 = sym (ap (λ (y : StreamAnswer). y.number) c) ∙ h in n (ap T.refused z)

packet_never : (kind : ℕ) (s : List ℕ) → Bytes s → (ds : List ℕ) (room : ℕ) → Never (Packets.parse_of kind s ds room)
unfolding Packets.parse_of Condition
packet_never kind s b ds room e =
    elim (number_behind (Packets.number_of kind s (length ds) room) (T.is (Packets.packet_of kind s ds)) e) [
      | inl n ↦ ((packet_number_exactly kind s b (length ds) room 10 (omega arith)).0 n.0).holds
      | inr v ↦ other (T.is (Packets.packet_of kind s ds)) (λ n. omega arith) v.1
    ]

-- what a value leads to
then_never : {A B : Type 0} (told : Told A) (next : A → Told B) → Never told → ((a : A) → Never (next a)) → Never (and_then told next)
then_never (T.is a) next n f e = f a e
then_never T.absent next n f e = other T.absent (λ z. omega arith) e
then_never (T.refused k) next n f e = n (ap T.refused (ap number_in e))

text_packet_never : (pieces : Pieces) (t : List ℕ) → Bytes t → (s : List ℕ) → Bytes s → (slots places : ℕ) → Never (packet_taken pieces t s slots places)
unfolding packet_taken packet_by
text_packet_never pieces t b s c slots places =
    then_never (taken_of pieces t slots) (λ e. Packets.parse_of e.kind s (taken_dwords t) places) (taken_never pieces t b slots)
    (λ e. packet_never e.kind s c (taken_dwords t) places)

what_never : (pieces : Pieces) (t : List ℕ) → Bytes t → Never (what_of pieces t)
unfolding what_of
what_never pieces t b =
    then_never (taken_of pieces t 256) (λ e. T.is (grammar_of t)) (taken_never pieces t b 256) (λ e. other (T.is (grammar_of t)) (λ n. omega arith))

-- a payload that is looked for is told the number of its line, as a key of it is
payload_never : (t : List ℕ) → Never (payload_place t)
unfolding key_answer
payload_never t e = key_never t K.Route (ap (λ (told : Told Place). and_then told (λ p. key_in (part t p.from p.to) p.from K.Route)) e)

frame_never : (t : List ℕ) → Never (frame_of t)
unfolding payload_place
frame_never t e = payload_never t (ap (λ (told : Told ℕ). and_then told (λ colon. T.is (payload_from t colon))) e)

-- ---- what C is told of it

raised_never : (f : Flat) → Never (raise_of f)
unfolding raise_of
raised_never f = by (in_range f)
  where
    by : (x : Bool) → Never (cond x (T.is (entry_of f)) (T.refused 37))
    by true = other (T.is (entry_of f)) (λ n. omega arith)
    by false = other (T.refused 37) (λ n. omega arith)

write_for_never : (text : List ℕ) (f : Flat) (dwords : List ℕ) (room : ℕ) → Never (write_for text (raise_of f) dwords room)
unfolding write_for
write_for_never text f dwords room = then_never (raise_of f) (λ e. write_of text e dwords room) (raised_never f) (λ e. write_never text e dwords room)

asked_never : (t : List ℕ) (key : Option Key) → Never (key_told t key)
unfolding key_told other_key
asked_never t (Some key) = key_never t key
asked_never t None = then_never (payload_place t) (λ p. T.absent) (payload_never t) (λ p. other T.absent (λ n. omega arith))

-- a number that is told is that of a refusal
number_never : {A : Type 0} (told : Told A) → Never told → number_in told ≡ 10 → ⊥
number_never (T.is a) n e = omega arith
number_never T.absent n e = omega arith
number_never (T.refused k) n e = n (ap T.refused e)

-- nor is it the number of a struct whose number is the one that is told
struct_never : {A R : Type 0} (by : Told A → R) (number : R → ℕ) → ((told : Told A) → number (by told) ≡ number_in told)
    → (told : Told A) → Never told → {r : R} → r ≡ by told → number r ≡ 10 → ⊥
struct_never by number same told n c e = number_never told n (sym (same told) ∙ ap number (sym c) ∙ e)

entry_number : (told : Told Entry) → (answer_by told).number ≡ number_in told
unfolding answer_by
entry_number (T.is e) = refl
entry_number T.absent = refl
entry_number (T.refused k) = refl

written_number : (told : Told ℕ) → (written_by told).number ≡ number_in told
unfolding written_by
written_number (T.is n) = refl
written_number T.absent = refl
written_number (T.refused k) = refl

hex_number : (told : Told HexText) → (hex_by told).number ≡ number_in told
unfolding hex_by
hex_number (T.is text) = refl
hex_number T.absent = refl
hex_number (T.refused k) = refl

packet_number : (told : Told Packet) → (C.text_by told).packet.number ≡ number_in told
unfolding C.text_by C.of_packet C.packet_by C.made_by
packet_number (T.is p) = by p.uuid
  where
    by : (u : Option Uuid) → (C.uuid_by 0 p.start u).number ≡ 0
    by (Some w) = refl
    by None = refl
packet_number T.absent = refl
packet_number (T.refused k) = refl

what_number : (told : Told What) → (what_by told).number ≡ number_in told
unfolding what_by
what_number told = refl

entry_struct_never : (told : Told Entry) → Never told → {r : EntryAnswer} → r ≡ answer_by told → r.number ≡ 10 → ⊥
entry_struct_never = struct_never answer_by (λ r. r.number) entry_number

hex_struct_never : (told : Told HexText) → Never told → {r : HexAnswer} → r ≡ hex_by told → r.number ≡ 10 → ⊥
hex_struct_never = struct_never hex_by (λ r. r.number) hex_number

-- ---- what the rows are made from

seen_never : (told : Told Entry) → Never told → seen_by told ≡ S.Refused 10 → ⊥
unfolding seen_by
seen_never (T.is e) n q = let z : ◌≡◌ {A = ℕ} 0 1 = cc in omega arith
seen_never T.absent n q = let z : ◌≡◌ {A = ℕ} 0 10 = cc in omega arith
seen_never (T.refused k) n q = let same : k ≡ 10 = cc in n (ap T.refused same)

line_seen_never : (pieces : Pieces) (t : List ℕ) → seen_line pieces t ≡ S.Refused 10 → ⊥
unfolding seen_line
line_seen_never pieces t = seen_never (Line.parse_of pieces t 256) (line_never pieces t 256)

unit_seen_never : (f : Filter) (t : List ℕ) → Bytes t → seen_of f t ≡ S.Refused 10 → ⊥
unfolding seen_of Filters.answer_by
unit_seen_never F.Listing t b = seen_never (Line.parse_of Lenient t 256) (line_never Lenient t 256)
unit_seen_never (F.Pack pieces) t b = seen_never (answer_of pieces t 256) (unit_never pieces t b 256)
unit_seen_never (F.Unpack pieces) t b = seen_never (answer_of pieces t 256) (unit_never pieces t b 256)

-- a row of `unanswered` that says a number has a report that tells it
row_tells : (report : Answer) (notes : List Note) (note : Note) {k : ℕ} → told (row_by report notes note) ≡ T.refused k → report_told report ≡ T.refused k
unfolding row_by report_told
row_tells (Err r) notes note {k} q = let same : number_of r ≡ k = cc in ap T.refused same
row_tells (Ok P.Dropped) notes note q = absurd (let z : ◌≡◌ {A = ℕ} 0 1 = cc in omega arith)
row_tells (Ok P.Other) notes note q = absurd (let z : ◌≡◌ {A = ℕ} 0 1 = cc in omega arith)
row_tells (Ok P.NoSeq) notes note q = absurd (let z : ◌≡◌ {A = ℕ} 0 1 = cc in omega arith)
row_tells (Ok (P.Taken i)) notes note q = absurd (let z : ◌≡◌ {A = ℕ} 0 1 = cc in omega arith)
row_tells (Ok P.TurnedAway) notes note q = absurd (let z : ◌≡◌ {A = ℕ} 0 1 = cc in omega arith)
row_tells (Ok P.Stray) notes note q = absurd (let z : ◌≡◌ {A = ℕ} 0 1 = cc in omega arith)
row_tells (Ok (P.Answered i)) notes note q = absurd (let z : ◌≡◌ {A = ℕ} 0 1 = cc in omega arith)

-- a report of the table is refused with 50 or 51 alone, a line with its own number
row_never : (pieces : Pieces) (t : List ℕ) (d u : Desk) (row : Result Row Refusal) → Turned pieces t d u row → told row ≡ T.refused 10 → ⊥
row_never pieces t d u row (refusal {r = r} p same is) q =
    let ten : number_of r ≡ 10 = ap number_in (sym (ap told is) ∙ q) in line_never pieces t 256 (p ∙ ap T.refused ten)
row_never pieces t d u row (entry {e = e} p c) q =
    let said : report_told c.report ≡ T.refused 10 = row_tells c.report d.notes (note_of (one_more d.counts.lines) e) (sym (ap told c.says) ∙ q) in
    let last : ◌≡◌ {A = ℕ} 10 51 = no_other_number e d.table.slots u.table.slots c.report 10 c.steps said (λ z. omega arith) in
    omega arith

-- ---- the calls

calls_never : CallsNever
calls_never =
    record {
      parse = λ pieces t slots left r c e. line_never pieces t (length slots) (sym c.answer ∙ e);
      read_frame = λ t r c e. frame_never t (sym c ∙ e);
      ask_key = λ t key r c e. key_never t key (sym c ∙ e);
      ask_piece = λ t i r c e. piece_never t i (sym c ∙ e);
      payload_of = λ t r c e. payload_never t (sym c.is ∙ e);
      record_read = λ t b slots left r c e. record_never t b (length slots) (sym c.answer ∙ e);
      refusal = λ t b r c e. refusal_never t b (sym c ∙ e);
      write = λ t f dwords buffer left r c e. write_never t f dwords (length buffer) (sym c.answer ∙ e);
      read = λ pieces t b slots left r c e. taken_never pieces t b (length slots) (sym c.answer ∙ e);
      packet = λ pieces t b s d slots slots_left places places_left r c e. text_packet_never pieces t b s d (length slots) (length places) (sym c.answer ∙ e);
      what_is = λ pieces t b r c e. what_never pieces t b (sym c ∙ e);
      stream_feed = fed_never;
      stream_finish = ended_never;
    }

calls_for_c_never : CallsForCNever
calls_for_c_never =
    record {
      ck_parse = λ pieces t slots left r c e. entry_struct_never (Line.parse_of pieces t (length slots)) (line_never pieces t (length slots)) c.is e;
      ck_hex_key = λ t key r c e. hex_struct_never (key_told t (key_numbered key)) (asked_never t (key_numbered key)) c e;
      ck_hex_piece = λ t i r c e. hex_struct_never (piece_answer t i) (piece_never t i) c e;
      ck_record_read = λ t b slots left r c e. entry_struct_never (read_of t (length slots)) (record_never t b (length slots)) c.is e;
      ck_record_write = λ t f dwords buffer left r c e. struct_never written_by (λ a. a.number) written_number (write_for t (raise_of f) dwords (length buffer)) (write_for_never t f dwords (length buffer)) c.is e;
      ck_read = λ pieces t b slots left r c e. entry_struct_never (taken_of pieces t (length slots)) (taken_never pieces t b (length slots)) c.is e;
      ck_read_packet = λ pieces t b s d slots slots_left places places_left r c e. struct_never C.text_by (λ a. a.packet.number) packet_number (packet_taken pieces t s (length slots) (length places)) (text_packet_never pieces t b s d (length slots) (length places)) c.is e;
      ck_what = λ pieces t b r c e. struct_never what_by (λ a. a.number) what_number (what_of pieces t) (what_never pieces t b) c e;
      ck_stream_feed = λ pieces part rest bp br slots st rest' slots' r c e. stream_number c.fed.at c.fed.state (told_maybe c.fed.answer) (fed_never pieces part rest bp br slots st rest' slots' c.fed c.done) c.is e;
      ck_stream_finish = λ pieces rest br slots st slots' r c e. stream_number 0 c.finished.state (told_maybe c.finished.answer) (ended_never pieces rest br slots st slots' c.finished c.done) c.is e;
    }

rows_never : RowsNever
rows_never =
    record {
      see_line = λ pieces t r c e. line_seen_never pieces t (sym c ∙ e);
      see_unit = λ f t b r c e. unit_seen_never f t b (sym c ∙ e);
      step_line = λ pieces t d r c e. row_never pieces t d r c e;
    }

-- no call answers 10, whatever text it is given
pub no_call_answers_10 : NoCallAnswers10
no_call_answers_10 = record { calls = calls_never; calls_for_c = calls_for_c_never; rows = rows_never }
