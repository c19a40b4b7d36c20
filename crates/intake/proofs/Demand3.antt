-- Demand 3 for lines and records: what a line says keeps the record's ranges, so there is a record of it; the writer writes that record, and the record's
-- own round trips do the rest. The ground for a text that is a record already is the same. Assumes nothing.
use Rattle.refusal.proofs.Told.{one_told}
use Rattle.std.specs.Prelude.{Ok, Result}
use Rattle.refusal.specs.declared.Refusal.{Refusal}
use Prim.Native.Nat.{ℕ, ◌+◌, ◌≤◌, ◌<◌}
use mathlib.Core.Path.{◌≡◌, refl, sym, ap, ◌∙◌}
use mathlib.Core.Bool.{Bool, true, false}
use mathlib.Core.List.{List}
use mathlib.Core.Logic.{◌↔◌}
use native.Mathlib.Omega.{arith}
use native.Mathlib.Decide.{dec_lt}
use borrow.Author.Tests.{eq-eqb, ne_eqb}
use lib.ListN.{length, take, drop, length-append}
use lib.Seq.{take-append_seam, drop-append_seam}
use Rattle.text.specs.Told as T
use Rattle.entry.specs.declared.Entry.{Entry}
use Rattle.entry.specs.Entry.{EntryValue, part_of, value_of, Lies, SameEntry}
use Rattle.entry.proofs.Parts.{part_out}
use Rattle.scan.specs.declared.Pieces.{Pieces}
use Rattle.refusal.specs.Told.{told}
use Rattle.scan.specs.Parse.{slots_by, Parsed}
use Rattle.scan.specs.Line.{Line}
use Rattle.scan.proofs.Theorems.{line_entry_all, Handed, parsed_entry}
use Rattle.record.specs.Grammar.{record_bytes, Ranged, IsRecord}
use Rattle.record.specs.Reading.{over, dwords_of, read_of}
use Rattle.record.proofs.Records.{Accepts, record_accepted_exactly, accepted_is_record, record_at_most_5227}
use Rattle.writer.specs.Writing.{bytes_of}
use Rattle.writer.specs.Conditions.{Writable}
use Rattle.writer.proofs.RoundTrips.{writable_is_written}
use Rattle.intake.specs.Intake.{Belongs, starts_a1, taken_of, taken_dwords}
use Rattle.intake.specs.Demand3.{ReadCall, WriteCall, Wrote, Says, HasRecord, LinesAndRecords}
use Rattle.intake.proofs.Theorems.{record_starts, line_starts, no_text_is_both, one_reading}
use Rattle.intake.proofs.Ranges.{line_ranged}
use Rattle.intake.proofs.Made.{record_bytes_lem}
use Rattle.intake.proofs.Slots.{line_with_more_slots}

-- ---- what an accepted text says

-- a part with a byte in it lies inside
part_lies : (l : List ℕ) (at n : ℕ) → 0 < length (part_of l at n) → at + n ≤ length l
part_lies l at n byte =
    elim (dec_lt (length l) (at + n)) [
      | yes outside ↦ absurd (omega (arith, byte, ap length (part_out l at n outside)))
      | no inside ↦ omega (arith, inside)
    ]

-- an accepted text that does not start with A1 is a line, and its entry says what the line says
accepted_line : (pieces : Pieces) (text slots : List ℕ) (e : Entry) (left : List ℕ) → starts_a1 text ≡ false → ReadCall pieces text slots (Ok e) left
    → Line pieces text (value_of e text left) × Lies e text left
unfolding taken_of taken_dwords value_of
accepted_line pieces text slots e left first c =
    let parsed : Parsed pieces text slots left (Ok e) = record { answer = c.contract.answer ∙ rw first; slots = c.contract.slots ∙ rw first } in
    let h : Handed pieces text slots left e = parsed_entry pieces text slots parsed in
    let r : Ranged (value_of e text left) = line_ranged pieces text h.line in (
      h.line,
      record {
        task = part_lies text e.task_at e.task_len r.task.some;
        function = part_lies text e.function_at e.function_len r.function.some;
        dwords = omega (arith, h.count, ap length h.slots, length-append (part_of left 0 e.dwords) (drop e.dwords slots));
      },
    )

-- a call of `read` on a record, by the record's own reader
module _ (pieces : Pieces) (text slots : List ℕ) {answer : Result Entry Refusal} (left : List ℕ) (first : starts_a1 text ≡ true) (c : ReadCall pieces text slots answer left) where
  record_answer : told answer ≡ read_of text (length slots)
  unfolding taken_of
  record_answer = c.contract.answer ∙ rw first

  record_slots : {e : Entry} → answer ≡ Ok e → left ≡ over (dwords_of text) slots
  unfolding taken_dwords slots_by
  record_slots e = c.contract.slots ∙ rw (e, first)

-- the intake accepts a record, and its entry says what the record says
record_accepted : (pieces : Pieces) (text : List ℕ) (v : EntryValue) → IsRecord text v → (slots : List ℕ) (answer : Result Entry Refusal) (left : List ℕ) → ReadCall pieces text slots answer left
    → (f : Entry) × (answer ≡ Ok f) × Says text f left v
unfolding starts_a1
record_accepted pieces text v r slots answer left c =
    let first : starts_a1 text ≡ true = eq-eqb _ _ (record_starts text v r) in
    let a : Accepts text slots v = (record_accepted_exactly text c.bytes slots c.enough v).1 r in
    let accepted : answer ≡ Ok a.entry = one_told answer (Ok a.entry) (record_answer pieces text slots left first c ∙ a.answer) in
    let slots_left : left ≡ over (dwords_of text) slots = record_slots pieces text slots left first c accepted in
    (a.entry, accepted, record { lies = rw slots_left a.lies; is = rw slots_left a.value })

-- an accepted text that starts with A1 is a record
accepted_record : (pieces : Pieces) (text slots : List ℕ) (e : Entry) (left : List ℕ) → starts_a1 text ≡ true → ReadCall pieces text slots (Ok e) left
    → (v : EntryValue) × IsRecord text v × Says text e left v
accepted_record pieces text slots e left first c =
    let read : read_of text (length slots) ≡ T.is e = sym (record_answer pieces text slots left first c) in
    let r = accepted_is_record text c.bytes (length slots) e read in
    let g = record_accepted pieces text _ r slots (Ok e) left c in
    let same : g.0 ≡ e = cc in
    (_, r, rw same at g.2)

-- ---- its record

-- an entry that says v is written as the record of v
pub writes_record : (text : List ℕ) (e : Entry) (dwords : List ℕ) (v : EntryValue) → Says text e dwords v → Ranged v
    → (buffer : List ℕ) (answer : Result ℕ Refusal) (left : List ℕ) → WriteCall text e dwords buffer answer left → Wrote (record_bytes v) buffer answer left
unfolding bytes_of
writes_record text e dwords v s r buffer answer left c =
    let w : Writable text e dwords = record { lies = s.lies; ranged = rw s.is r } in
    let h = writable_is_written text e dwords buffer w c.enough c.contract in
    let bytes : record_bytes (value_of e text dwords) ≡ record_bytes v = ap record_bytes s.is in
    let buffered : left ≡ over (record_bytes v) buffer = rw bytes at h.1 in
    record {
      number = rw bytes at h.0;
      first = ap (take (length (record_bytes v))) buffered ∙ take-append_seam (record_bytes v) (drop (length (record_bytes v)) buffer);
      rest = ap (drop (length (record_bytes v))) buffered ∙ drop-append_seam (record_bytes v) (drop (length (record_bytes v)) buffer);
    }

-- what keeps the ranges has a record
has_record : (text : List ℕ) (e : Entry) (dwords : List ℕ) (v : EntryValue) → Says text e dwords v → Ranged v → HasRecord text e dwords v
has_record text e dwords v s r =
    record {
      says = s;
      is_record = made;
      short = record_at_most_5227 (record_bytes v) v made;
      bytes = record_bytes_lem v r;
      written = writes_record text e dwords v s r;
      reads_back = back;
      writes_again = again;
    }
  where
    made : IsRecord (record_bytes v) v
    made = record { ranged = r; bytes = refl }

    back : (pieces : Pieces) (slots : List ℕ) (answer : Result Entry Refusal) (left : List ℕ) → ReadCall pieces (record_bytes v) slots answer left
        → (f : Entry) × (answer ≡ Ok f) × SameEntry e text dwords f (record_bytes v) left
    back pieces slots answer left c =
        let f = record_accepted pieces (record_bytes v) v made slots answer left c in
        (f.0, f.1, record { first_lies = s.lies; second_lies = f.2.lies; same = s.is ∙ sym f.2.is })

    again : (pieces : Pieces) (slots : List ℕ) (f : Entry) (left buffer : List ℕ) (answer : Result ℕ Refusal) (after : List ℕ)
        → ReadCall pieces (record_bytes v) slots (Ok f) left → WriteCall (record_bytes v) f left buffer answer after
        → Wrote (record_bytes v) buffer answer after
    again pieces slots f left buffer answer after c d =
        let g = record_accepted pieces (record_bytes v) v made slots (Ok f) left c in
        let same : g.0 ≡ f = cc in
        writes_record (record_bytes v) f left v (rw same at g.2) r buffer answer after d

-- ---- the promises

-- given 256 slots, a text is accepted exactly when it belongs to the line grammar or to the record grammar
pub accepted_exactly : (pieces : Pieces) (text slots : List ℕ) (answer : Result Entry Refusal) (left : List ℕ) → ReadCall pieces text slots answer left
    → ((e : Entry) × (answer ≡ Ok e)) ↔ ((v : EntryValue) × Belongs pieces text v)
unfolding taken_of starts_a1
accepted_exactly pieces text slots answer left c = (λ x. mp (starts_a1 text) refl x.0 x.1, λ y. mpr y.0 y.1)
  where
    mp : (first : Bool) → starts_a1 text ≡ first → (e : Entry) → answer ≡ Ok e → (v : EntryValue) × Belongs pieces text v
    mp true f e n = let r = accepted_record pieces text slots e left f (rw n at c) in (r.0, Belongs.a_record r.1)
    mp false f e n = (_, Belongs.line (accepted_line pieces text slots e left f (rw n at c)).0)

    mpr : (v : EntryValue) → Belongs pieces text v → (e : Entry) × (answer ≡ Ok e)
    mpr v (Belongs.a_record r) = let f = record_accepted pieces text v r slots answer left c in (f.0, f.1)
    mpr v (Belongs.line a) =
        let f = line_entry_all pieces text a in (
          f.0,
          one_told answer (Ok f.0)
              (c.contract.answer ∙ rw (ne_eqb _ _ (line_starts pieces text v a)) (line_with_more_slots pieces text (length slots) c.enough ∙ f.1)),
        )

-- every accepted line has a record
pub line_has_a_record : (pieces : Pieces) (text slots : List ℕ) (e : Entry) (left : List ℕ) → starts_a1 text ≡ false → ReadCall pieces text slots (Ok e) left
    → (v : EntryValue) × Line pieces text v × HasRecord text e left v
line_has_a_record pieces text slots e left first c =
    let a = accepted_line pieces text slots e left first c in
    (value_of e text left, a.0, has_record text e left (value_of e text left) (record { lies = a.1; is = refl }) (line_ranged pieces text a.0))

-- every accepted record is what writing its entry gives
pub record_is_the_writers : (pieces : Pieces) (text slots : List ℕ) (e : Entry) (left : List ℕ) → starts_a1 text ≡ true → ReadCall pieces text slots (Ok e) left
    → (v : EntryValue) × (record_bytes v ≡ text) × HasRecord text e left v
record_is_the_writers pieces text slots e left first c =
    let a = accepted_record pieces text slots e left first c in
    (a.0, a.1.bytes, has_record text e left a.0 a.2 a.1.ranged)

-- demand 3 for lines and records
pub lines_and_records : (pieces : Pieces) → LinesAndRecords pieces
lines_and_records pieces =
    record {
      accepted = accepted_exactly pieces;
      never_both = no_text_is_both pieces;
      one_reading = one_reading pieces;
      line_has_a_record = line_has_a_record pieces;
      record_is_the_writers = record_is_the_writers pieces;
      record_at_most_5227 = record_at_most_5227;
    }
