-- What is accepted has a record, which is written into the rest of a buffer as it would be into one of its own. Assumes nothing.
use Rattle.std.specs.Prelude.{Ok, Result, Some}
use Rattle.refusal.specs.declared.Refusal.{Refusal}
use Prim.Native.Nat.{ℕ, ◌+◌, ◌-◌, ◌≤◌}
use mathlib.Core.Path.{◌≡◌, refl, sym, ap, ◌∙◌}
use mathlib.Core.Bool.{Bool, true, false}
use mathlib.Core.List.{List, [], ◌++◌, append_assoc, append-nil}
use native.Mathlib.Omega.{arith}
use lib.ListN.{length, take, drop, length-drop, replicate, length-replicate}
use lib.Seq.{sets-eq, take_all, drop-drop, drop-length}
use borrow.Rule.Slice.PartMut.{Post-is, put_mid, post_of}
use Rattle.refusal.specs.Told.{told}
use Rattle.text.specs.Told as T
use Rattle.tlv.specs.Number.{Bytes}
use Rattle.tlv.proofs.Places.{bytes_take}
use Rattle.entry.specs.declared.Entry.{Entry}
use Rattle.entry.specs.Entry.{EntryValue, value_of, part_of}
use Rattle.scan.specs.declared.Pieces.{Pieces}
use Rattle.scan.specs.Parse.{slots_by}
use Rattle.scan.proofs.Values.{dwords_part, dwords_whole}
use Rattle.record.specs.Grammar.{record_bytes}
use Rattle.writer.specs.Writing.{Writing, bytes_of, buffer_by}
use Rattle.refusal.proofs.Told.{one_told}
use Rattle.writer.proofs.RoundTrips.{some_written}
use Rattle.intake.specs.Intake.{starts_a1, taken_of, taken_dwords}
use Rattle.intake.specs.Demand3.{ReadCall, HasRecord}
use Rattle.intake.proofs.Demand3.{line_has_a_record, record_is_the_writers}
use Rattle.intake.proofs.Slots.{taken_count}
use Rattle.units.specs.declared.Unit.{Unit}
use Rattle.units.specs.declared.Unit.TheVariants as U
use Rattle.units.specs.Feeding.{text_length}
use Rattle.stream.specs.Answers.{said_by, records_of}
use Rattle.stream.specs.Feeding.{UnitRead, unit_told}
use Rattle.listing_rows.specs.Rows.{Put}
use Rattle.filters.specs.Rows.{Recorded}
use Rattle.filters.specs.Texts.{record_by}

-- a unit with an entry was read as the text that stands in the buffer
text_read : (pieces : Pieces) (cut : Unit) (rest : List ℕ) (room : ℕ) {e : Entry} → unit_told pieces cut rest room ≡ T.is e → taken_of pieces (take (text_length cut) rest) room ≡ T.is e
unfolding unit_told text_length
text_read pieces (U.Text n) rest room q = q
text_read pieces U.Long rest room q = absurd (let z : ◌≡◌ {A = ℕ} 0 1 = cc in omega arith)
text_read pieces U.Cut rest room q = absurd (let z : ◌≡◌ {A = ℕ} 0 1 = cc in omega arith)
text_read pieces U.Open rest room q = absurd (let z : ◌≡◌ {A = ℕ} 0 1 = cc in omega arith)
text_read pieces U.Alien rest room q = absurd (let z : ◌≡◌ {A = ℕ} 0 1 = cc in omega arith)

-- an accepted line has a record, and an accepted record is one
has_record : (pieces : Pieces) (text slots : List ℕ) (e : Entry) (left : List ℕ) → ReadCall pieces text slots (Ok e) left → (v : EntryValue) × HasRecord text e left v
has_record pieces text slots e left call = go (starts_a1 text) refl
  where
    go : (b : Bool) → starts_a1 text ≡ b → (v : EntryValue) × HasRecord text e left v
    go true q = let h = record_is_the_writers pieces text slots e left q call in (h.0, h.2)
    go false q = let h = line_has_a_record pieces text slots e left q call in (h.0, h.2)

-- the entry of a unit that was cut off has a record, and it is the unit's record
module _ (pieces : Pieces) (cut : Unit) (rest slots left : List ℕ) {e : Entry} (bytes : Bytes rest) (size : length slots ≡ 256) (p : UnitRead pieces cut rest slots left (Ok (Some e))) where
  abbrev text : List ℕ
  text = take (text_length cut) rest

  taken : taken_of pieces (take (text_length cut) rest) (length slots) ≡ T.is e
  taken = text_read pieces cut rest (length slots) (sym p.answer)

  left_is : left ≡ slots_by (T.is e) (taken_dwords (take (text_length cut) rest)) slots
  left_is = p.slots_are ∙ ap (λ (t : T.Told Entry). slots_by t (taken_dwords (take (text_length cut) rest)) slots) (sym p.answer)

  call : ReadCall pieces (take (text_length cut) rest) slots (Ok e) left
  call = record { bytes = bytes_take rest (text_length cut) bytes; enough = omega (arith, size); contract = record { answer = sym taken; slots = left_is } }

  pub unit_recorded : Recorded (take (text_length cut) rest) e left
  unfolding bytes_of
  unit_recorded =
      let h = has_record pieces (take (text_length cut) rest) slots e left call in
      let same : value_of e (take (text_length cut) rest) left ≡ h.0 = h.1.says.is in
      record {
        short = rw same h.1.short;
        written = λ room enough.
            let n : length {A = ℕ} (replicate room 0) ≡ room = length-replicate room 0 in
            let r = some_written (take (text_length cut) rest) e left (length {A = ℕ} (replicate room 0)) in
            let w = h.1.written (replicate room 0) r.0 _ (record { enough = omega arith; contract = record { answer = r.1; buffer = refl } }) in
            rw same (rw n at (sym r.1 ∙ ap told w.number));
      }

  pub unit_record : record_by (take (text_length cut) rest) (T.is e) ≡ bytes_of (take (text_length cut) rest) e left
  unfolding record_by records_of said_by bytes_of value_of slots_by
  unit_record =
      let count : e.dwords ≡ length (taken_dwords (take (text_length cut) rest)) = taken_count pieces (take (text_length cut) rest) (length slots) taken in
      let whole : part_of (taken_dwords (take (text_length cut) rest)) 0 e.dwords ≡ taken_dwords (take (text_length cut) rest) = ap (part_of (taken_dwords (take (text_length cut) rest)) 0) count ∙ dwords_whole (taken_dwords (take (text_length cut) rest)) in
      let now : part_of left 0 e.dwords ≡ taken_dwords (take (text_length cut) rest) = ap (λ (l : List ℕ). part_of l 0 e.dwords) left_is ∙ ap (part_of (slots_by (T.is e) (taken_dwords (take (text_length cut) rest)) slots) 0) count ∙ dwords_part (taken_dwords (take (text_length cut) rest)) slots in
      append-nil (record_bytes (value_of e (take (text_length cut) rest) (taken_dwords (take (text_length cut) rest)))) ∙ rw (whole, now)

-- a record written into the rest of a buffer
module _ (text : List ℕ) (e : Entry) (dwords : List ℕ) (has : Recorded text e dwords) (out : List ℕ) (at : ℕ) (room : at + 5227 ≤ length out) (left : List ℕ) {r : Result ℕ Refusal} (w : Writing text e dwords (take (length out - at) (drop at out)) r left) where
  rest_is : take (length out - at) (drop at out) ≡ drop at out
  rest_is = take_all (length out - at) (drop at out) (omega (arith, length-drop at out))

  behind_none : post_of at (length out - at) out ≡ []
  behind_none = Post-is at (length out) out (omega arith) ∙ drop-length out

  pub rest_written : r ≡ Ok (length (bytes_of text e dwords))
  rest_written =
      let size : length (take (length out - at) (drop at out)) ≡ length out - at = ap length rest_is ∙ length-drop at out in
      one_told r (Ok (length (bytes_of text e dwords))) (w.answer ∙ rw size (has.written (length out - at) (omega arith)))

  pub rest_put : Put out at (bytes_of text e dwords) (put_mid at (length out - at) out left) (at + length (bytes_of text e dwords))
  unfolding buffer_by
  rest_put =
      let fits : at + length (bytes_of text e dwords) ≤ length out = omega (arith, has.short) in
      let left_is : left ≡ bytes_of text e dwords ++ drop (at + length (bytes_of text e dwords)) out =
      w.buffer ∙ rw (rest_written, rest_is, drop-drop (length (bytes_of text e dwords)) at out) in
      record {
        fits = fits;
        buffer =
            ap (λ (l : List ℕ). take at out ++ (left ++ l)) behind_none
            ∙ rw (append-nil left, left_is) (sym (sets-eq (bytes_of text e dwords) out at fits ∙ append_assoc (take at out) (bytes_of text e dwords) (drop (at + length (bytes_of text e dwords)) out)));
        place = refl;
      }
