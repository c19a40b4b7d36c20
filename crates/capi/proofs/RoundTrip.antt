-- A record that goes through the C calls comes out again: its entry is in the flat form's ranges, so it is raised to itself, and the writer
-- gives the record's bytes for it. Assumes nothing.
use Rattle.std.specs.Prelude.{None, Option, Some}
use Prim.Native.Nat.{ℕ, ◌^◌, ◌≤◌}
use mathlib.Core.Path.{◌≡◌, ap, ◌∙◌}
use mathlib.Core.List.{List}
use lib.ListN.{length}
use Rattle.text.specs.Told as T
use Rattle.tlv.specs.Number.{Bytes}
use Rattle.entry.specs.declared.Entry.{Entry}
use Rattle.entry.specs.Entry.{EntryValue, value_of}
use Rattle.scan.specs.Parse.{slots_by}
use Rattle.record.specs.Grammar.{Below, Ranged, IsRecord}
use Rattle.record.specs.Reading.{read_of, dwords_of, over}
use Rattle.record.proofs.Records.{Accepts, record_accepted_exactly}
use Rattle.writer.specs.Writing.{buffer_by}
use Rattle.writer.proofs.RoundTrips.{record_writes_back}
use Rattle.c_entry.specs.Flat.{flat_of, raise_of, ByteFits, WordFits, OptionalsFit}
use Rattle.c_entry.proofs.Flats.{raise_flat}
use Rattle.capi.specs.declared.EntryAnswer.{EntryAnswer}
use Rattle.capi.specs.declared.WriteAnswer.{WriteAnswer}
use Rattle.capi.specs.Calls.{Read, Wrote, answer_by, written_by, write_for, record_for}

byte_fits : (b : Option ℕ) → Below (2 ^ 8) (b) → ByteFits b
unfolding ByteFits
byte_fits (Some b) h = h
byte_fits None h = h

word_fits : (w : Option ℕ) → Below (2 ^ 16) (w) → WordFits w
unfolding WordFits
word_fits (Some w) h = h
word_fits None h = h

-- an entry whose value is in the record's ranges is in the flat form's
ranged_fits : (e : Entry) (text slots : List ℕ) → Ranged (value_of e text slots) → OptionalsFit e
unfolding value_of
ranged_fits e text slots r =
    record {
      offset = word_fits e.offset r.offset;
      code = byte_fits e.code r.code;
      len = word_fits e.len r.len;
      port = byte_fits e.port r.port;
      config = byte_fits e.config r.config;
      seq = byte_fits e.seq r.seq;
      unplug = byte_fits e.unplug r.unplug;
    }

-- what both calls answer for a record, and what they leave
pub record ThereAndBack (t out : List ℕ) (r : EntryAnswer) (w : WriteAnswer) (left : List ℕ) : Type 0 where
  pub read : r.number ≡ 0
  pub written : w ≡ record { number = 0; bytes = length t }
  pub buffer : left ≡ over t out

-- a record read by `ck_record_read` and written by `ck_record_write`, with room enough, gives its own bytes
pub record_through_c : (t : List ℕ) (v : EntryValue) → Bytes t → IsRecord t v → (slots exit : List ℕ) → 256 ≤ length slots → (r : EntryAnswer)
    → Read (read_of t (length slots)) (dwords_of t) slots exit r → (out left : List ℕ) → 5227 ≤ length out → (w : WriteAnswer)
    → Wrote t r.entry exit out left w → ThereAndBack t out r w left
unfolding answer_by slots_by write_for record_for written_by buffer_by
record_through_c t v bytes is slots exit enough r p out left room w q =
    let a : Accepts t slots v = (record_accepted_exactly t bytes slots enough v).1 is in
    let e = a.entry in
    let answer : r ≡ record { number = 0; entry = flat_of e } = p.is ∙ rw a.answer in
    let lent : exit ≡ over (dwords_of t) slots = p.slots ∙ rw a.answer in
    let fits : OptionalsFit e = ranged_fits e t (over (dwords_of t) slots) (rw a.value is.ranged) in
    let raised : raise_of r.entry ≡ T.is e = ap (λ (x : EntryAnswer). raise_of x.entry) answer ∙ raise_flat e fits in
    let back = record_writes_back t slots bytes enough v a (length out) room in
    record {
      read = ap (λ (x : EntryAnswer). x.number) answer;
      written = q.is ∙ rw (raised, lent, back.0);
      buffer = q.buffer ∙ rw (raised, lent, back.0, back.1);
    }
