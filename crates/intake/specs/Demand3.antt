-- Demand 3 for lines and records: every accepted line has a record. It is stated over the contracts of the two calls, `read` of crate `intake` and `write`
-- of crate `writer`, so it holds of whatever they answer and leave behind, and over document 02's choice `pieces`, strict or lenient: a line is read by that
-- choice, and a record by any.
-- How to read it: `a ≡ b` is "a equals b"; `P → Q` "if P then Q"; `P → ⊥` "P never holds"; `P × Q` "P and Q"; `(x : A) × P` "there is an x so that P";
-- `(x : A) → P` "for every x, P"; `↔` "exactly when". `Ok x` is an answer that gives x, `Err k` one that refuses by k.
use Rattle.refusal.specs.declared.Refusal.{Refusal}
use Rattle.std.specs.Prelude.{ℕ, ◌≤◌, ◌≡◌, true, false, List, ◌↔◌, length, take, drop, Ok, Result}
use Rattle.tlv.specs.Number.{Bytes}
use Rattle.entry.specs.declared.Entry.{Entry}
use Rattle.entry.specs.Entry.{EntryValue, value_of, Lies, SameEntry}
use Rattle.scan.specs.declared.Pieces.{Pieces}
use Rattle.scan.specs.Line.{Line}
use Rattle.record.specs.Grammar.{record_bytes, IsRecord}
use Rattle.writer.specs.Writing.{Writing}
use Rattle.intake.specs.Intake.{Belongs, starts_a1, Taken}

-- A call of `read` with enough slots: it was lent a text and slots and told the choice, and gave this answer and left the slots so.
pub record ReadCall (pieces : Pieces) (text slots : List ℕ) (answer : Result Entry Refusal) (left : List ℕ) : Type 0 where
  -- The text is bytes, as every lent text is.
  pub bytes : Bytes text
  -- 256 slots are lent, or more.
  pub enough : 256 ≤ length slots
  -- The call keeps its contract.
  pub contract : Taken pieces text slots left answer

-- A call of `write` with enough bytes: it was lent an entry's text and dwords and a buffer, and gave this answer and left the buffer so.
pub record WriteCall (text : List ℕ) (e : Entry) (dwords buffer : List ℕ) (answer : Result ℕ Refusal) (left : List ℕ) : Type 0 where
  -- 5,227 bytes are lent, or more.
  pub enough : 5227 ≤ length buffer
  -- The call keeps its contract.
  pub contract : Writing text e dwords buffer answer left

-- A call wrote exactly these bytes.
pub record Wrote (bytes buffer : List ℕ) (answer : Result ℕ Refusal) (left : List ℕ) : Type 0 where
  -- The answer is their number.
  pub number : answer ≡ Ok (length bytes)
  -- The buffer starts with them.
  pub first : take (length bytes) left ≡ bytes
  -- Behind them it is as found.
  pub rest : drop (length bytes) left ≡ drop (length bytes) buffer

-- An entry, with the text and the dwords that it was read from and into, says v.
pub record Says (text : List ℕ) (e : Entry) (dwords : List ℕ) (v : EntryValue) : Type 0 where
  -- Its task and function lie in the text, its dwords in the slots.
  pub lies : Lies e text dwords
  -- Field by field it is v.
  pub is : value_of e text dwords ≡ v

-- A text that was accepted as entry e, its dwords in the slots, has a record: the bytes that document 01 lays out for v, which is what the text says.
pub record HasRecord (text : List ℕ) (e : Entry) (dwords : List ℕ) (v : EntryValue) : Type 0 where
  -- The entry says v.
  pub says : Says text e dwords v
  -- The bytes for v are a record: v keeps the ranges.
  pub is_record : IsRecord (record_bytes v) v
  -- They are at most 5,227.
  pub short : length (record_bytes v) ≤ 5227
  -- Each is below 256, so they can be lent as a text.
  pub bytes : Bytes (record_bytes v)
  -- Writing the entry writes them.
  pub written : (buffer : List ℕ) (answer : Result ℕ Refusal) (left : List ℕ) → WriteCall text e dwords buffer answer left
      → Wrote (record_bytes v) buffer answer left
  -- Read by the intake, whatever the choice, they are accepted, and the entry is the same.
  pub reads_back : (any : Pieces) (slots : List ℕ) (answer : Result Entry Refusal) (left : List ℕ) → ReadCall any (record_bytes v) slots answer left
      → (f : Entry) × (answer ≡ Ok f) × SameEntry e text dwords f (record_bytes v) left
  -- Writing the entry that was read from them writes them again.
  pub writes_again : (any : Pieces) (slots : List ℕ) (f : Entry) (left buffer : List ℕ) (answer : Result ℕ Refusal) (after : List ℕ)
      → ReadCall any (record_bytes v) slots (Ok f) left → WriteCall (record_bytes v) f left buffer answer after
      → Wrote (record_bytes v) buffer answer after

-- What demand 3 asks of lines and records. What it asks of packets stands in Demand3Packets.
pub record LinesAndRecords (pieces : Pieces) : Type 0 where
  -- Given 256 slots, a text is accepted exactly when it belongs to the line grammar of the choice or to the record grammar.
  pub accepted : (text slots : List ℕ) (answer : Result Entry Refusal) (left : List ℕ) → ReadCall pieces text slots answer left
      → ((e : Entry) × (answer ≡ Ok e)) ↔ ((v : EntryValue) × Belongs pieces text v)
  -- No text belongs to both.
  pub never_both : (text : List ℕ) (v w : EntryValue) → Line pieces text v → IsRecord text w → ⊥
  -- A text says one thing.
  pub one_reading : (text : List ℕ) (v w : EntryValue) → Belongs pieces text v → Belongs pieces text w → v ≡ w
  -- Every accepted line has a record: an accepted text that does not start with A1 is a line, and what it says has a record.
  pub line_has_a_record : (text slots : List ℕ) (e : Entry) (left : List ℕ) → starts_a1 text ≡ false → ReadCall pieces text slots (Ok e) left
      → (v : EntryValue) × Line pieces text v × HasRecord text e left v
  -- Every accepted record is what writing its entry gives: an accepted text that starts with A1 is itself the record of what it says.
  pub record_is_the_writers : (text slots : List ℕ) (e : Entry) (left : List ℕ) → starts_a1 text ≡ true → ReadCall pieces text slots (Ok e) left
      → (v : EntryValue) × (record_bytes v ≡ text) × HasRecord text e left v
  -- A record has at most 5,227 bytes.
  pub record_at_most_5227 : (text : List ℕ) (v : EntryValue) → IsRecord text v → length text ≤ 5227
