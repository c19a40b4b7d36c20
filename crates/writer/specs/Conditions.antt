-- The conditions of numbers 37 and 36, in the order of writing.
-- Assumes nothing.
use Rattle.std.specs.Prelude.{ℕ, ◌<◌, ◌≡◌, List, length}
use Rattle.entry.specs.declared.Entry.{Entry}
use Rattle.entry.specs.Entry.{value_of, Lies}
use Rattle.record.specs.Grammar.{record_bytes, Ranged}

-- the entry's parts lie in what is lent, and it keeps the record's ranges
pub record Writable (text : List ℕ) (e : Entry) (dwords : List ℕ) : Type 0 where
  pub lies : Lies e text dwords
  pub ranged : Ranged (value_of e text dwords)

-- what each number says of an entry and the bytes of buffer lent: 37, that it is not so; then 36, that the buffer is shorter than the record
pub data Refuses (text : List ℕ) (e : Entry) (dwords : List ℕ) (room k : ℕ) : Type 0 where
  not_writable : k ≡ 37 → (Writable text e dwords → ⊥) → Refuses text e dwords room k
  short_buffer : k ≡ 36 → Writable text e dwords → room < length (record_bytes (value_of e text dwords)) → Refuses text e dwords room k
