-- What writing a record answers, and what it leaves in the buffer.
-- Assumes nothing.
use Rattle.refusal.specs.declared.Refusal.{Refusal}
use Rattle.std.specs.Prelude.{ℕ, ◌≡◌, cond, List, leb, length, Result}
use Rattle.refusal.specs.Told.{told}
use Rattle.text.specs.Told.{Told, is, absent, refused}
use Rattle.entry.specs.declared.Entry.{Entry}
use Rattle.entry.specs.Entry.{value_of}
use Rattle.record.specs.Grammar.{record_bytes}
use Rattle.record.specs.Reading.{over}
use Rattle.writer.specs.Ranges.{writable}

-- the record of the entry
unfoldable pub bytes_of : List ℕ → Entry → List ℕ → List ℕ
bytes_of text e dwords = record_bytes (value_of e text dwords)

-- what is told with so many bytes of buffer lent: 37, then 36, else the record's length
unfoldable pub write_of : List ℕ → Entry → List ℕ → ℕ → Told ℕ
write_of text e dwords room =
    cond (writable text e dwords)
    (cond (leb (length (bytes_of text e dwords)) room) (is (length (bytes_of text e dwords))) (refused 36))
    (refused 37)

-- the buffer by what is told: the record over the first bytes; a refusal leaves it as found
unfoldable pub buffer_by : Told ℕ → List ℕ → List ℕ → List ℕ
buffer_by (is n) bytes out = over bytes out
buffer_by absent bytes out = out
buffer_by (refused k) bytes out = out

-- what a call answers and leaves in the buffer
pub record Writing (text : List ℕ) (e : Entry) (dwords out : List ℕ) (r : Result ℕ Refusal) (left : List ℕ) : Type 0 where
  pub answer : told r ≡ write_of text e dwords (length out)
  pub buffer : left ≡ buffer_by (told r) (bytes_of text e dwords) out
