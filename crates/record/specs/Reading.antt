-- What reading a record answers, and what it leaves in the slots.
-- Assumes nothing.
use Rattle.refusal.specs.declared.Refusal.{Refusal}
use Rattle.std.specs.Prelude.{ℕ, zero, suc, ◌+◌, ◌/◌, ◌≡◌, cond, List, [], ◌∷◌, ◌++◌, leb, length, drop, Result}
use Rattle.refusal.specs.Told.{told}
use Rattle.text.specs.Told.{Told, is, absent, refused, unless}
use Rattle.tlv.specs.Number.{number}
use Rattle.entry.specs.declared.Entry.{Entry}
use Rattle.record.specs.Judging.{refusal_of}
use Rattle.record.specs.Finding.{place_of}
use Rattle.record.specs.Gathering.{entry_of}

-- elements written over the first ones of a list: the rest is as found
abbrev pub over : List ℕ → List ℕ → List ℕ
over new l = new ++ drop (length new) l

-- the n dwords from a place on
unfoldable pub dwords_at : List ℕ → ℕ → ℕ → List ℕ
dwords_at t from zero = []
dwords_at t from (suc n) = number 4 t from ∷ dwords_at t (from + 4) n

-- how many dwords a text's data field has
unfoldable pub dword_count : List ℕ → ℕ
dword_count t = (place_of t 0x13).len / 4

-- the dwords of a text's data field
unfoldable pub dwords_of : List ℕ → List ℕ
dwords_of t = dwords_at t (place_of t 0x13).from (dword_count t)

-- what is told of a text, with so many slots lent: 30 to 34, then 35, else the entry
unfoldable pub read_of : List ℕ → ℕ → Told Entry
read_of t slots = unless (refusal_of t) (cond (leb (dword_count t) slots) (is (entry_of t)) (refused 35))

-- the slots by what is told: an entry's dwords over the first of them; a refusal leaves them as found
unfoldable pub slots_by : Told Entry → List ℕ → List ℕ → List ℕ
slots_by (is e) new slots = over new slots
slots_by absent new slots = slots
slots_by (refused n) new slots = slots

-- what a call answers and leaves in the slots
pub record Reading (t slots : List ℕ) (r : Result Entry Refusal) (left : List ℕ) : Type 0 where
  pub answer : told r ≡ read_of t (length slots)
  pub slots_left : left ≡ slots_by (told r) (dwords_of t) slots
