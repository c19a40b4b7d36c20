-- Record or line, by the first byte.
use Rattle.refusal.specs.declared.Refusal.{Refusal}
use Rattle.std.specs.Prelude.{ℕ, ◌≡◌, Bool, cond, List, eqb, length, get_or, Result}
use Rattle.text.specs.Told.{Told}
use Rattle.entry.specs.declared.Entry.{Entry}
use Rattle.entry.specs.Entry.{EntryValue}
use Rattle.scan.specs.declared.Pieces.{Pieces}
use Rattle.refusal.specs.Told.{told}
use Rattle.scan.specs.Parse.{parse_of, line_dwords, slots_by}
use Rattle.scan.specs.Line.{Line}
use Rattle.record.specs.Grammar.{IsRecord}
use Rattle.record.specs.Reading.{read_of, dwords_of}

-- a text belongs to the line grammar of the choice or to the record grammar, and says this
pub data Belongs (pieces : Pieces) (t : List ℕ) (v : EntryValue) : Type 0 where
  line : Line pieces t v → Belongs pieces t v
  a_record : IsRecord t v → Belongs pieces t v

-- a text that starts with A1 is taken as a record, all others as lines
unfoldable pub starts_a1 : List ℕ → Bool
starts_a1 t = eqb (get_or t 0 0) 0xA1

-- what is told of a text, given the choice and the number of slots
unfoldable pub taken_of : Pieces → List ℕ → ℕ → Told Entry
taken_of pieces t room = cond (starts_a1 t) (read_of t room) (parse_of pieces t room)

-- the dwords that a text would hand over
unfoldable pub taken_dwords : List ℕ → List ℕ
taken_dwords t = cond (starts_a1 t) (dwords_of t) (line_dwords t)

-- the answer, and each slot
pub record Taken (pieces : Pieces) (t out exit : List ℕ) (r : Result Entry Refusal) : Type 0 where
  pub answer : told r ≡ taken_of pieces t (length out)
  pub slots : exit ≡ slots_by (told r) (taken_dwords t) out
