-- The answer of each unit of a stream, as document 02 numbers it, and what its entries say.
use Rattle.std.specs.Prelude.{ℕ, cond, List, [], ◌∷◌, ◌++◌, ltb, length}
use Rattle.text.specs.Told.{Told, is, absent, refused}
use Rattle.entry.specs.declared.Entry.{Entry}
use Rattle.entry.specs.Entry.{EntryValue, value_of}
use Rattle.scan.specs.declared.Pieces.{Pieces}
use Rattle.scan.specs.Parse.{parse_of}
use Rattle.record.specs.Grammar.{record_bytes}
use Rattle.record.specs.Reading.{read_of}
use Rattle.intake.specs.Intake.{starts_a1, taken_dwords}
use Rattle.units.specs.Units.{stated}
use Rattle.units.specs.Kept.{is_long}

-- THE ANSWER OF A UNIT, by the choice and the number of slots. One that starts with A1 is a record: 55 if it says that it has more than 5,227 bytes,
-- 54 if it has fewer than it says, else as a record is read. Any other is read as a line, which gives an overlong one 1 or 2.
unfoldable pub answer_of : Pieces → List ℕ → ℕ → Told Entry
answer_of pieces u room =
    cond (starts_a1 u) (cond (is_long u) (refused 55) (cond (ltb (length u) (stated u)) (refused 54) (read_of u room))) (parse_of pieces u room)

-- what a unit says by its answer: an entry its value, any other nothing
unfoldable pub said_by : List ℕ → Told Entry → List EntryValue
said_by u (is e) = value_of e u (taken_dwords u) ∷ []
said_by u absent = []
said_by u (refused k) = []

-- what units say, given slots for every entry: the values of the entries, in their order
unfoldable pub said_of : Pieces → List (List ℕ) → List EntryValue
said_of pieces [] = []
said_of pieces (u ∷ us) = said_by u (answer_of pieces u 256) ++ said_of pieces us

-- the records of values, one behind the other
unfoldable pub records_of : List EntryValue → List ℕ
records_of [] = []
records_of (v ∷ vs) = record_bytes v ++ records_of vs
