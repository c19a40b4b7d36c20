-- Where the descriptions of a packet stand in the book's bytes: the one bridge between a packet of values and the place list.
-- Assumes nothing.
use Rattle.std.specs.Prelude.{ℕ, ◌+◌, ◌≡◌, List, [], ◌∷◌, ◌++◌, map, length, None, Option, Some}
use Rattle.tlv.specs.Grammar.{fields_bytes}
use Rattle.book.specs.Grammar.{Value, Range, range_piece, Entry, entry_piece, owner_bytes, Table, table_piece}
use Rattle.meaning.specs.Packet.{Description}

-- the place of a description's entry: as many bytes as stand before its tag byte. These are the tables before its own; tag and length of its own,
-- three bytes; the kind byte or the UUID, and the entries before it
pub record Stands (tables : List Table) (d : Description) (place : ℕ) : Type 0 where
  pub before : List Table
  pub table : Table
  pub behind : List Table
  pub among : tables ≡ before ++ (table ∷ behind)
  pub owner_is : d.owner ≡ table.owner
  pub entries_before : List Entry
  pub entries_behind : List Entry
  pub entry_among : table.entries ≡ entries_before ++ (d.entry ∷ entries_behind)
  pub place_is :
      place ≡ length (fields_bytes (map table_piece before)) + 3 + length (owner_bytes table.owner (fields_bytes (map entry_piece entries_before)))

-- 0 for none
abbrev pub PlaceOf : List Table → Option Description → ℕ → Type 0
PlaceOf tables (Some d) place = Stands tables d place
PlaceOf tables None place = place ≡ 0

-- the place of each description
abbrev pub PlacesOf : List Table → List (Option Description) → List ℕ → Type 0
PlacesOf tables [] [] = Unit {0}
PlacesOf tables [] (p ∷ ps) = ⊥
PlacesOf tables (o ∷ os) [] = ⊥
PlacesOf tables (o ∷ os) (p ∷ ps) = PlaceOf tables o p × PlacesOf tables os ps

-- ---- inside an entry

-- how many bytes the body of an entry with these ranges has, and that of a range with these values
abbrev pub entry_up_to : Entry → List Range → ℕ
entry_up_to e ranges = length (entry_piece (record { offset = e.offset; name = e.name; type = e.type; ranges = ranges })).body

abbrev pub range_up_to : Range → List Value → ℕ
range_up_to r values = length (range_piece (record { low = r.low; high = r.high; name = r.name; values = values })).body

-- the place of a range: behind its entry's place come tag and length, three bytes, and what the entry has before it
pub record RangeStands (tables : List Table) (d : Description) (ranges-before : List Range) (place : ℕ) : Type 0 where
  pub entry_place : ℕ
  pub entry_stands : Stands tables d entry_place
  pub place_is : place ≡ entry_place + 3 + entry_up_to d.entry ranges-before

-- the place of a value: the same again behind its range's place
pub record ValueStands (tables : List Table) (d : Description) (ranges-before : List Range) (r : Range) (values-before : List Value) (place : ℕ) : Type 0 where
  pub range_place : ℕ
  pub range_stands : RangeStands tables d ranges-before range_place
  pub place_is : place ≡ range_place + 3 + range_up_to r values-before
