-- The book, as what its bytes are made from, level by level from the inmost out: a value of each level, when it is good, and the field that it
-- makes. Nothing here searches.
-- Assumes nothing.
use Rattle.std.specs.Prelude.{ℕ, ◌≤◌, ◌<◌, ◌^◌, ◌≡◌, List, [], ◌∷◌, ◌++◌, map, length, None, Option, Some}
use Rattle.tlv.specs.Number.{number_bytes}
use Rattle.tlv.specs.Grammar.{Piece, field_bytes, fields_bytes, All, Apart}
use Rattle.book.specs.declared.Uuid.{Uuid}

-- names are 1 to 255 bytes below 128
pub record Name (n : List ℕ) : Type 0 where
  pub some_byte : 1 ≤ length n
  pub at_most : length n ≤ 255
  pub below : All (λ b. b < 128) n

-- P holds of what may be there
abbrev pub Optional : {A : Type 0} → (A → Type 0) → Option A → Type 0
Optional P (Some a) = P a
Optional P None = Unit {0}

-- the text of what may be there, empty for none
abbrev pub text_of : Option (List ℕ) → List ℕ
text_of (Some n) = n
text_of None = []

-- at most one field of that tag, whose body is a name
abbrev pub optional_bytes : ℕ → Option (List ℕ) → List ℕ
optional_bytes tag (Some n) = field_bytes tag n
optional_bytes tag None = []

-- tag 7: four-byte value, then its name
pub record Value : Type 0 where
  pub number : ℕ
  pub name : List ℕ

-- the value fits four bytes, and the name is one
pub record GoodValue (v : Value) : Type 0 where
  pub number_fits : v.number < 256 ^ 4
  pub name_good : Name v.name

-- its field
abbrev pub value_piece : Value → Piece
value_piece v = record { tag = 7; body = number_bytes 4 v.number ++ v.name }

-- tag 6: bit range, low byte and high byte, one 4 (name), then 7s
pub record Range : Type 0 where
  pub low : ℕ
  pub high : ℕ
  pub name : List ℕ
  pub values : List Value

-- low ≤ high ≤ 31, and no value twice in one range
pub record GoodRange (r : Range) : Type 0 where
  pub low_high : r.low ≤ r.high
  pub high_most : r.high ≤ 31
  pub name_good : Name r.name
  pub values_good : All GoodValue r.values
  pub values_apart : Apart (λ v w. v.number ≡ w.number) r.values

-- its field
abbrev pub range_piece : Range → Piece
range_piece r =
    record { tag = 6; body = r.low ∷ r.high ∷ (field_bytes 4 r.name ++ fields_bytes (map value_piece r.values)) }

-- tag 3: entry, two-byte offset, then at most one 4 (name), at most one 5 (packet type), then 6s
pub record Entry : Type 0 where
  pub offset : ℕ
  pub name : Option (List ℕ)
  pub type : Option (List ℕ)
  pub ranges : List Range

-- the offset fits two bytes, and names are names
pub record GoodEntry (e : Entry) : Type 0 where
  pub offset_fits : e.offset < 256 ^ 2
  pub name_good : Optional Name e.name
  pub type_good : Optional Name e.type
  pub ranges_good : All GoodRange e.ranges

-- its field
abbrev pub entry_piece : Entry → Piece
entry_piece e =
    record {
      tag = 3;
      body =
          number_bytes 2 e.offset
          ++ (optional_bytes 4 e.name ++ (optional_bytes 5 e.type ++ fields_bytes (map range_piece e.ranges)));
    }

-- the same offset and type, where no type counts as one
pub record SameEntry (e f : Entry) : Type 0 where
  pub same_offset : e.offset ≡ f.offset
  pub same_type : e.type ≡ f.type

-- what a table belongs to: a kind, or a UUID
pub data Owner : Type 0 where
  kind : ℕ → Owner
  uuid : Uuid → Owner

-- a kind is 1 to 12; a UUID is four dwords
abbrev pub GoodOwner : Owner → Type 0
GoodOwner (kind k) = (1 ≤ k) × (k ≤ 12)
GoodOwner (uuid u) = (u.first < 256 ^ 4) × (u.second < 256 ^ 4) × (u.third < 256 ^ 4) × (u.fourth < 256 ^ 4)

-- tag 1 for a kind, tag 2 for a UUID
abbrev pub owner_tag : Owner → ℕ
owner_tag (kind k) = 1
owner_tag (uuid u) = 2

-- four dwords and what comes behind them
abbrev pub uuid_bytes : Uuid → List ℕ → List ℕ
uuid_bytes u back =
    number_bytes 4 u.first ++ (number_bytes 4 u.second ++ (number_bytes 4 u.third ++ (number_bytes 4 u.fourth ++ back)))

-- kind byte or UUID, and what comes behind
abbrev pub owner_bytes : Owner → List ℕ → List ℕ
owner_bytes (kind k) back = k ∷ back
owner_bytes (uuid u) back = uuid_bytes u back

-- tag 1: control table, kind byte, then entries; tag 2: four dwords of a UUID, then entries
pub record Table : Type 0 where
  pub owner : Owner
  pub entries : List Entry

-- no entry of the same offset and type twice in one table
pub record GoodTable (t : Table) : Type 0 where
  pub owner_good : GoodOwner t.owner
  pub entries_good : All GoodEntry t.entries
  pub entries_apart : Apart SameEntry t.entries

-- its field
abbrev pub table_piece : Table → Piece
table_piece t = record { tag = owner_tag t.owner; body = owner_bytes t.owner (fields_bytes (map entry_piece t.entries)) }

-- the book: at most 65,535 bytes, made from tables, empty allowed, no kind's table and no UUID's table twice
pub record IsBook (s : List ℕ) : Type 0 where
  pub at_most : length s ≤ 65535
  pub tables : List Table
  pub tables_good : All GoodTable tables
  pub tables_apart : Apart (λ t u. t.owner ≡ u.owner) tables
  pub bytes : s ≡ fields_bytes (map table_piece tables)
