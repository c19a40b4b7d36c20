-- What a question is told, as plain structs: number 0 with `present` 1 and the answer; 0 and 0 where there is none; or the number that refuses
-- the packet. What is not there is 0.
use Rattle.std.specs.Prelude.{ℕ, ◌+◌, ◌≡◌, Bool, List, length}
use Rattle.tlv.specs.Reading.{between}
use Rattle.packet.specs.Field.{name_in}
use Rattle.field.specs.Names.{span_of}
use Rattle.print.specs.Put.{buffer_after}
use Rattle.c_entry.specs.Flat.{absent as no_field, flag_number}
use Rattle.book.specs.declared.Uuid.{Uuid}
use Rattle.field.specs.declared.Source.{Source}
use Rattle.field.specs.declared.Source.TheVariants.{Control, Header, Protocol, Bare}
use Rattle.field.specs.declared.Field.{Field}
use Rattle.field.specs.declared.Range.{Range}
use Rattle.field.specs.declared.Span.{Span}
use Rattle.field.specs.Source.{entry_of}
use Rattle.questions.specs.declared.PacketType.{PacketType}
use Rattle.text.specs.Told.{Told, is, absent, refused}
use Rattle.capi.specs.declared.told.ValueTold.{ValueTold}
use Rattle.capi.specs.declared.told.UuidTold.{UuidTold}
use Rattle.capi.specs.declared.told.TypeTold.{TypeTold}
use Rattle.capi.specs.declared.told.FieldTold.{FieldTold}
use Rattle.capi.specs.declared.told.RangeTold.{RangeTold}
use Rattle.capi.specs.declared.told.NameTold.{NameTold}

-- a number
abbrev pub value_by : Told ℕ → ValueTold
value_by (is v) = record { number = 0; present = 1; value = v }
value_by absent = record { number = 0; present = 0; value = 0 }
value_by (refused k) = record { number = k; present = 0; value = 0 }

-- the same where the value is a number by a conversion
abbrev pub ValueOf : {A : Type 0} → (A → ℕ → Type 0) → Told A → ValueTold → Type 0
ValueOf converts (is a) r = (v : ℕ) × converts a v × (r ≡ value_by (is v))
ValueOf converts absent r = r ≡ value_by absent
ValueOf converts (refused k) r = r ≡ value_by (refused k)

-- yes is 1, no is 0
abbrev pub as_number : Told Bool → Told ℕ
as_number (is b) = is (flag_number b)
as_number absent = absent
as_number (refused k) = refused k

-- what an entry is asked, as one number: the value, or what stands for an absent field; no such question is refused
abbrev pub flat_told : Told ℕ → ℕ
flat_told (is v) = v
flat_told absent = no_field
flat_told (refused k) = no_field

-- a UUID, the zeros where there is none
abbrev pub uuid_by : Told Uuid → UuidTold
uuid_by (is u) = record { number = 0; present = 1; first = u.first; second = u.second; third = u.third; fourth = u.fourth }
uuid_by absent = record { number = 0; present = 0; first = 0; second = 0; third = 0; fourth = 0 }
uuid_by (refused k) = record { number = k; present = 0; first = 0; second = 0; third = 0; fourth = 0 }

-- a packet type: its value, and the place of what names it
abbrev pub type_by : Told PacketType → TypeTold
type_by (is t) = record { number = 0; present = 1; value = t.value; name = t.name.at }
type_by absent = record { number = 0; present = 0; value = 0; name = 0 }
type_by (refused k) = record { number = k; present = 0; value = 0; name = 0 }

-- a description comes from the control, header or protocol table, or there is none
abbrev pub source_number : Source → ℕ
source_number (Control p) = 1
source_number (Header p) = 2
source_number (Protocol p) = 3
source_number Bare = 0

-- a field: offset, value, table and the place of its entry
abbrev pub whole_field : Field → FieldTold
whole_field f =
    record { number = 0; present = 1; offset = f.offset; value = f.value; source = source_number f.source; entry = entry_of f }

abbrev pub field_by : Told Field → FieldTold
field_by (is f) = whole_field f
field_by absent = record { number = 0; present = 0; offset = 0; value = 0; source = 0; entry = 0 }
field_by (refused k) = record { number = k; present = 0; offset = 0; value = 0; source = 0; entry = 0 }

-- a bit range, by its bits, their value and its place
abbrev pub range_by : Told Range → RangeTold
range_by (is g) = record { present = 1; low = g.low; high = g.high; value = g.value; place = g.place.at }
range_by absent = record { present = 0; low = 0; high = 0; value = 0; place = 0 }
range_by (refused k) = record { present = 0; low = 0; high = 0; value = 0; place = 0 }

-- where a name stands, and how many bytes it has
abbrev pub name_by : Span → NameTold
name_by p = record { at = p.at; len = p.len }

-- the one part of the book that is told as the name at a place, and what it holds
pub record NamePart (s : List ℕ) (place : ℕ) (r : NameTold) : Type 0 where
  pub is : r ≡ name_by (span_of s place)
  pub holds : between s r.at (r.at + r.len) ≡ name_in s place

-- the field that an entry makes of a value: of its ranges, offset and table say nothing
abbrev pub field_with : ℕ → ℕ → Field
field_with entry value = record { offset = 0; value = value; source = Protocol (record { at = entry }) }

-- the bit range at a place with a value: of the value's name, its bits say nothing
abbrev pub range_with : ℕ → ℕ → Range
range_with place value = record { low = 0; high = 0; value = value; place = record { at = place } }

-- a name's length, and each byte of the buffer: the name over the first where all of it fits, else as found
pub record Copied (name out exit : List ℕ) (r : ℕ) : Type 0 where
  pub size : r ≡ length name
  pub buffer : exit ≡ buffer_after out 0 name
