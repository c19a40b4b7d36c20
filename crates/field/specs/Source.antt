-- A field of a packet: a dword, its offset, and the table that its description comes from.
-- Assumes nothing.
use Rattle.std.specs.Prelude.{ℕ, zero, suc, Bool, false, cond, ◌&&◌, List, leb, ltb, None, Option, Some}
use Rattle.tlv.specs.Reading.{field_at}
use Rattle.book.specs.Search.{at_field}
use Rattle.book.specs.Finders.{control_table, uuid_table}
use Rattle.packet.specs.Packet.{zero_uuid}
use Rattle.field.specs.declared.Source.{Source}
use Rattle.field.specs.declared.Source.TheVariants.{Control, Header, Protocol, Bare}
use Rattle.field.specs.declared.Field.{Field}

-- an entry stands in a table: its place is one of the table's body
unfoldable pub stands_in : List ℕ → Option ℕ → ℕ → Bool
stands_in s (Some table) entry = at_field (λ tag from to. leb from entry && ltb entry to) false (field_at s table)
stands_in s None entry = false

-- a description comes from the control, header or protocol table, or there is none
unfoldable pub source_of : ℕ → List ℕ → ℕ → Source
source_of kind s zero = Bare
source_of kind s (suc p) =
    cond (stands_in s (control_table s kind) (suc p)) (Control (record { at = suc p }))
    (cond (stands_in s (uuid_table s zero_uuid) (suc p)) (Header (record { at = suc p }))
    (Protocol (record { at = suc p })))

-- the place of the entry, 0 for none
abbrev pub place_in : Source → ℕ
place_in (Control p) = p.at
place_in (Header p) = p.at
place_in (Protocol p) = p.at
place_in Bare = 0

abbrev pub entry_of : Field → ℕ
entry_of field = place_in field.source

-- the field of a dword, by the place of its entry
unfoldable pub field_of : ℕ → List ℕ → ℕ → ℕ → ℕ → Field
field_of kind s offset dword entry = record { offset = offset; value = dword; source = source_of kind s entry }
