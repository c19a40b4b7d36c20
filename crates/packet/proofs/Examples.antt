-- Worked packets, computed: the cut behind n entries, whatever their offsets, and the UUID of exactly four fields. Assumes nothing.
use Rattle.std.specs.Prelude.{None, Some}
use Prim.Native.Nat.{ℕ}
use mathlib.Core.Path.{◌≡◌, refl}
use mathlib.Core.List.{List, [], ◌∷◌, ◌++◌}
use lib.ListN.{replicate}
use Rattle.text.specs.Told as T
use Rattle.text.specs.Quote.{bytes}
use Rattle.tlv.specs.Grammar.{field_bytes}
use Rattle.tlv.specs.Reading.{step_from, field_at, walk_from, walk, parts, filled}
use Rattle.tlv.specs.Number.{number}
use Rattle.bits.specs.Range.{range_of}
use Rattle.book.specs.Search as Search
use Rattle.book.specs.Reading as Reading
use Rattle.book.specs.Finders as Finders
use Rattle.packet.specs.Field as Field
use Rattle.packet.specs.Steps as Steps
use Rattle.packet.specs.Packet as Packet
use Rattle.packet.specs.Packet.{parse_of, uuid_of, places_of}

-- an entry with an offset below 256 and a name
unfoldable pub named : ℕ → List ℕ → List ℕ
named offset name = field_bytes 3 (offset ∷ 0 ∷ field_bytes 4 name)

-- an entry with an offset below 256 and nothing more
unfoldable pub plain : ℕ → List ℕ
plain offset = field_bytes 3 (offset ∷ 0 ∷ [])

-- three entries for kind 2, the last far behind: n is 3, and the highest offset plus one is 8
unfoldable pub three_entries : List ℕ
three_entries = field_bytes 1 (2 ∷ (plain 0 ++ (plain 1 ++ plain 7)))

-- so many fields named UUID for kind 8, and an empty header table
unfoldable pub uuid_book : List ℕ → List ℕ
uuid_book fields = field_bytes 1 (8 ∷ fields) ++ field_bytes 2 (replicate 16 0)

unfoldable pub three_uuids : List ℕ
three_uuids = uuid_book (named 0 (bytes "UUID") ++ (named 1 (bytes "UUID") ++ named 2 (bytes "UUID")))

unfoldable pub four_uuids : List ℕ
four_uuids = uuid_book (named 0 (bytes "UUID") ++ (named 1 (bytes "UUID") ++ (named 2 (bytes "UUID") ++ named 3 (bytes "UUID"))))

-- an entry with an offset below 256 and the type A
unfoldable pub typed : ℕ → List ℕ
typed offset = field_bytes 3 (offset ∷ 0 ∷ field_bytes 5 (bytes "A"))

-- bits 0 to 7 are the packet type, of which 1 is named A
unfoldable pub packet_type : List ℕ
packet_type = field_bytes 6 (0 ∷ 7 ∷ (field_bytes 4 (bytes "Packet Type") ++ field_bytes 7 (1 ∷ 0 ∷ 0 ∷ 0 ∷ bytes "A")))

-- a header table with a typed entry at 4 and an untyped one at 6; and for UUID 1, 2, 3, 4 entries of type A and untyped ones
unfoldable pub latch_book : List ℕ
latch_book =
    field_bytes 1 (8 ∷ (named 0 (bytes "UUID") ++ (named 1 (bytes "UUID") ++ (named 2 (bytes "UUID") ++ named 3 (bytes "UUID")))))
    ++ (field_bytes 2 (replicate 16 0 ++ (typed 4 ++ plain 6))
    ++ field_bytes 2
    ((1 ∷ 0 ∷ 0 ∷ 0 ∷ 2 ∷ 0 ∷ 0 ∷ 0 ∷ 3 ∷ 0 ∷ 0 ∷ 0 ∷ 4 ∷ 0 ∷ 0 ∷ 0 ∷ [])
    ++ (typed 4 ++ (field_bytes 3 (4 ∷ 0 ∷ packet_type) ++ (typed 5 ++ (plain 5 ++ plain 6))))))

unfoldable pub packets_open : Unit {0}
unfolding named plain typed packet_type latch_book three_entries uuid_book three_uuids four_uuids field_bytes step_from field_at walk_from walk parts filled number range_of
    Search.body_at Search.after Search.name_at Search.type_at Search.same_uuid Search.fits Search.wanted Search.first_part Search.first_wanted Search.has_wanted Search.table_want
    Reading.is_name Reading.optional_name Reading.value_body Reading.same_value Reading.values_fill Reading.range_body Reading.ranges_fill Reading.entry_body Reading.same_entry Reading.entries_fill Reading.control_body Reading.uuid_body Reading.table_body Reading.same_table Reading.tables_fill Reading.check_of
    Finders.inner_from Finders.seek_of Finders.count_inside Finders.nth_inside Finders.name_of Finders.type_of
    Field.range_in Field.value_in Field.named_in Field.asks
    Steps.map_from Steps.entry_of Steps.filled Steps.control_places Steps.header_places Steps.values_named Steps.gathered Steps.fitting Steps.type_in Steps.latch_behind Steps.protocol_from Steps.protocol_places Steps.uuid_places
    Packet.is_read_response_or_write_request Packet.is_xdomain Packet.control_at Packet.header_at Packet.entries_of Packet.number_checked Packet.number_of Packet.step_one Packet.places_of Packet.uuid_of Packet.first_from Packet.view_from Packet.packet_of Packet.parse_of
packets_open = tt

-- n = 3: five dwords start their view at 3, three as well, two give 25
pub record CutAtThree : Type 0 where
  pub five : parse_of 2 three_entries (10 ∷ 11 ∷ 12 ∷ 13 ∷ 14 ∷ []) 256 ≡ T.is (record { kind = 2; dwords = 5; uuid = None; start = Some 3 })
  pub three : parse_of 2 three_entries (10 ∷ 11 ∷ 12 ∷ []) 256 ≡ T.is (record { kind = 2; dwords = 3; uuid = None; start = Some 3 })
  pub two : parse_of 2 three_entries (10 ∷ 11 ∷ []) 256 ≡ T.refused 25

pub cut_at_three : CutAtThree
unfolding packets_open
cut_at_three = record { five = refl; three = refl; two = refl }

-- three fields named UUID make none, four make one
pub record OfFourFields : Type 0 where
  pub three : uuid_of 8 three_uuids (1 ∷ 2 ∷ 3 ∷ 4 ∷ []) ≡ None
  pub four : uuid_of 8 four_uuids (1 ∷ 2 ∷ 3 ∷ 4 ∷ []) ≡ Some (record { first = 1; second = 2; third = 3; fourth = 4 })

pub of_four_fields : OfFourFields
unfolding packets_open
of_four_fields = record { three = refl; four = refl }

-- all three steps: step 1 takes no typed header entry; the name that dword 4 latches governs dword 5 and not dword 4; a value without a name
-- latches nothing
pub record Latches : Type 0 where
  pub governs_behind : places_of 8 latch_book (1 ∷ 2 ∷ 3 ∷ 4 ∷ 1 ∷ 7 ∷ 8 ∷ []) ≡ 4 ∷ 16 ∷ 28 ∷ 40 ∷ 113 ∷ 145 ∷ 80 ∷ []
  pub unnamed_does_not : places_of 8 latch_book (1 ∷ 2 ∷ 3 ∷ 4 ∷ 2 ∷ 7 ∷ 8 ∷ []) ≡ 4 ∷ 16 ∷ 28 ∷ 40 ∷ 113 ∷ 154 ∷ 80 ∷ []

pub latches : Latches
unfolding packets_open
latches = record { governs_behind = refl; unnamed_does_not = refl }
