-- The packet of a kind, a book and dwords, and the number that refuses it.
-- Assumes nothing.
use Rattle.refusal.specs.declared.Refusal.{Refusal}
use Rattle.refusal.specs.Told.{told}
use Rattle.std.specs.Prelude.{ℕ, zero, suc, ◌+◌, ◌%◌, ◌≡◌, Bool, true, false, cond, ◌&&◌, ◌||◌, List, [], ◌∷◌, ◌++◌, eqb, ltb, length, drop, None, Option, Result, Some}
use Rattle.text.specs.Told.{Told, is, absent, refused, number_in, unless}
use Rattle.text.specs.Quote.{bytes}
use Rattle.book.specs.declared.Uuid.{Uuid}
use Rattle.book.specs.Reading.{check_of}
use Rattle.book.specs.Finders.{place_of, control_table, uuid_table, entry_count}
use Rattle.packet.specs.declared.Packet.{Packet}
use Rattle.packet.specs.declared.field.Ask.TheVariants.{Holds}
use Rattle.packet.specs.Field.{asks}
use Rattle.packet.specs.Steps.{control_places, header_places, gathered, uuid_places}

-- kinds 2 and 3 have a data view from n onward; kinds 8 and 9 are inter-domain packets
unfoldable pub is_read_response_or_write_request : ℕ → Bool
is_read_response_or_write_request kind = eqb kind 2 || eqb kind 3

unfoldable pub is_xdomain : ℕ → Bool
is_xdomain kind = eqb kind 8 || eqb kind 9

-- the all-zero UUID is the header table's
abbrev pub zero_uuid : Uuid
zero_uuid = record { first = 0; second = 0; third = 0; fourth = 0 }

abbrev pub is_nothing : Option ℕ → Bool
is_nothing (Some p) = false
is_nothing None = true

-- where the control table of a kind stands, and where the header table stands; said of books that have them, as 22 and 23 see to
unfoldable pub control_at : List ℕ → ℕ → ℕ
control_at s kind = place_of (control_table s kind)

unfoldable pub header_at : List ℕ → ℕ
header_at s = place_of (uuid_table s zero_uuid)

-- n: the number of control entries
unfoldable pub entries_of : List ℕ → ℕ → ℕ
entries_of s kind = entry_count s (control_at s kind)

-- ---- numbers 20 to 26, in their order; 0 for none

-- of so many dwords, over a checked book, with so many places lent
unfoldable pub number_checked : ℕ → List ℕ → ℕ → ℕ → ℕ
number_checked kind s count room =
    cond (eqb kind 0) 21
    (cond (is_nothing (control_table s kind)) 22
    (cond (is_xdomain kind && is_nothing (uuid_table s zero_uuid)) 23
    (cond (ltb 256 count) 24
    (cond (is_read_response_or_write_request kind && ltb count (entries_of s kind)) 25
    (cond (ltb room count) 26
    0)))))

-- a number that comes first, else the next
abbrev pub after : ℕ → ℕ → ℕ
after zero k = k
after (suc n) k = suc n

-- over a book that was checked before: 20 is left for one that is too long to have passed
unfoldable pub number_over : ℕ → List ℕ → ℕ → ℕ → ℕ
number_over kind s count room = cond (ltb 65535 (length s)) 20 (number_checked kind s count room)

-- 20 comes first
unfoldable pub number_of : ℕ → List ℕ → ℕ → ℕ → ℕ
number_of kind s count room = after (number_in (check_of s)) (number_checked kind s count room)

-- ---- the packet

-- the place of each dword's entry behind step 1
unfoldable pub step_one : ℕ → List ℕ → List ℕ → List ℕ
step_one kind s ds = header_places s (header_at s) (control_places s (control_at s kind) ds)

-- the place of each dword's entry, 0 for none: kinds 8 and 9 go on, all others have the control entries
unfoldable pub places_of : ℕ → List ℕ → List ℕ → List ℕ
places_of kind s ds = cond (is_xdomain kind) (uuid_places s ds (step_one kind s ds)) (control_places s (control_at s kind) ds)

-- the UUID that step 2 gathers
unfoldable pub uuid_of : ℕ → List ℕ → List ℕ → Option Uuid
uuid_of kind s ds = cond (is_xdomain kind) (gathered s (bytes "UUID") ds (step_one kind s ds)) None

-- the first index from i on at which an entry is as asked
unfoldable pub first_from : (ℕ → Bool) → ℕ → List ℕ → Option ℕ
first_from ok i [] = None
first_from ok i (p ∷ ps) = cond (ok p) (Some i) (first_from ok (suc i) ps)

-- just after what was found
abbrev pub behind : Option ℕ → Option ℕ
behind (Some i) = Some (i + 1)
behind None = None

-- where the data view starts: for kinds 2 and 3 at n; for kinds 8 and 9 just after the first field with `Properties Block Generation`
unfoldable pub view_from : ℕ → List ℕ → List ℕ → Option ℕ
view_from kind s ps =
    cond (is_read_response_or_write_request kind) (Some (entries_of s kind))
    (cond (is_xdomain kind) (behind (first_from (asks Holds s (bytes "Properties Block Generation")) 0 ps))
    None)

-- a start, cut to 16 bits
abbrev pub word : Option ℕ → Option ℕ
word (Some i) = Some (i % 65536)
word None = None

unfoldable pub packet_of : ℕ → List ℕ → List ℕ → Packet
packet_of kind s ds =
    record { kind = kind; dwords = length ds; uuid = uuid_of kind s ds; start = word (view_from kind s (places_of kind s ds)) }

-- ---- the answer

-- what is told: 20 to 26 in their order, else the packet
unfoldable pub parse_of : ℕ → List ℕ → List ℕ → ℕ → Told Packet
parse_of kind s ds room = unless (number_of kind s (length ds) room) (is (packet_of kind s ds))

-- over a book that was checked before
unfoldable pub over_of : ℕ → List ℕ → List ℕ → ℕ → Told Packet
over_of kind s ds room = unless (number_over kind s (length ds) room) (is (packet_of kind s ds))

-- a packet writes its places from the first and no others; a refusal nothing
unfoldable pub list_by : Told Packet → List ℕ → List ℕ → List ℕ
list_by (is p) ps out = ps ++ drop (length ps) out
list_by absent ps out = out
list_by (refused k) ps out = out

-- the answer, and each lent place
pub record Parsed (kind : ℕ) (s ds out exit : List ℕ) (r : Result Packet Refusal) : Type 0 where
  pub answer : told r ≡ parse_of kind s ds (length out)
  pub places : exit ≡ list_by (told r) (places_of kind s ds) out

-- the same over a book that was checked before; over a checked book it gives `Parsed` (`over_is_parsed`)
pub record Over (kind : ℕ) (s ds out exit : List ℕ) (r : Result Packet Refusal) : Type 0 where
  pub answer : told r ≡ over_of kind s ds (length out)
  pub places : exit ≡ list_by (told r) (places_of kind s ds) out
