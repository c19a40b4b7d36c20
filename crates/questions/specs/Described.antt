-- The questions of a described packet: dwords, and for each the place of its entry.
-- Assumes nothing.
use Rattle.std.specs.Prelude.{◌≡◌, ℕ, zero, suc, ◌+◌, ◌*◌, ◌%◌, ◌^◌, Bool, cond, ◌||◌, List, [], ◌∷◌, eqb, ltb, length, get_or, None, Option, Some}
use Rattle.text.specs.Quote.{bytes}
use Rattle.bits.specs.Range.{bit}
use Rattle.book.specs.declared.Uuid.{Uuid}
use Rattle.packet.specs.declared.field.Ask.{Ask}
use Rattle.packet.specs.declared.field.Ask.TheVariants.{Holds}
use Rattle.packet.specs.Field.{range_in, value_in, named_in, asks}
use Rattle.packet.specs.Steps.{gathered}
use Rattle.packet.specs.Packet.{is_xdomain, first_from}
use Rattle.field.specs.declared.Field.{Field}
use Rattle.field.specs.Source.{field_of}
use Rattle.questions.specs.declared.PacketType.{PacketType}
use Rattle.text.specs.Told.{Told, is, absent, refused}
use Rattle.text.specs.Told.{maybe}

-- kinds 1 and 2 read, kinds 3 and 4 write
unfoldable pub is_read : ℕ → Bool
is_read kind = eqb kind 1 || eqb kind 2

unfoldable pub is_write : ℕ → Bool
is_write kind = eqb kind 3 || eqb kind 4

-- the first dword above the second; 27 under two dwords
abbrev pub route_in : List ℕ → Told ℕ
route_in [] = refused 27
route_in (a ∷ []) = refused 27
route_in (a ∷ b ∷ ds) = is (a * 2 ^ 32 + b)

-- its top bit
abbrev pub top_bit : Told ℕ → Told Bool
top_bit (is v) = is (eqb (bit 63 v) 1)
top_bit absent = absent
top_bit (refused k) = refused k

-- a value cut to so many bits
abbrev pub cut : ℕ → Told ℕ → Told ℕ
cut bits (is v) = is (v % 2 ^ bits)
cut bits absent = absent
cut bits (refused k) = refused k

-- a `Packet Type` value with the place of its name; 28 without one
abbrev pub named : ℕ → ℕ → Told PacketType
named value zero = refused 28
named value (suc p) = is (record { value = value; name = record { at = suc p } })

-- by the range, in a dword
abbrev pub type_by : List ℕ → ℕ → ℕ → Told PacketType
type_by s range dword = named (value_in s range dword) (named_in s range dword)

module _ (s ds ps : List ℕ) where
  -- the value of the first range of a name in the dword that was found
  abbrev pub asked_at : List ℕ → Option ℕ → Told ℕ
  asked_at name (Some i) = is (value_in s (range_in s name (get_or ps i 0)) (get_or ds i 0))
  asked_at name None = absent

  -- what is found: the range of the name in the first dword whose description has one, and the dword
  abbrev pub FirstRange : List ℕ → Option (ℕ × ℕ) → Type 0
  FirstRange name (Some f) =
      (i : ℕ) × (first_from (asks Holds s name) 0 ps ≡ Some i) × (f.0 ≡ range_in s name (get_or ps i 0)) × (f.1 ≡ get_or ds i 0)
  FirstRange name None = first_from (asks Holds s name) 0 ps ≡ None

  -- the first dword whose description has a range of the name
  unfoldable pub asked : List ℕ → Told ℕ
  asked name = asked_at name (first_from (asks Holds s name) 0 ps)

  -- adapter to 8 bits
  unfoldable pub adapter_in : Told ℕ
  adapter_in = cut 8 (asked (bytes "Adapter Num"))

  -- address and offset to 16: kinds 8 and 9 have an `Offset`, all others an `Address`
  unfoldable pub address_in : ℕ → Told ℕ
  address_in kind = cut 16 (asked (cond (is_xdomain kind) (bytes "Offset") (bytes "Address")))

  -- sizes to 16: by the kind, and none for the rest
  unfoldable pub size_in : ℕ → Told ℕ
  size_in kind =
      cond (is_read kind) (cut 16 (asked (bytes "Read Size")))
      (cond (is_write kind) (cut 16 (asked (bytes "Write Size")))
      (cond (is_xdomain kind) (cut 16 (asked (bytes "Properties Block Size")))
      absent))

  -- a UUID by name gathers as step 2 does
  unfoldable pub uuid_in : List ℕ → Told Uuid
  uuid_in name = maybe (gathered s name ds ps)

  -- in the dword that was found
  abbrev pub type_at : Option ℕ → Told PacketType
  type_at (Some i) = type_by s (range_in s (bytes "Packet Type") (get_or ps i 0)) (get_or ds i 0)
  type_at None = absent

  -- the first dword whose description has such a range
  unfoldable pub type_in : Told PacketType
  type_in = type_at (first_from (asks Holds s (bytes "Packet Type")) 0 ps)

  -- the field of a dword
  unfoldable pub field_in : ℕ → ℕ → Field
  field_in kind i = field_of kind s (i % 2 ^ 16) (get_or ds i 0) (get_or ps i 0)

  -- by offset, where there is a dword
  unfoldable pub field_at : ℕ → ℕ → Told Field
  field_at kind i = cond (ltb i (length ds)) (is (field_in kind i)) absent

  -- of the dword that was found
  abbrev pub field_found : ℕ → Option ℕ → Told Field
  field_found kind (Some i) = is (field_in kind i)
  field_found kind None = absent

  -- the first with that name, or with a range of that name
  unfoldable pub field_with : Ask → ℕ → List ℕ → Told Field
  field_with ask kind name = field_found kind (first_from (asks ask s name) 0 ps)
