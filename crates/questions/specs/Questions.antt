-- The questions of a packet, each a function of kind, book and dwords: 20 to 25 first, then the answer over the places of its entries.
-- Assumes nothing.
use Rattle.std.specs.Prelude.{ℕ, ◌≡◌, Bool, List, [], length, drop, Option, Result}
use Rattle.refusal.specs.declared.Refusal.{Refusal}
use Rattle.refusal.specs.Told.{told_maybe}
use Rattle.text.specs.Part.{Slice, OwnDwords}
use Rattle.book.specs.declared.Uuid.{Uuid}
use Rattle.book.specs.Finders.{OwnName}
use Rattle.packet.specs.declared.field.Ask.{Ask}
use Rattle.packet.specs.Field.{name_in}
use Rattle.packet.specs.Packet.{is_xdomain, number_of, places_of, uuid_of, view_from, word}
use Rattle.field.specs.declared.Field.{Field}
use Rattle.questions.specs.declared.PacketType.{PacketType}
use Rattle.text.specs.Told.{Told, is, absent, refused, unless, maybe}
use Rattle.questions.specs.Described as described

module _ (kind : ℕ) (s ds : List ℕ) where
  -- numbers 20 to 25, 0 for none: with a place for each dword, 26 does not come
  unfoldable pub refusal : ℕ
  refusal = number_of kind s (length ds) (length ds)

  -- 20 to 25 come before what is told
  unfoldable pub answer : {A : Type 0} → Told A → Told A
  answer told = unless refusal told

  -- 20 to 25, else no more to tell
  unfoldable pub passed_of : Told (Unit {0})
  passed_of = answer (is tt)

  -- 20 to 25 come first, else a question of the places says what is answered
  pub record Asked {A : Type 0} (Says : List ℕ → Result (Option A) Refusal → Type 0) (r : Result (Option A) Refusal) : Type 0 where
    pub first : (refusal ≡ 0 → ⊥) → told_maybe r ≡ refused refusal
    pub then : refusal ≡ 0 → Says (places_of kind s ds) r

  -- the first dword above the second; 27 under two dwords
  unfoldable pub route_of : Told ℕ
  route_of = answer (described.route_in ds)

  -- the top bit of the route
  unfoldable pub cm_of : Told Bool
  cm_of = answer (described.top_bit (described.route_in ds))

  -- adapter to 8 bits
  unfoldable pub adapter_of : Told ℕ
  adapter_of = answer (described.adapter_in s ds (places_of kind s ds))

  -- address and offset to 16
  unfoldable pub address_of : Told ℕ
  address_of = answer (described.address_in s ds (places_of kind s ds) kind)

  -- sizes to 16
  unfoldable pub size_of : Told ℕ
  size_of = answer (described.size_in s ds (places_of kind s ds) kind)

  -- where the data view starts
  unfoldable pub start_of : Told ℕ
  start_of = answer (maybe (word (view_from kind s (places_of kind s ds))))

  -- the caller's own dwords from the start onward
  abbrev pub view_at : Told ℕ → List ℕ
  view_at (is n) = drop n ds
  view_at absent = []
  view_at (refused k) = []

  -- empty also where there is no view; what the start tells says which
  unfoldable pub view_of : List ℕ
  view_of = view_at start_of

  -- reads, writes, and inter-domain packets, by the kind
  unfoldable pub read_of : Told Bool
  read_of = answer (is (described.is_read kind))

  unfoldable pub write_of : Told Bool
  write_of = answer (is (described.is_write kind))

  unfoldable pub xdomain_of : Told Bool
  xdomain_of = answer (is (is_xdomain kind))

  -- the UUID that step 2 gathered
  unfoldable pub uuid_answer : Told Uuid
  uuid_answer = answer (maybe (uuid_of kind s ds))

  -- a UUID by name gathers over the final descriptions
  unfoldable pub uuid_by_name : List ℕ → Told Uuid
  uuid_by_name name = answer (described.uuid_in s ds (places_of kind s ds) name)

  -- the first `Packet Type`; 28 where its value has no name
  unfoldable pub type_of : Told PacketType
  type_of = answer (described.type_in s ds (places_of kind s ds))

  -- its name, empty where there is none
  abbrev pub name_by : Told PacketType → List ℕ
  name_by (is t) = name_in s t.name.at
  name_by absent = []
  name_by (refused k) = []

  -- the name of the packet type
  unfoldable pub type_name : List ℕ
  type_name = name_by type_of

  -- the field at an offset
  unfoldable pub field_by_offset : ℕ → Told Field
  field_by_offset i = answer (described.field_at s ds (places_of kind s ds) kind i)

  -- the first field of a name, or with a bit range of a name
  unfoldable pub field_by : Ask → List ℕ → Told Field
  field_by ask name = answer (described.field_with s ds (places_of kind s ds) ask kind name)

-- ---- parts of what is lent

-- where the view lies: at its start; where there is none, an empty part is handed out that lies at the start of the dwords
abbrev pub view_place : Told ℕ → ℕ
view_place (is n) = n
view_place absent = 0
view_place (refused k) = 0

-- the data view of a packet: the caller's own dwords from its start onward
abbrev pub DataView : ℕ → List ℕ → Slice → Slice → Type 0
DataView kind s dwords view = OwnDwords dwords (view_place (start_of kind s dwords.now)) (view_of kind s dwords.now) view

-- the place of the value that names a packet type, 0 for none
abbrev pub named_place : Told PacketType → ℕ
named_place (is t) = t.name.at
named_place absent = 0
named_place (refused k) = 0

-- the name of the packet type: the caller's own bytes of the book
abbrev pub TypeNamePart : ℕ → Slice → List ℕ → Slice → Type 0
TypeNamePart kind book ds part = OwnName book (named_place (type_of kind book.now ds)) (type_name kind book.now ds) part
