-- The questions of a packet, each a sentence over its dwords and their descriptions.
-- Assumes nothing.
use Rattle.std.specs.Prelude.{ℕ, ◌+◌, ◌*◌, ◌%◌, ◌^◌, ◌≤◌, ◌<◌, ◌≡◌, Bool, cond, List, [], ◌∷◌, ◌++◌, eqb, length, get_or, None, Option, Some}
use Rattle.text.specs.Quote.{bytes}
use Rattle.bits.specs.Range.{bit}
use Rattle.book.specs.declared.Uuid.{Uuid}
use Rattle.book.specs.Grammar.{Value, Range, kind, uuid, Table, IsBook}
use Rattle.packet.specs.Packet.{is_xdomain, zero_uuid}
use Rattle.field.specs.declared.Source.{Source}
use Rattle.field.specs.declared.Source.TheVariants as S
use Rattle.field.specs.declared.Field.{Field}
use Rattle.questions.specs.declared.PacketType.{PacketType}
use Rattle.text.specs.Told.{Told, is, absent, refused}
use Rattle.questions.specs.Described.{is_read, is_write}
use Rattle.meaning.specs.First.{First, NoneOf}
use Rattle.meaning.specs.Packet.{Description, Named, RangeNamed, value_of, TypeNamed, IsUuid, Holds, FoundAt, IsPacket}
use Rattle.meaning.specs.Places.{Stands, ValueStands}
use Rattle.meaning.specs.Call.{IsNumber, NoNumber}

-- ---- what is asked of the kind and of the first dwords

-- the route: the first dword above the second; 27 under two
pub record RouteIs (ds : List ℕ) (v : ℕ) : Type 0 where
  pub high : ℕ
  pub low : ℕ
  pub behind : List ℕ
  pub dwords : ds ≡ high ∷ low ∷ behind
  pub value_is : v ≡ high * 2 ^ 32 + low

abbrev pub Route : List ℕ → Told ℕ → Type 0
Route ds (is v) = RouteIs ds v
Route ds absent = ⊥
Route ds (refused n) = (n ≡ 27) × (length ds < 2)

-- cm: whether the top bit of the route is 1; 27 as for the route
abbrev pub Cm : List ℕ → Told Bool → Type 0
Cm ds (is set) = (v : ℕ) × RouteIs ds v × (set ≡ eqb (bit 63 v) 1)
Cm ds absent = ⊥
Cm ds (refused n) = (n ≡ 27) × (length ds < 2)

-- a read packet is kind 1 or 2, a write packet 3 or 4, an inter-domain one 8 or 9 (`Kinds` in Meaning.antt says it of these words)
abbrev pub Read : ℕ → Told Bool → Type 0
Read k told = told ≡ is (is_read k)

abbrev pub Write : ℕ → Told Bool → Type 0
Write k told = told ≡ is (is_write k)

abbrev pub Xdomain : ℕ → Told Bool → Type 0
Xdomain k told = told ≡ is (is_xdomain k)

-- ---- values by the name of their range

module _ (ds : List ℕ) (os : List (Option Description)) where
  -- the value of a range by its name: of the first field with such a range, and of its ranges the first with that name
  pub record Asked (name : List ℕ) (v : ℕ) : Type 0 where
    pub at : ℕ
    pub field : FoundAt (Holds name) os at
    pub range : Range
    pub range_is : RangeNamed name field.value (Some range)
    pub value_is : v ≡ value_of range (get_or ds at 0)

  -- what is told of it: cut to so many bits, or none
  abbrev pub Tells : ℕ → List ℕ → Told ℕ → Type 0
  Tells bits name (is v) = (w : ℕ) × Asked name w × (v ≡ w % 2 ^ bits)
  Tells bits name absent = NoneOf (Holds name) os
  Tells bits name (refused n) = ⊥

  -- adapter to 8 bits
  abbrev pub Adapter : Told ℕ → Type 0
  Adapter = Tells 8 (bytes "Adapter Num")

  -- address and offset to 16: an inter-domain packet has an offset, another an address
  abbrev pub Address : ℕ → Told ℕ → Type 0
  Address k = Tells 16 (cond (is_xdomain k) (bytes "Offset") (bytes "Address"))

  -- sizes to 16, by the kind; the other kinds have none
  abbrev pub Size : ℕ → Told ℕ → Type 0
  Size k told =
      cond (is_read k) (Tells 16 (bytes "Read Size") told)
      (cond (is_write k) (Tells 16 (bytes "Write Size") told)
      (cond (is_xdomain k) (Tells 16 (bytes "Properties Block Size") told)
      (told ≡ absent)))

  -- a UUID by name gathers as in step 2, over the final descriptions
  abbrev pub UuidNamed : List ℕ → Told Uuid → Type 0
  UuidNamed name (is u) = IsUuid name ds os (Some u)
  UuidNamed name absent = IsUuid name ds os None
  UuidNamed name (refused n) = ⊥

-- ---- what a packet keeps, and its view

-- the UUID of step 2 and the start of the view are told as they are
abbrev pub Kept : {A : Type 0} → Option A → Told A → Type 0
Kept (Some a) told = told ≡ is a
Kept None told = told ≡ absent

-- the view: the dwords from its start onward
pub record FromOnward (ds : List ℕ) (start : ℕ) (view : List ℕ) : Type 0 where
  pub front : List ℕ
  pub dwords : ds ≡ front ++ view
  pub so_many : length front ≡ start

abbrev pub ViewTold : List ℕ → Option ℕ → Told (List ℕ) → Type 0
ViewTold ds (Some n) (is view) = FromOnward ds n view
ViewTold ds (Some n) absent = ⊥
ViewTold ds (Some n) (refused k) = ⊥
ViewTold ds None told = told ≡ absent

-- what is handed out where a list is told, a view or a name: no element where there is none
abbrev pub handed_out : Told (List ℕ) → List ℕ
handed_out (is l) = l
handed_out absent = []
handed_out (refused k) = []

-- ---- fields

-- a description comes from the control, header or protocol table, or there is none; the place is that of its entry
abbrev pub IsSource : List Table → Option Description → Source → Type 0
IsSource tables (Some d) (S.Control p) = (k : ℕ) × (d.owner ≡ kind k) × Stands tables d p.at
IsSource tables (Some d) (S.Header p) = (d.owner ≡ uuid zero_uuid) × Stands tables d p.at
IsSource tables (Some d) (S.Protocol p) = (u : Uuid) × (d.owner ≡ uuid u) × (u ≡ zero_uuid → ⊥) × Stands tables d p.at
IsSource tables (Some d) S.Bare = ⊥
IsSource tables None (S.Control p) = ⊥
IsSource tables None (S.Header p) = ⊥
IsSource tables None (S.Protocol p) = ⊥
IsSource tables None S.Bare = Unit {0}

-- the field of a dword
pub record IsField (ds : List ℕ) (tables : List Table) (i : ℕ) (o : Option Description) (f : Field) : Type 0 where
  pub offset_is : f.offset ≡ i
  pub value_is : f.value ≡ get_or ds i 0
  pub source_is : IsSource tables o f.source

module _ (ds : List ℕ) (tables : List Table) (os : List (Option Description)) where
  -- by offset, where there is a dword
  pub record FieldNth (i : ℕ) (f : Field) : Type 0 where
    pub before : List (Option Description)
    pub description : Option Description
    pub behind : List (Option Description)
    pub among : os ≡ before ++ (description ∷ behind)
    pub so_many : length before ≡ i
    pub field : IsField ds tables i description f

  abbrev pub FieldOfOffset : ℕ → Told Field → Type 0
  FieldOfOffset i (is f) = FieldNth i f
  FieldOfOffset i absent = length os ≤ i
  FieldOfOffset i (refused n) = ⊥

  -- the first field that is so
  pub record FieldFirst (So : Option Description → Type 0) (f : Field) : Type 0 where
    pub at : ℕ
    pub found : FoundAt So os at
    pub field : IsField ds tables at found.value f

  abbrev pub FieldSo : (Option Description → Type 0) → Told Field → Type 0
  FieldSo So (is f) = FieldFirst So f
  FieldSo So absent = NoneOf So os
  FieldSo So (refused n) = ⊥

  -- by name, or by the name of a range
  abbrev pub FieldNamed : List ℕ → Told Field → Type 0
  FieldNamed name = FieldSo (Named name)

  abbrev pub FieldHolding : List ℕ → Told Field → Type 0
  FieldHolding name = FieldSo (Holds name)

-- ---- the packet type

module _ (ds : List ℕ) (os : List (Option Description)) where
  -- the first field with a `Packet Type` range, whose value has that name
  pub record TypeNameAsked (name : List ℕ) : Type 0 where
    pub at : ℕ
    pub field : FoundAt (Holds (bytes "Packet Type")) os at
    pub named : TypeNamed field.value (get_or ds at 0) name

  -- 28: its value has no name
  pub record Unnamed : Type 0 where
    pub at : ℕ
    pub field : FoundAt (Holds (bytes "Packet Type")) os at
    pub no_name : (name : List ℕ) → TypeNamed field.value (get_or ds at 0) name → ⊥

  -- the type's name
  abbrev pub TypeNameTold : Told (List ℕ) → Type 0
  TypeNameTold (is name) = TypeNameAsked name
  TypeNameTold absent = NoneOf (Holds (bytes "Packet Type")) os
  TypeNameTold (refused n) = (n ≡ 28) × Unnamed

module _ (ds : List ℕ) (tables : List Table) (os : List (Option Description)) where
  -- the first field with such a range, the range's value, and where the book names it
  pub record TypeAsked (t : PacketType) : Type 0 where
    pub at : ℕ
    pub field : FoundAt (Holds (bytes "Packet Type")) os at
    pub description : Description
    pub description_is : field.value ≡ Some description
    pub range : Range
    pub range_is : First (λ q. q.name ≡ bytes "Packet Type") description.entry.ranges range
    pub value : Value
    pub value_is : First (λ w. w.number ≡ value_of range (get_or ds at 0)) range.values value
    pub number_is : t.value ≡ value_of range (get_or ds at 0)
    pub name_stands : ValueStands tables description range_is.before range value_is.before t.name.at

  abbrev pub TypeTold : Told PacketType → Type 0
  TypeTold (is t) = TypeAsked t
  TypeTold absent = NoneOf (Holds (bytes "Packet Type")) os
  TypeTold (refused n) = (n ≡ 28) × Unnamed ds os

-- ---- 20 to 25 come first; then what is said of the packet

-- a sentence of a packet: over the tables, the descriptions, the UUID and the start of the view
abbrev pub Sentence : Type 0 → Type 1
Sentence A = List Table → List (Option Description) → Option Uuid → Option ℕ → Told A → Type 0

-- no number applies, and the sentence holds of the packet
pub record Answers (k : ℕ) (s ds : List ℕ) {A : Type 0} (Say : Sentence A) (told : Told A) : Type 0 where
  pub book : IsBook s
  pub no_number : NoNumber k s (length ds) (length ds) book
  pub descriptions : List (Option Description)
  pub uuid : Option Uuid
  pub start : Option ℕ
  pub is : IsPacket k book.tables ds descriptions uuid start
  pub says : Say book.tables descriptions uuid start told

-- what a question is told: a number with as many places as dwords, so that 26 does not come, or what its sentence says
pub data Question (k : ℕ) (s ds : List ℕ) {A : Type 0} (Say : Sentence A) : Told A → Type 0 where
  number : (n : ℕ) → IsNumber k s (length ds) (length ds) n → Question k s ds Say (refused n)
  answer : (told : Told A) → Answers k s ds Say told → Question k s ds Say told
