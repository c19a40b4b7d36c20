-- What a packet is, in document 01's order and words, over the tables of its book as values: the list that `IsBook` gives. No byte place stands
-- here, and nothing searches.
-- Assumes nothing.
use Rattle.std.specs.Prelude.{ℕ, suc, ◌<◌, ◌≡◌, true, cond, List, [], ◌∷◌, eqb, length, get_or, None, Option, Some}
use Rattle.text.specs.Quote.{bytes}
use Rattle.bits.specs.Range.{range_of}
use Rattle.book.specs.declared.Uuid.{Uuid}
use Rattle.book.specs.Grammar.{Value, Range, Entry, Owner, kind, uuid, Table}
use Rattle.packet.specs.Packet.{is_read_response_or_write_request, is_xdomain, zero_uuid}
use Rattle.meaning.specs.First.{NoneOf, First, FirstOf, Else}

-- ---- descriptions

-- a description: an entry, and whose table it comes from. A kind's is the control table, the all-zero UUID's the header table, another UUID's a
-- protocol table
pub record Description : Type 0 where
  pub owner : Owner
  pub entry : Entry

-- an entry of an offset, whatever its type
abbrev pub OfOffset : ℕ → Entry → Type 0
OfOffset i e = e.offset ≡ i

-- an entry of an offset and a type; `none` is an untyped one
abbrev pub OfType : ℕ → Option (List ℕ) → Entry → Type 0
OfType i type e = (e.offset ≡ i) × (e.type ≡ type)

-- what is taken from a table: the first of its entries that is so, or nothing where none is
abbrev pub Taken : (Entry → Type 0) → Table → Option Description → Type 0
Taken So t (Some d) = (d.owner ≡ t.owner) × First So t.entries d.entry
Taken So t None = NoneOf So t.entries

-- the field is named so
abbrev pub Named : List ℕ → Option Description → Type 0
Named name (Some d) = d.entry.name ≡ Some name
Named name None = ⊥

-- the bit ranges of a description
abbrev pub ranges_of : Option Description → List Range
ranges_of (Some d) = d.entry.ranges
ranges_of None = []

-- its range of a name: of one name the first counts
abbrev pub RangeNamed : List ℕ → Option Description → Option Range → Type 0
RangeNamed name o r = FirstOf (λ q. q.name ≡ name) (ranges_of o) r

-- the value of a range: the dword shifted down by the low bit, cut to high - low + 1 bits
abbrev pub value_of : Range → ℕ → ℕ
value_of r dword = range_of dword r.low r.high

-- the value that a range lists for a number; it has the name
abbrev pub ValueNumbered : Range → ℕ → Option Value → Type 0
ValueNumbered r number v = FirstOf (λ w. w.number ≡ number) r.values v

-- the description has a `Packet Type` range whose value has that name
pub record TypeNamed (o : Option Description) (dword : ℕ) (name : List ℕ) : Type 0 where
  pub range : Range
  pub range_is : RangeNamed (bytes "Packet Type") o (Some range)
  pub value : Value
  pub value_is : ValueNumbered range (value_of range dword) (Some value)
  pub name_is : value.name ≡ name

-- ---- each dword

-- something holds of each dword: of its offset, of itself and of its description
abbrev pub Each : (ℕ → ℕ → Option Description → Type 0) → ℕ → List ℕ → List (Option Description) → Type 0
Each P i [] [] = Unit {0}
Each P i [] (o ∷ os) = ⊥
Each P i (d ∷ ds) [] = ⊥
Each P i (d ∷ ds) (o ∷ os) = P i d o × Each P (suc i) ds os

-- the values of the fields of a name, in order
module _ (name : List ℕ) where
  pub data Gathers : List ℕ → List (Option Description) → List ℕ → Type 0 where
    end : Gathers [] [] []
    one : {d : ℕ} {ds : List ℕ} {o : Option Description} {os : List (Option Description)} {l : List ℕ}
        → Named name o → Gathers ds os l → Gathers (d ∷ ds) (o ∷ os) (d ∷ l)
    other : {d : ℕ} {ds : List ℕ} {o : Option Description} {os : List (Option Description)} {l : List ℕ}
        → (Named name o → ⊥) → Gathers ds os l → Gathers (d ∷ ds) (o ∷ os) l

-- they are the UUID if there are exactly four, else none
abbrev pub four : Uuid → List ℕ
four u = u.first ∷ u.second ∷ u.third ∷ u.fourth ∷ []

abbrev pub IsUuid : List ℕ → List ℕ → List (Option Description) → Option Uuid → Type 0
IsUuid name ds os (Some u) = Gathers name ds os (four u)
IsUuid name ds os None = (u : Uuid) → Gathers name ds os (four u) → ⊥

-- ---- the steps

-- dword i takes the first control entry with offset i
abbrev pub Control : Table → ℕ → Option Description → Type 0
Control control i = Taken (OfOffset i) control

-- step 1: dwords without a description take the first untyped header entry of that offset
abbrev pub StepOne : Table → Table → ℕ → Option Description → Type 0
StepOne control header i = Else (Control control i) (Taken (OfType i None) header)

-- step 3, over a protocol's table: `before` is what describes a dword behind step 1
module _ (ds : List ℕ) (before : ℕ → Option Description → Type 0) (protocol : Table) where
  -- the first entry whose type equals the latched name (untyped while none is latched), else the first untyped one
  abbrev pub Fits : Option (List ℕ) → ℕ → Option Description → Type 0
  Fits latched i = Else (Taken (OfType i latched) protocol) (Taken (OfType i None) protocol)

  -- an undescribed dword takes it
  abbrev pub Takes : Option (List ℕ) → ℕ → Option Description → Type 0
  Takes latched i = Else (before i) (Fits latched i)

  -- an offset latches a name, where nothing is latched before: an entry is found, and the dword's description names its packet type so
  pub record Latches (j : ℕ) (name : List ℕ) : Type 0 where
    pub found : Description
    pub finds : Fits None j (Some found)
    pub described : Option Description
    pub describes : Takes None j described
    pub named : TypeNamed described (get_or ds j 0) name

  -- the name that governs an offset: that of the first offset below it that latches one
  abbrev pub Governs : ℕ → Option (List ℕ) → Type 0
  Governs i (Some name) = (j : ℕ) × (j < i) × Latches j name × ((h : ℕ) → h < j → (n : List ℕ) → Latches h n → ⊥)
  Governs i None = (h : ℕ) → h < i → (n : List ℕ) → Latches h n → ⊥

  -- what describes dword i behind step 3
  pub record StepThree (i : ℕ) (o : Option Description) : Type 0 where
    pub latched : Option (List ℕ)
    pub governs : Governs i latched
    pub takes : Takes latched i o

-- the table of a kind or a UUID, if the book has it
abbrev pub TableOf : List Table → Owner → Option Table → Type 0
TableOf tables owner = FirstOf (λ t. t.owner ≡ owner) tables

-- the table that step 3 reads: that UUID's, if there is a UUID and the book has it; the all-zero UUID's is the header table
abbrev pub ProtocolTable : List Table → Option Uuid → Option Table → Type 0
ProtocolTable tables (Some u) t = TableOf tables (uuid u) t
ProtocolTable tables None t = t ≡ None

-- what describes dword i in the end: step 3 has its say, or it is skipped
abbrev pub Behind : List ℕ → (ℕ → Option Description → Type 0) → Option Table → ℕ → Option Description → Type 0
Behind ds before (Some protocol) = StepThree ds before protocol
Behind ds before None = before

-- kinds 8 and 9 go on: step 1, the UUID of step 2, and step 3
pub record GoesOn (tables : List Table) (control : Table) (ds : List ℕ) (os : List (Option Description)) (u : Option Uuid) : Type 0 where
  pub header : Table
  pub header_is : TableOf tables (uuid zero_uuid) (Some header)
  pub first : List (Option Description)
  pub first_are : Each (λ i d. StepOne control header i) 0 ds first
  pub uuid_is : IsUuid (bytes "UUID") ds first u
  pub protocol : Option Table
  pub protocol_is : ProtocolTable tables u protocol
  pub each : Each (λ i d. Behind ds (StepOne control header) protocol i) 0 ds os

-- all others have the control entries, and no UUID
pub record Stays (control : Table) (ds : List ℕ) (os : List (Option Description)) (u : Option Uuid) : Type 0 where
  pub each : Each (λ i d. Control control i) 0 ds os
  pub no_uuid : u ≡ None

-- ---- the data view

-- a field has a range of that name
abbrev pub Holds : List ℕ → Option Description → Type 0
Holds name o = (r : Range) × RangeNamed name o (Some r)

-- the first field that is so, behind n others
pub record FoundAt (So : Option Description → Type 0) (os : List (Option Description)) (n : ℕ) : Type 0 where
  pub value : Option Description
  pub first : First So os value
  pub so_many : length first.before ≡ n

-- just after the first field that is so, else none
abbrev pub JustAfter : (Option Description → Type 0) → List (Option Description) → Option ℕ → Type 0
JustAfter So os (Some n) = (m : ℕ) × FoundAt So os m × (n ≡ suc m)
JustAfter So os None = NoneOf So os

-- where the view starts: for kinds 2 and 3 at n, the number of control entries; for kinds 8 and 9 just after the first field with
-- `Properties Block Generation`, else none; for other kinds none
abbrev pub View : ℕ → Table → List (Option Description) → Option ℕ → Type 0
View k control os start =
    cond (is_read_response_or_write_request k) (start ≡ Some (length control.entries))
    (cond (is_xdomain k) (JustAfter (Holds (bytes "Properties Block Generation")) os start)
    (start ≡ None))

-- ---- the packet

-- what a kind, the book's tables and dwords make: a description of each dword or none, a UUID or none, where the view starts or none
pub record IsPacket (k : ℕ) (tables : List Table) (ds : List ℕ) (os : List (Option Description)) (u : Option Uuid) (start : Option ℕ)
    : Type 0 where
  pub control : Table
  pub control_is : TableOf tables (kind k) (Some control)
  pub described : cond (is_xdomain k) (GoesOn tables control ds os u) (Stays control ds os u)
  pub view : View k control os start

-- ---- the numbers

-- 25: kind 2 or 3, fewer dwords than table entries
pub record TooFew (k : ℕ) (tables : List Table) (count : ℕ) : Type 0 where
  pub viewing : is_read_response_or_write_request k ≡ true
  pub control : Table
  pub control_is : TableOf tables (kind k) (Some control)
  pub fewer : count < length control.entries

-- 21 to 26, of so many dwords and so many places lent: the kind is 0; no control table for the kind; kind 8 or 9 and no header table; more than
-- 256 dwords; too few dwords; fewer places than dwords. 20 is for a text that is no book and has no tables
abbrev pub Refuses : ℕ → List Table → ℕ → ℕ → ℕ → Type 0
Refuses k tables count room number =
    cond (eqb number 21) (k ≡ 0)
    (cond (eqb number 22) (TableOf tables (kind k) None)
    (cond (eqb number 23) ((is_xdomain k ≡ true) × TableOf tables (uuid zero_uuid) None)
    (cond (eqb number 24) (256 < count)
    (cond (eqb number 25) (TooFew k tables count)
    (cond (eqb number 26) (room < count)
    ⊥)))))
