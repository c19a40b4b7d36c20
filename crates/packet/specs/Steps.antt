-- The steps that describe a packet's dwords: for each dword the place of its entry, 0 while it has none.
-- Assumes nothing.
use Rattle.book.specs.declared.Uuid.{Uuid}
use Rattle.std.specs.Prelude.{ℕ, zero, suc, cond, List, [], ◌∷◌, eqb, None, Option, Some}
use Rattle.text.specs.Quote.{bytes}
use Rattle.book.specs.Finders.{uuid_table, entry_of_offset, entry_of_type}
use Rattle.packet.specs.declared.fill.Pick.{Pick}
use Rattle.packet.specs.declared.fill.Pick.TheVariants.{Any, Typed}
use Rattle.packet.specs.declared.field.Ask.TheVariants.{Named}
use Rattle.packet.specs.Field.{or_else, name_in, range_in, named_in, asks}

-- each element by its index and itself
unfoldable pub map_from : (ℕ → ℕ → ℕ) → ℕ → List ℕ → List ℕ
map_from f i [] = []
map_from f i (p ∷ ps) = f i p ∷ map_from f (suc i) ps

-- the first entry of an offset in a table, of any type, or of the type that is given, where the empty type is no type
unfoldable pub entry_of : Pick → List ℕ → List ℕ → ℕ → ℕ → ℕ
entry_of Any type s table offset = entry_of_offset s table offset
entry_of Typed type s table offset = entry_of_type s table offset type

-- dwords without a description take the entry of their offset
unfoldable pub filled : (ℕ → ℕ) → List ℕ → List ℕ
filled entry = map_from (λ i p. or_else p (entry i)) 0

-- dword i takes the first control entry with offset i
unfoldable pub control_places : List ℕ → ℕ → List ℕ → List ℕ
control_places s table = map_from (λ i d. entry_of Any [] s table i) 0

-- step 1: dwords without a description take the first untyped header entry of that offset
unfoldable pub header_places : List ℕ → ℕ → List ℕ → List ℕ
header_places s table = filled (entry_of Typed [] s table)

-- the values of the fields of that name, in order
unfoldable pub values_named : List ℕ → List ℕ → List ℕ → List ℕ → List ℕ
values_named s name [] ps = []
values_named s name (d ∷ ds) [] = []
values_named s name (d ∷ ds) (p ∷ ps) =
    let later : List ℕ = values_named s name ds ps in
    cond (asks Named s name p) (d ∷ later) later

-- step 2: they are the UUID if there are exactly four, else there is none
abbrev pub exactly_four : List ℕ → Option Uuid
exactly_four [] = None
exactly_four (a ∷ []) = None
exactly_four (a ∷ b ∷ []) = None
exactly_four (a ∷ b ∷ c ∷ []) = None
exactly_four (a ∷ b ∷ c ∷ d ∷ []) = Some (record { first = a; second = b; third = c; fourth = d })
exactly_four (a ∷ b ∷ c ∷ d ∷ e ∷ l) = None

unfoldable pub gathered : List ℕ → List ℕ → List ℕ → List ℕ → Option Uuid
gathered s name ds ps = exactly_four (values_named s name ds ps)

-- step 3, with the place of the value whose name is latched, 0 while none is: the first entry of the offset whose type equals the latched name
-- (untyped while none is latched), else the first untyped one
unfoldable pub fitting : List ℕ → ℕ → ℕ → ℕ → ℕ
fitting s table offset latched =
    or_else (entry_of Typed (name_in s latched) s table offset) (entry_of Typed [] s table offset)

-- the value of the first `Packet Type` range of a description, where it has a name
unfoldable pub type_in : List ℕ → ℕ → ℕ → ℕ
type_in s entry dword = named_in s (range_in s (bytes "Packet Type") entry) dword

-- what is latched behind a dword: what was, else, if an entry was found, the named value of the dword's packet type
unfoldable pub latch_behind : List ℕ → ℕ → ℕ → ℕ → ℕ → ℕ
latch_behind s found entry dword zero = cond (eqb found 0) 0 (type_in s entry dword)
latch_behind s found entry dword (suc latched) = suc latched

-- for each offset upward: an undescribed dword takes the fitting entry, and the latch goes on to the later offsets
unfoldable pub protocol_from : List ℕ → ℕ → ℕ → ℕ → List ℕ → List ℕ → List ℕ
protocol_from s table latched i [] ps = ps
protocol_from s table latched i (d ∷ ds) [] = []
protocol_from s table latched i (d ∷ ds) (p ∷ ps) =
    let found : ℕ = fitting s table i latched in
    let entry : ℕ = or_else p found in
    entry ∷ protocol_from s table (latch_behind s found entry d latched) (suc i) ds ps

unfoldable pub protocol_places : List ℕ → ℕ → List ℕ → List ℕ → List ℕ
protocol_places s table = protocol_from s table 0 0

-- in that UUID's table, if the book has it; else nothing changes
abbrev pub places_in : List ℕ → Option ℕ → List ℕ → List ℕ → List ℕ
places_in s (Some table) ds ps = protocol_places s table ds ps
places_in s None ds ps = ps

abbrev pub places_by : List ℕ → Option Uuid → List ℕ → List ℕ → List ℕ
places_by s (Some uuid) ds ps = places_in s (uuid_table s uuid) ds ps
places_by s None ds ps = ps

-- steps 2 and 3 on the dwords as step 1 left them
unfoldable pub uuid_places : List ℕ → List ℕ → List ℕ → List ℕ
uuid_places s ds ps = places_by s (gathered s (bytes "UUID") ds ps) ds ps
