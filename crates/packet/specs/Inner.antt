-- What the functions below the packet call promise each other. A reader of the packet call's promise needs nothing from here.
-- Assumes nothing.
use Rattle.book.specs.declared.Uuid.{Uuid}
use Rattle.std.specs.Prelude.{ℕ, zero, suc, ◌≤◌, ◌≡◌, Bool, true, cond, ◌&&◌, List, [], eqb, ltb, length, get_or, set, replicate, None, Option, Some}
use Rattle.text.specs.Told.{Told, is, refused, unless}
use Rattle.text.specs.Quote.{bytes}
use Rattle.text.specs.Same.{same_text}
use Rattle.tlv.specs.Number.{number}
use Rattle.book.specs.declared.seek.Want.{Want}
use Rattle.book.specs.declared.seek.Want.TheVariants as W
use Rattle.book.specs.Search.{first_wanted}
use Rattle.book.specs.Finders.{place_of, type_of, uuid_table}
use Rattle.packet.specs.declared.Tables.{Tables}
use Rattle.packet.specs.declared.Packet.{Packet}
use Rattle.packet.specs.declared.fill.Pick.{Pick}
use Rattle.packet.specs.declared.fill.Pick.TheVariants.{Any, Typed}
use Rattle.packet.specs.Field.{name_in}
use Rattle.packet.specs.Steps.{entry_of, filled, control_places, header_places, gathered, uuid_places, latch_behind}
use Rattle.packet.specs.Packet.{is_xdomain, is_nothing, zero_uuid, control_at, number_checked, view_from, word}

-- ---- one walk over a table

-- what is sought for an offset
abbrev pub want_of : Pick → ℕ → Want
want_of Any offset = W.Offset offset
want_of Typed offset = W.Typed offset

-- the first entry of an offset among the fields of a text from a place on
unfoldable pub entry_from : Pick → List ℕ → List ℕ → ℕ → ℕ → ℕ
entry_from pick name s at offset = place_of (first_wanted (want_of pick offset) name s at)

-- an entry's type is one that counts
abbrev pub picked : Pick → List ℕ → List ℕ → Bool
picked Any type name = true
picked Typed type name = same_text type name

-- a dword of that offset has no description
unfoldable pub bare : List ℕ → ℕ → Bool
bare m offset = ltb offset (length m) && eqb (get_or m offset 0) 0

-- the places with a field put to its offset, if it is an entry that counts and the dword there has no description
unfoldable pub with_entry : Pick → List ℕ → List ℕ → ℕ → ℕ → ℕ → List ℕ → List ℕ
with_entry pick name s tag at from m =
    cond (eqb tag 3 && (bare m (number 2 s from) && picked pick (type_of s at) name)) (set m (number 2 s from) at) m

-- ---- the latch

-- the entries of the latched type, laid out once, when it is known
unfoldable pub laid_out : List ℕ → ℕ → ℕ → ℕ → List ℕ → List ℕ
laid_out s table (suc latched) now m = m
laid_out s table zero zero m = m
laid_out s table zero (suc now) m = filled (entry_of Typed (name_in s (suc now)) s table) m

-- before the first offset: places for the dwords, the untyped entries by their offsets, and none of a type yet
pub record Spread (s : List ℕ) (table : ℕ) (ds ps plain typed : List ℕ) : Type 0 where
  pub book_fits : length s ≤ 65535
  pub places_fit : length ps ≡ length ds
  pub untyped : plain ≡ filled (entry_of Typed [] s table) (replicate (length ds) 0)
  pub none_typed : typed ≡ replicate (length ds) 0

-- what is latched now, and the entries of its type
pub record Latched (s : List ℕ) (table latched found entry dword : ℕ) (typed exit : List ℕ) (r : ℕ) : Type 0 where
  pub latch : r ≡ latch_behind s found entry dword latched
  pub entries : exit ≡ laid_out s table latched r typed

-- ---- the tables of a kind

-- the header table of a kind that asks for it; said of books that have it, as 23 sees to
unfoldable pub header_for : ℕ → List ℕ → Option ℕ
header_for kind s = cond (is_xdomain kind) (uuid_table s zero_uuid) None

-- what is told of it: 23 where it is asked for and not there
unfoldable pub header_of : ℕ → List ℕ → Told (Option ℕ)
header_of kind s = cond (is_xdomain kind && is_nothing (uuid_table s zero_uuid)) (refused 23) (is (header_for kind s))

-- the tables of a kind
abbrev pub tables_of : ℕ → List ℕ → Tables
tables_of kind s = record { control = control_at s kind; header = header_for kind s }

-- what is told: 21 to 26 in their order, else the tables
unfoldable pub open_of : ℕ → List ℕ → ℕ → ℕ → Told Tables
open_of kind s count room = unless (number_checked kind s count room) (is (tables_of kind s))

-- the places and the UUID by given tables
abbrev pub places_with : Option ℕ → List ℕ → List ℕ → List ℕ → List ℕ
places_with (Some table) s ds ps = uuid_places s ds (header_places s table ps)
places_with None s ds ps = ps

abbrev pub uuid_with : Option ℕ → List ℕ → List ℕ → List ℕ → Option Uuid
uuid_with (Some table) s ds ps = gathered s (bytes "UUID") ds (header_places s table ps)
uuid_with None s ds ps = None

pub record Described (header : Option ℕ) (s ds ps exit : List ℕ) (r : Option Uuid) : Type 0 where
  pub uuid : r ≡ uuid_with header s ds ps
  pub places : exit ≡ places_with header s ds ps

-- ---- the packet by its tables

pub record Ready (kind : ℕ) (s : List ℕ) (tables : Tables) (ds ps : List ℕ) : Type 0 where
  pub book_fits : length s ≤ 65535
  pub few : length ds ≤ 256
  pub places_fit : length ps ≡ length ds
  pub control_is : tables.control ≡ control_at s kind

pub record Made (kind : ℕ) (s : List ℕ) (tables : Tables) (ds exit : List ℕ) (r : Packet) : Type 0 where
  pub kind_is : r.kind ≡ kind
  pub dwords_are : r.dwords ≡ length ds
  pub uuid_is : r.uuid ≡ uuid_with tables.header s ds (control_places s tables.control ds)
  pub start_is : r.start ≡ word (view_from kind s exit)
  pub places : exit ≡ places_with tables.header s ds (control_places s tables.control ds)
