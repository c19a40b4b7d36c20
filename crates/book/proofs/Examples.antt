-- A small book, what is found in it, and books that break one rule each, all computed. Assumes nothing.
use Rattle.std.specs.Prelude.{None, Some}
use Prim.Native.Nat.{ℕ}
use mathlib.Core.Path.{◌≡◌, refl}
use mathlib.Core.List.{List, [], ◌∷◌, ◌++◌}
use Rattle.text.specs.Quote.{bytes}
use Rattle.tlv.specs.Number.{number, number_bytes}
use Rattle.tlv.specs.Grammar.{field_bytes}
use Rattle.tlv.specs.Reading.{step_from, field_at, walk_from, walk, parts, filled}
use Rattle.text.specs.Told.{refused}
use Rattle.book.specs.Search.{
  body_at,
  after,
  name_at,
  type_at,
  same_uuid,
  fits,
  wanted,
  first_part,
  first_wanted,
  table_want,
}
use Rattle.book.specs.Reading.{
  is_name,
  optional_name,
  value_body,
  same_value,
  values_fill,
  range_body,
  ranges_fill,
  entry_body,
  same_entry,
  entries_fill,
  control_body,
  uuid_body,
  table_body,
  same_table,
  tables_fill,
  accepted,
  check_of,
}
use Rattle.book.specs.Finders.{
  inner_from,
  seek_of,
  count_inside,
  entry_count,
  nth_inside,
  control_table,
  uuid_table,
  entry_of_offset,
  entry_of_type,
  range_of_name,
  value_of_number,
  name_of,
  type_of,
}

-- one word to open what the facts compute with
computed : Unit {0}
unfolding number number_bytes field_bytes step_from field_at walk_from walk parts filled body_at after name_at type_at same_uuid fits wanted first_part first_wanted table_want is_name optional_name value_body same_value values_fill range_body ranges_fill entry_body same_entry entries_fill control_body uuid_body table_body same_table tables_fill check_of inner_from seek_of count_inside nth_inside name_of type_of
computed = tt

-- a bit range of that low and high bit, named r, whose value 5 is named v
range : ℕ → ℕ → List ℕ
range low high = field_bytes 6 (low ∷ high ∷ (field_bytes 4 (bytes "r") ++ field_bytes 7 (number_bytes 4 5 ++ bytes "v")))

-- the control table of kind 2: an entry of offset 1 and type t with that range, and one of offset 1 with the name n
control : List ℕ → List ℕ
control r = field_bytes 1 (2 ∷ (field_bytes 3 (1 ∷ 0 ∷ (field_bytes 5 (bytes "t") ++ r)) ++ field_bytes 3 (1 ∷ 0 ∷ field_bytes 4 (bytes "n"))))

-- the header table, with no entry
header : List ℕ
header = field_bytes 2 (0 ∷ 0 ∷ 0 ∷ 0 ∷ 0 ∷ 0 ∷ 0 ∷ 0 ∷ 0 ∷ 0 ∷ 0 ∷ 0 ∷ 0 ∷ 0 ∷ 0 ∷ 0 ∷ [])

book : List ℕ
book = control (range 0 31) ++ header

book_accepted : check_of book ≡ accepted
unfolding computed range control header book
book_accepted = refl

-- the table stands at 0, its entries at 4 and 30, the first one's range at 13, the range's value at 22
finds_control_table : control_table book 2 ≡ Some 0
unfolding computed range control header book
finds_control_table = refl

finds_no_other : control_table book 3 ≡ None
unfolding computed range control header book
finds_no_other = refl

finds_header_table : uuid_table book (record { first = 0; second = 0; third = 0; fourth = 0 }) ≡ Some 39
unfolding computed range control header book
finds_header_table = refl

finds_first_of_offset : entry_of_offset book 0 1 ≡ 4
unfolding computed range control header book
finds_first_of_offset = refl

finds_untyped : entry_of_type book 0 1 [] ≡ 30
unfolding computed range control header book
finds_untyped = refl

finds_range : range_of_name book 4 (bytes "r") ≡ 13
unfolding computed range control header book
finds_range = refl

finds_value : value_of_number book 13 5 ≡ 22
unfolding computed range control header book
finds_value = refl

reads_value_name : name_of book 22 ≡ bytes "v"
unfolding computed range control header book
reads_value_name = refl

counts_entries : entry_count book 0 ≡ 2
unfolding computed range control header book
counts_entries = refl

-- a high bit of 32; a low bit above the high bit; a table twice; an entry with its parts in another order; a byte behind the last table
high_bit_32 : check_of (control (range 0 32)) ≡ refused 20
unfolding computed range control
high_bit_32 = refl

low_above_high : check_of (control (range 4 3)) ≡ refused 20
unfolding computed range control
low_above_high = refl

header_twice : check_of (header ++ header) ≡ refused 20
unfolding computed header
header_twice = refl

type_before_name : check_of (field_bytes 1 (2 ∷ field_bytes 3 (0 ∷ 0 ∷ (field_bytes 5 (bytes "t") ++ field_bytes 4 (bytes "n"))))) ≡ refused 20
unfolding computed
type_before_name = refl

byte_behind : check_of (header ++ (0 ∷ [])) ≡ refused 20
unfolding computed header
byte_behind = refl
