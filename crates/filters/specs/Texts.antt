-- What a line or a record puts out: a row, or a record.
use Rattle.std.specs.Prelude.{ℕ, List, [], take}
use Rattle.text.specs.Told.{Told, is, absent, refused}
use Rattle.entry.specs.declared.Entry.{Entry}
use Rattle.scan.specs.declared.Pieces.{Pieces}
use Rattle.scan.specs.declared.Pieces.TheVariants.{Lenient}
use Rattle.scan.specs.Parse.{parse_of}
use Rattle.record.specs.Reading.{read_of}
use Rattle.listing_rows.specs.Rows.{refused_row, entry_row}
use Rattle.units.specs.declared.Framing.{Framing}
use Rattle.units.specs.declared.Framing.TheVariants as Framed
use Rattle.units.specs.declared.Unit.{Unit}
use Rattle.units.specs.declared.Unit.TheVariants as U
use Rattle.stream.specs.Answers.{answer_of, said_by, records_of}
use Rattle.stream.specs.Feeding.{unit_told}
use Rattle.filters.specs.declared.Filter.{Filter}
use Rattle.filters.specs.declared.Filter.TheVariants as F
use Rattle.filters.specs.Seen.{Seen}
use Rattle.filters.specs.Seen as S

-- how a filter's input is cut into units, and how what it puts out is
abbrev pub framing_of : Filter → Framing
framing_of F.Listing = Framed.Lines
framing_of (F.Pack pieces) = Framed.Both
framing_of (F.Unpack pieces) = Framed.Both

abbrev pub put_framing : Filter → Framing
put_framing F.Listing = Framed.Lines
put_framing (F.Pack pieces) = Framed.Both
put_framing (F.Unpack pieces) = Framed.Lines

-- THE ANSWER OF A UNIT: the listing reads lines, leniently; the others read lines and records, as a stream's units are answered
unfoldable pub answer_by : Filter → List ℕ → Told Entry
answer_by F.Listing u = parse_of Lenient u 256
answer_by (F.Pack pieces) u = answer_of pieces u 256
answer_by (F.Unpack pieces) u = answer_of pieces u 256

-- what a row says of it: its kind and how many dwords it has, or its number
unfoldable pub seen_by : Told Entry → Seen
seen_by (is e) = S.Entry e.kind e.dwords
seen_by absent = S.Nothing
seen_by (refused k) = S.Refused k

unfoldable pub seen_of : Filter → List ℕ → Seen
seen_of f u = seen_by (answer_by f u)

-- what a row says of a line by a choice, and of a record
unfoldable pub seen_line : Pieces → List ℕ → Seen
seen_line pieces u = seen_by (parse_of pieces u 256)

unfoldable pub seen_record : List ℕ → Seen
seen_record u = seen_by (read_of u 256)

-- the n-th row
unfoldable pub row_of : ℕ → Seen → List ℕ
row_of n (S.Entry kind dwords) = entry_row n kind dwords
row_of n (S.Refused k) = refused_row n k
row_of n S.Nothing = []

-- how many entries it counts for
unfoldable pub is_entry : Seen → ℕ
is_entry (S.Entry kind dwords) = 1
is_entry (S.Refused k) = 0
is_entry S.Nothing = 0

-- the record of a unit: the bytes of what its entry says; none of one that is refused
unfoldable pub record_by : List ℕ → Told Entry → List ℕ
record_by u told = records_of (said_by u told)

-- what is told of the n-th unit where units are packed: the row of one that is refused
unfoldable pub told_by : ℕ → Seen → List ℕ
told_by n (S.Entry kind dwords) = []
told_by n (S.Refused k) = refused_row n k
told_by n S.Nothing = []

-- ---- a unit as it was cut off, by its bytes in the unit buffer

-- a line that was cut off; a stream of lines cuts off nothing else
unfoldable pub line_told : Unit → List ℕ → Told Entry
line_told (U.Text n) rest = parse_of Lenient (take n rest) 256
line_told U.Long rest = absent
line_told U.Cut rest = absent
line_told U.Open rest = absent
line_told U.Alien rest = absent

unfoldable pub cut_told : Filter → Unit → List ℕ → Told Entry
cut_told F.Listing cut rest = line_told cut rest
cut_told (F.Pack pieces) cut rest = unit_told pieces cut rest 256
cut_told (F.Unpack pieces) cut rest = unit_told pieces cut rest 256
