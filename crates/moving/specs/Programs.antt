-- What a program runs, and what its input and its output are made of.
use Rattle.std.specs.Prelude.{ℕ, ◌≡◌, List, Result, Ok, Err}
use Rattle.scan.specs.declared.Pieces.{Pieces}
use Rattle.units.specs.declared.Framing.{Framing}
use Rattle.units.specs.declared.Framing.TheVariants as Framed
use Rattle.units.specs.Counting.{Ended}
use Rattle.filters.specs.declared.Filter.{Filter}
use Rattle.filters.specs.declared.Filter.TheVariants as F
use Rattle.channel.specs.Sink.{rows_in}
use Rattle.moving.specs.declared.program.Program.{Program}
use Rattle.moving.specs.declared.program.Program.TheVariants as P

-- the filter that a program runs, or the choice by which it shows
abbrev pub filter_by : Program → Result Filter Pieces
filter_by P.Listing = Ok F.Listing
filter_by (P.Pack pieces) = Ok (F.Pack pieces)
filter_by (P.Unpack pieces) = Ok (F.Unpack pieces)
filter_by (P.Show pieces) = Err pieces

-- what a program's input is made of
abbrev pub framing_by : Program → Framing
framing_by P.Listing = Framed.Lines
framing_by (P.Pack pieces) = Framed.Both
framing_by (P.Unpack pieces) = Framed.Both
framing_by (P.Show pieces) = Framed.Both

-- how many records stand whole in what `pack` puts out, and how many rows in what the others do
abbrev pub WholeIn : Program → List ℕ → ℕ → Type 0
WholeIn P.Listing s n = Ended Framed.Lines s n
WholeIn (P.Pack pieces) s n = Ended Framed.Both s n
WholeIn (P.Unpack pieces) s n = Ended Framed.Lines s n
WholeIn (P.Show pieces) s n = n ≡ rows_in s
