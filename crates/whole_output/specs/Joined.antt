-- `pack` into `unpack`, and into `pack` again: what comes out for an input.
-- How to read it: as Chains; `map f l` is f of each of l, in their order.
use Rattle.std.specs.Prelude.{ℕ, ◌+◌, ◌≡◌, List, [], ◌∷◌, ◌++◌, map, length}
use Rattle.tlv.specs.Number.{Bytes}
use Rattle.entry.specs.Entry.{EntryValue}
use Rattle.scan.specs.declared.Pieces.{Pieces}
use Rattle.record.specs.Grammar.{record_bytes}
use Rattle.listing_rows.specs.Rows.{entry_row, totals_row}
use Rattle.units.specs.declared.Framing.TheVariants.{Both}
use Rattle.units.specs.Units.{Units}
use Rattle.stream.specs.Answers.{said_of}
use Rattle.filters.specs.declared.Filter.TheVariants as F
use Rattle.whole_output.specs.Output.{packing_of, unpacking_of}
use Rattle.whole_output.specs.Chains.{Went}

-- the rows of values, the first of which stands behind n others: each with its kind and how many dwords it has
unfoldable pub value_rows : ℕ → List EntryValue → List ℕ
value_rows n [] = []
value_rows n (v ∷ vs) = entry_row (n + 1) v.kind (length v.dwords) ++ value_rows (n + 1) vs

-- values, listed: a row for each, numbered from 1, then their number, twice
unfoldable pub value_listing : List EntryValue → List ℕ
value_listing vs = value_rows 0 vs ++ totals_row (length vs) (length vs)

-- What `pack` puts out by its choice for an input s, which is bytes, with the units us, as `unpack` takes it, by any choice.
pub record PackIntoUnpack (pieces : Pieces) : Type 0 where
  -- Its units are the records of what the input's lines and records say, in their order: none is split, joined with another, lost or made up.
  pub records_are : (s : List ℕ) (us : List (List ℕ)) → Bytes s → Units Both s us → Units Both (packing_of pieces us) (map record_bytes (said_of pieces us))
  -- `unpack` lists them: each with its kind and number of dwords, none refused; units and entries are both their number.
  pub listing_is : (s : List ℕ) (us : List (List ℕ)) → Bytes s → Units Both s us → (any : Pieces) → unpacking_of any (map record_bytes (said_of pieces us)) ≡ value_listing (said_of pieces us)
  -- The same of the calls: whatever parts and rooms either has, with all that `pack` put out as its input `unpack` puts out that listing.
  pub piped : (s : List ℕ) (us : List (List ℕ)) → Units Both s us → (any : Pieces) (packed told out told' : List ℕ) → Went (F.Pack pieces) s packed told → Went (F.Unpack any) packed out told'
      → out ≡ value_listing (said_of pieces us)

-- The accident: what `pack` put out is given to `pack` again, by any choice.
pub record PackTwice (pieces : Pieces) : Type 0 where
  -- The same bytes come out, whatever the input, and whatever parts and rooms either has.
  pub same_bytes : (s : List ℕ) (any : Pieces) (packed told again told' : List ℕ) → Went (F.Pack pieces) s packed told → Went (F.Pack any) packed again told' → again ≡ packed
  -- No unit of it is refused: the second tells the totals alone, and both are the number of the records.
  pub none_refused : (s : List ℕ) (us : List (List ℕ)) → Units Both s us → (any : Pieces) (packed told again told' : List ℕ) → Went (F.Pack pieces) s packed told → Went (F.Pack any) packed again told'
      → told' ≡ totals_row (length (said_of pieces us)) (length (said_of pieces us))
