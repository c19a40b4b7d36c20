-- `put_entry` meets its contract: its parts one behind the other. Assumes nothing.
use borrow.Author.Rules.{rules}
use Rattle.listing_rows.proofs.Putting.{room_behind, short_number, put_size, entry_row_lem}
use Rattle.text.specs.Quote.{bytes}
use native.Mathlib.Omega.{arith}
use Rattle.listing_rows.proofs.put_entry.Goals as goal

pub put_number-requires : goal.put_number-requires
put_number-requires c = omega (arith, room_behind c.requires _ c.put_decimal.ensures.placed)

pub put_number-requires-2 : goal.put_number-requires-2
put_number-requires-2 c =
    omega (arith, room_behind c.requires _ c.put_decimal.ensures.placed, short_number (bytes " kind ") c.args.kind c.ranges.kind.fits, c.put_number.ensures.put.place, put_size c.put_number.ensures.put)

pub returns : goal.returns
returns c =
    record {
      put = entry_row_lem c.requires _ _ _ c.put_decimal.ensures.placed c.put_number.ensures.put c.ranges.kind.fits c.put_number-2.ensures.put c.put.ensures.placed;
      same = search rules;
    }
