-- `put_totals` meets its contract: its parts one behind the other. Assumes nothing.
use borrow.Author.Rules.{rules}
use Rattle.listing_rows.proofs.Putting.{word_length, put_size, totals_row_lem}
use Rattle.text.specs.Quote.{bytes}
use native.Mathlib.Omega.{arith}
use Rattle.listing_rows.proofs.put_totals.Goals as goal

pub put_number-requires-2 : goal.put_number-requires-2
put_number-requires-2 c =
    omega (arith, c.requires, word_length (bytes "lines ") c.args.lines, c.put_number.ensures.put.place, put_size c.put_number.ensures.put)

pub returns : goal.returns
returns c =
    record {
      put = totals_row_lem c.requires _ _ c.put_number.ensures.put c.put_number-2.ensures.put c.put.ensures.placed;
      same = search rules;
    }
