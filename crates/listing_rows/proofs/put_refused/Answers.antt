-- `put_refused` meets its contract: its parts one behind the other. Assumes nothing.
use borrow.Author.Rules.{rules}
use Rattle.listing_rows.proofs.Putting.{room_behind, refused_row_lem}
use native.Mathlib.Omega.{arith}
use Rattle.listing_rows.proofs.put_refused.Goals as goal

pub put_number-requires : goal.put_number-requires
put_number-requires c = omega (arith, room_behind c.requires _ c.put_decimal.ensures.placed)

pub returns : goal.returns
returns c =
    record {
      put = refused_row_lem c.requires _ _ c.put_decimal.ensures.placed c.put_number.ensures.put c.put.ensures.placed;
      same = search rules;
    }
