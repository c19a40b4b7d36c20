-- `put_number` meets its contract: its parts one behind the other. Assumes nothing.
use borrow.Author.Rules.{rules}
use Rattle.listing_rows.proofs.Putting.{word_number}
use native.Mathlib.Omega.{arith}
use Rattle.listing_rows.proofs.put_number.Goals as goal

pub returns : goal.returns
returns c =
    record { put = word_number _ (omega (arith, c.requires)) c.put.ensures.placed c.put_decimal.ensures.placed; same = search rules }
