-- `put_neither` meets its contract: the word, the number, the newline. Assumes nothing.
use Rattle.what.proofs.Rows.{neither_row_lem}
use Rattle.what.proofs.row.put_neither.Goals as goal

pub returns : goal.returns
returns c = neither_row_lem _ c.requires c.put.ensures (rw c.number.ensures at c.put_decimal.ensures) c.put-2.ensures
