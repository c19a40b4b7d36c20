-- `put_number` meets its contract: the word, then the number. Assumes nothing.
use Rattle.unanswered_rows.proofs.Joining.{number_on}
use Rattle.unanswered_rows.proofs.parts.put_number.Goals as goal

pub returns : goal.returns
returns c = number_on _ c.requires c.put.ensures c.put_decimal.ensures
