-- `put_word` meets its contract: the line's number, then the word. Assumes nothing.
use Rattle.unanswered_rows.proofs.Joining.{number_first, on_put}
use Rattle.unanswered_rows.specs.Rows.{word_row}
use Rattle.unanswered_rows.proofs.put_word.Goals as goal

pub returns : goal.returns
unfolding word_row
returns c = on_put (number_first _ c.put_number.ensures c.put_text.ensures)
