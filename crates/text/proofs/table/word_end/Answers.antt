-- `table::word_end` meets its contract: a byte is tested by its entry. Assumes nothing.
use borrow.Author.Rules.{rules}
use Rattle.text.proofs.table.word_end.Goals as goal

pub returns : goal.returns
returns c = c.end_of.ensures _ (λ b r h e. search rules)
