-- `run::run_end` meets its contract: what is tested is the class. Assumes nothing.
use borrow.Author.Rules.{rules}
use Rattle.text.proofs.run.run_end.Goals as goal

pub returns : goal.returns
returns c = c.end_of.ensures _ (λ b r h e. search rules)
