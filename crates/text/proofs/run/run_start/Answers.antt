-- `run::run_start` meets its contract: what is tested is the class. Assumes nothing.
use borrow.Author.Rules.{rules}
use Rattle.text.proofs.run.run_start.Goals as goal

pub returns : goal.returns
returns c = c.start_of.ensures _ (λ b r h e. search rules)
