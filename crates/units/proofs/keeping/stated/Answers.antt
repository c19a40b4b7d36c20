-- `stated` meets its contract: its bytes are the second and the third. Assumes nothing.
use borrow.Author.Rules.{rules}
use Rattle.units.proofs.keeping.stated.Goals as goal

pub returns : goal.returns
unfolding Rattle.units.specs.Units.stated
returns c = search rules
