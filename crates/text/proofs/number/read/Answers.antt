-- `number::read` meets its contract: no digit, or few, or more, each by its own reader. Assumes nothing.
use Rattle.text.proofs.Numbers.{none_there}
use Rattle.text.proofs.number.read.Goals as goal

pub returns-then-s-from : goal.returns-then-s-from
returns-then-s-from c = none_there _ _ _ _ c.if-s-from.true
