-- `dwords::refuse_bad` meets its contract, one case of the choice each. Assumes nothing.
use Rattle.scan.specs.Dwords.{refuses}
use Rattle.scan.proofs.dwords.refuse_bad.Goals as goal

pub returns-in-Strict : goal.returns-in-Strict
unfolding refuses
returns-in-Strict c = rw c.in-Strict.is

pub returns-in-Lenient : goal.returns-in-Lenient
unfolding refuses
returns-in-Lenient c = rw c.in-Lenient.is
