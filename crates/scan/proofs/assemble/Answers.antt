-- `assemble` meets its contract: each field is the definition's. Assumes nothing.
use Rattle.scan.specs.Parse.{entry_of}
use mathlib.Core.Path.{refl}
use Rattle.scan.proofs.assemble.Goals as goal

pub returns : goal.returns
unfolding entry_of
returns c = refl
