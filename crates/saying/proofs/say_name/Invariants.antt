-- `say_name` meets its contract: what was said since the word are the pieces in front of the rest (`Pieces`). Assumes nothing.
use Rattle.saying.proofs.Telling.{Pieces}
use lib.ListN.{length}
use Rattle.saying.proofs.say_name.Given as goal

abbrev pub invariant-loop-rest : goal.invariant-loop-rest
invariant-loop-rest l = Pieces l.initial.outlet l.name l.outlet l.rest

abbrev pub decreases-loop-rest : goal.decreases-loop-rest
decreases-loop-rest l = length l.rest
