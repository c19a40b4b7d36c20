-- `say_pieces` meets its contract: what was found so far with what the rest gives is all (`Walk`). Assumes nothing.
use Rattle.std.proofs.Common.{◌-◌, length}
use Rattle.why.proofs.Walks.{Walk}
use Rattle.why.proofs.asking.Asking.say_pieces.Given as goal

abbrev pub invariant-loop-i : goal.invariant-loop-i
invariant-loop-i l = Walk l.inner l.initial.self l.self l.i l.at

abbrev pub decreases-loop-i : goal.decreases-loop-i
decreases-loop-i l = length l.inner - l.at
