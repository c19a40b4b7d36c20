-- `escape::put_escaped` meets its contract: the first bytes are shown in place (`Shown`). Assumes nothing.
use Rattle.escape.proofs.Escaping.{Shown}
use Rattle.escape.proofs.put_escaped.Given as goal

abbrev pub invariant-loop-b : goal.invariant-loop-b
invariant-loop-b l = Shown l.initial.page l.s l.page l.b-index
