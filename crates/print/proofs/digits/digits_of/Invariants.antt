-- `digits::digits_of` meets its contract: the digits so far are a `Counted`. Assumes nothing.
use Rattle.print.proofs.Counting.{Counted}
use Rattle.print.proofs.digits.digits_of.Given as goal

abbrev pub invariant-loop-rest : goal.invariant-loop-rest
invariant-loop-rest l = Counted l.n l.bytes l.rest l.from

abbrev pub decreases-loop-rest : goal.decreases-loop-rest
decreases-loop-rest l = l.from
