-- `hex::put_hex` meets its contract: what is put and what is left is a `Hexed`. Assumes nothing.
use Rattle.print.proofs.Hexing.{Hexed}
use Rattle.print.proofs.hex.put_hex.Given as goal

abbrev pub invariant-loop-b : goal.invariant-loop-b
invariant-loop-b l = Hexed l.initial.out l.at l.s l.out l.behind l.b-index
