-- `frame::max_byte` meets its contract: the running maximum is below 128 as long as every byte is. Assumes nothing.
use Rattle.scan.specs.High.{Level}
use Rattle.scan.proofs.frame.max_byte.Given as goal

abbrev pub invariant-loop-b : goal.invariant-loop-b
invariant-loop-b l = Level l.s l.b-index l.m
