-- `number::read_long` meets its contract: what is read so far is a `SoFar`, and each way out is one of its laws. Assumes nothing.
use Rattle.text.proofs.Numbers.{SoFar}
use Rattle.text.proofs.number.read_long.Given as goal

abbrev pub invariant-loop-i : goal.invariant-loop-i
invariant-loop-i l = SoFar l.base l.limit l.from l.s l.v l.i
