-- `number::read_short` meets its contract: what is read so far is a `Few`, and each way out is one of its laws. Assumes nothing.
use Rattle.text.proofs.FewDigits.{Few}
use Rattle.text.proofs.number.read_short.Given as goal

abbrev pub invariant-loop-i : goal.invariant-loop-i
invariant-loop-i l = Few l.base l.from l.s l.v l.i
