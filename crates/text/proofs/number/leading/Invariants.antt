-- `number::leading` meets its contract: what is read so far is a `ReadTo`, and digits that no further one follows are the whole run. Assumes nothing.
use Prim.Native.Nat.{◌-◌}
use Rattle.text.proofs.DigitRuns.{ReadTo}
use lib.ListN.{length}
use Rattle.text.proofs.number.leading.Given as goal

abbrev pub invariant-loop-i : goal.invariant-loop-i
invariant-loop-i l = ReadTo l.s 10 l.from l.v l.i

abbrev pub decreases-loop-i : goal.decreases-loop-i
decreases-loop-i l = length l.s - l.i
