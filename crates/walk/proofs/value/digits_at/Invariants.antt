-- `value::digits_at` meets its contract: what is read so far is a `ReadTo`, which is all that each way out says. Assumes nothing.
use Prim.Native.Nat.{◌-◌}
use Rattle.text.proofs.DigitRuns.{ReadTo}
use lib.ListN.{length}
use Rattle.walk.proofs.value.digits_at.Given as goal

abbrev pub invariant-loop-j : goal.invariant-loop-j
invariant-loop-j l = ReadTo l.s l.base l.from l.value l.j

abbrev pub decreases-loop-j : goal.decreases-loop-j
decreases-loop-j l = length l.s - l.j
