-- `judge::judge_fields` meets its contract: the number so far is `SoFar`. Assumes nothing.
use Prim.Native.Nat.{◌-◌}
use Rattle.record.proofs.Judging.{SoFar}
use lib.ListN.{length}
use Rattle.record.proofs.judge.judge_fields.Given as goal

abbrev pub invariant-loop-tag : goal.invariant-loop-tag
invariant-loop-tag l = SoFar l.text l.at l.last

abbrev pub decreases-loop-tag : goal.decreases-loop-tag
decreases-loop-tag l = length l.text - l.at
