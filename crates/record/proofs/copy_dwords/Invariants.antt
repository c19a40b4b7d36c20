-- `copy_dwords` meets its contract: the dwords so far are `Copied`. Assumes nothing.
use Rattle.record.proofs.Slots.{Copied}
use Rattle.record.proofs.copy_dwords.Given as goal

abbrev pub invariant-loop-i : goal.invariant-loop-i
invariant-loop-i l = Copied l.text l.from l.n l.initial.slots l.slots l.i
