-- `free` meets its contract: the slots before a place are lowered. Assumes nothing.
use mathlib.Core.Path.{◌≡◌}
use mathlib.Core.List.{◌++◌}
use lib.ListN.{take, drop}
use Rattle.pending.specs.Step.{freed}
use Rattle.pending.proofs.free.Given as goal

abbrev pub invariant-loop-slot : goal.invariant-loop-slot
invariant-loop-slot l = take l.slot-index l.slots ++ freed l.rank (drop l.slot-index l.slots) ≡ freed l.rank l.initial.slots
