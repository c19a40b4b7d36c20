-- `batch::parse_each` meets its contract: packet after packet, what is left to answer is the batch of the rest. Assumes nothing.
use Prim.Native.Nat.{min}
use Rattle.batch.proofs.Batches.{Through}
use lib.ListN.{length}
use mathlib.Core.Path.{◌≡◌}
use Rattle.batch.proofs.parse_each.Given as goal

abbrev pub invariant-loop-k : goal.invariant-loop-k
invariant-loop-k l = (l.n ≡ min (length l.kinds) (min (length l.counts) (length l.initial.codes))) × Through l.book l.kinds l.counts l.dwords l.initial.places l.initial.codes l.from l.at l.k l.places l.codes
