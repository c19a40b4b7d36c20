-- `dwords::nth_piece` meets its contract: the i-th piece from the start is the one that so many pieces on from here comes to. Assumes nothing.
use Prim.Native.Nat.{◌-◌}
use Rattle.pairs.proofs.Pieces.{Passing}
use lib.ListN.{length}
use Rattle.pairs.proofs.dwords.nth_piece.Given as goal

abbrev pub invariant-loop-left : goal.invariant-loop-left
invariant-loop-left l = Passing l.inner l.i l.left l.at

abbrev pub decreases-loop-left : goal.decreases-loop-left
decreases-loop-left l = length l.inner - l.at
