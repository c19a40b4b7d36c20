-- `dwords::piece_end` meets its contract: the piece from the start ends where the piece from here does. Assumes nothing.
use Prim.Native.Nat.{◌-◌}
use Rattle.pairs.specs.Data.{piece_end}
use lib.ListN.{length}
use mathlib.Core.Path.{◌≡◌}
use Rattle.pairs.proofs.dwords.piece_end.Given as goal

abbrev pub invariant-loop-k : goal.invariant-loop-k
invariant-loop-k l = piece_end l.inner l.from ≡ piece_end l.inner l.k

abbrev pub decreases-loop-k : goal.decreases-loop-k
decreases-loop-k l = length l.inner - l.k
