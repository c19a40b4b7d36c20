-- `dwords::take_dwords` meets its contract: what was met so far and what the rest adds make up the whole, and what was met stands in its places. Assumes
-- nothing.
use Prim.Native.Nat.{◌-◌}
use Rattle.pairs.proofs.BadPieces.{BadBefore}
use Rattle.pairs.proofs.Slots.{Before, Kept}
use Rattle.pairs.specs.Data.{dwords_of}
use lib.ListN.{length}
use Rattle.pairs.proofs.dwords.take_dwords.Given as goal

abbrev pub invariant-loop-dword : goal.invariant-loop-dword
invariant-loop-dword l = Before l.inner l.n l.at × BadBefore l.inner l.bad l.at × Kept (dwords_of l.inner) l.initial.own l.n l.own

abbrev pub decreases-loop-dword : goal.decreases-loop-dword
decreases-loop-dword l = length l.inner - l.at
