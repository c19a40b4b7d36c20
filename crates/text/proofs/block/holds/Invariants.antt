-- `block::holds` meets its contract: while the flag is down none of the bytes looked at is the byte, and once it is up one is. Assumes nothing.
use Prim.Native.Nat.{◌≤◌, ◌<◌, ◌+◌, ◌-◌}
use Rattle.text.specs.Place.{Free, is_at, first_of}
use mathlib.Core.Bool.{true, false}
use mathlib.Core.Path.{◌≡◌}
use Rattle.text.proofs.block.holds.Given as goal

abbrev pub invariant-loop-k : goal.invariant-loop-k
invariant-loop-k l = (l.k ≤ 16) × (l.any ≡ false → Free (is_at l.b l.s) l.at (l.at + l.k)) × (l.any ≡ true → first_of (is_at l.b l.s) 16 l.at < l.at + 16)

abbrev pub decreases-loop-k : goal.decreases-loop-k
decreases-loop-k l = 16 - l.k
