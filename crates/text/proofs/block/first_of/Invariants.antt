-- `block::first_of` meets its contract: what stands is the first of the places seen, and each turn sees one more in front of them. Assumes nothing.
use Prim.Native.Nat.{◌≤◌, ◌+◌, ◌-◌}
use Rattle.text.specs.Place.{is_at, first_of}
use mathlib.Core.Path.{◌≡◌}
use Rattle.text.proofs.block.first_of.Given as goal

abbrev pub invariant-loop-k : goal.invariant-loop-k
invariant-loop-k l = (l.k ≤ 16) × (l.at + l.found ≡ first_of (is_at l.b l.s) l.k (l.at + (16 - l.k)))

abbrev pub decreases-loop-k : goal.decreases-loop-k
decreases-loop-k l = 16 - l.k
