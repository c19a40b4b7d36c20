-- `block::last_of` meets its contract: what stands is the place behind the last one of those seen. Assumes nothing.
use Prim.Native.Nat.{ℕ, ◌≤◌, ◌+◌, ◌-◌}
use Rattle.text.specs.Place.{is_at, last_place}
use Rattle.text.specs.Run.{behind}
use mathlib.Core.Path.{◌≡◌}
use Rattle.text.proofs.block.last_of.Given as goal

abbrev pub invariant-loop-k : goal.invariant-loop-k
invariant-loop-k l = (l.k ≤ 16) × (l.found ≡ behind (last_place (λ (j : ℕ). is_at l.b l.s (l.at + j)) l.k))

abbrev pub decreases-loop-k : goal.decreases-loop-k
decreases-loop-k l = 16 - l.k
