-- `packet::fill::fill_from` meets its contract: at every field, what the walk would still give each dword stays the same. Assumes nothing.
use Prim.Native.Nat.{◌<◌, ◌-◌}
use Rattle.packet.specs.Inner.{entry_from}
use Rattle.packet.specs.Steps.{filled}
use lib.ListN.{length}
use mathlib.Core.Path.{◌≡◌}
use Rattle.packet.proofs.fill.fill_from.Given as goal

abbrev pub invariant-loop-tag : goal.invariant-loop-tag
invariant-loop-tag l = (0 < l.at) × (length l.places ≡ length l.initial.places) × (filled (entry_from l.pick l.name l.s l.start) l.initial.places ≡ filled (entry_from l.pick l.name l.s l.at) l.places)

abbrev pub decreases-loop-tag : goal.decreases-loop-tag
decreases-loop-tag l = length l.s - l.at
