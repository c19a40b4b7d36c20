-- `book::find::nth` meets its contract: so many fewer from behind each field passed on. Assumes nothing.
use Prim.Native.Nat.{◌-◌, ◌<◌}
use Rattle.book.specs.Finders.{nth_place}
use Rattle.tlv.specs.Reading.{parts}
use lib.ListN.{length}
use mathlib.Core.Path.{◌≡◌}
use Rattle.book.proofs.find.nth.Given as goal

abbrev pub invariant-loop-to : goal.invariant-loop-to
invariant-loop-to l = (0 < l.at) × (nth_place l.k (parts l.s l.start) ≡ nth_place l.left (parts l.s l.at))

abbrev pub decreases-loop-to : goal.decreases-loop-to
decreases-loop-to l = length l.s - l.at
