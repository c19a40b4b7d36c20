-- `book::find::count` meets its contract: those counted and those left are all. Assumes nothing.
use Prim.Native.Nat.{◌+◌, ◌-◌, ◌≤◌}
use Rattle.tlv.specs.Reading.{parts}
use lib.ListN.{length}
use mathlib.Core.Path.{◌≡◌}
use Rattle.book.proofs.find.count.Given as goal

abbrev pub invariant-loop-to : goal.invariant-loop-to
invariant-loop-to l = (l.n ≤ l.at) × (length (parts l.s l.start) ≡ l.n + length (parts l.s l.at))

abbrev pub decreases-loop-to : goal.decreases-loop-to
decreases-loop-to l = length l.s - l.at
