-- `book::seek::first` meets its contract: what was passed was not wanted, so the answer is that for the rest. Assumes nothing.
use Prim.Native.Nat.{◌-◌}
use Rattle.book.specs.Search.{first_wanted}
use lib.ListN.{length}
use mathlib.Core.Path.{◌≡◌}
use Rattle.book.proofs.seek.first.Given as goal

abbrev pub invariant-loop-tag : goal.invariant-loop-tag
invariant-loop-tag l = first_wanted l.want l.key l.s l.start ≡ first_wanted l.want l.key l.s l.at

abbrev pub decreases-loop-tag : goal.decreases-loop-tag
decreases-loop-tag l = length l.s - l.at
