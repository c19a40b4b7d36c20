-- `book::grammar::entries` meets its contract: the entries passed are good, apart and marked, so the answer is that for the rest. Assumes nothing.
use Prim.Native.Nat.{◌-◌}
use Rattle.book.proofs.Sift.{Sifted}
use lib.ListN.{length}
use mathlib.Core.Path.{◌≡◌}
use Rattle.book.proofs.grammar.entries.Given as goal

abbrev pub invariant-loop-tag : goal.invariant-loop-tag
invariant-loop-tag l = Sifted l.s l.start l.at l.seen × (length l.seen ≡ 1024)

abbrev pub decreases-loop-tag : goal.decreases-loop-tag
decreases-loop-tag l = length l.s - l.at
