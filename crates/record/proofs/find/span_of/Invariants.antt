-- `find::span_of` meets its contract: the field sought is the one `Sought` from the loop's place on. Assumes nothing.
use Prim.Native.Nat.{◌-◌}
use Rattle.record.proofs.Finding.{Sought}
use lib.ListN.{length}
use Rattle.record.proofs.find.span_of.Given as goal

abbrev pub invariant-loop-found : goal.invariant-loop-found
invariant-loop-found l = Sought l.text l.tag l.at

abbrev pub decreases-loop-found : goal.decreases-loop-found
decreases-loop-found l = length l.text - l.at
