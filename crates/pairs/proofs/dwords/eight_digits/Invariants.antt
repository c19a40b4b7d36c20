-- `dwords::eight_digits` meets its contract: so long as the sum is below 128 each byte was a digit, and eight of them fit 32 bits. Assumes nothing.
use Prim.Native.Nat.{◌-◌}
use Rattle.pairs.proofs.Printed.{Eight}
use lib.ListN.{take, drop}
use Rattle.pairs.proofs.dwords.eight_digits.Given as goal

abbrev pub invariant-loop-k : goal.invariant-loop-k
invariant-loop-k l = Eight (take 8 (drop l.at l.s)) l.v l.sum l.k

abbrev pub decreases-loop-k : goal.decreases-loop-k
decreases-loop-k l = 8 - l.k
