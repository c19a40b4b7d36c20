-- `cpu::parse_cpu` meets its contract: a CPU starts with a bracket, so the first from the start is the first from here. Assumes nothing.
use Prim.Native.Nat.{◌-◌}
use Rattle.header.proofs.Cpus.{Seeking}
use lib.ListN.{length}
use Rattle.header.proofs.cpu.parse_cpu.Given as goal

abbrev pub invariant-loop-k : goal.invariant-loop-k
invariant-loop-k l = Seeking l.h l.i

abbrev pub decreases-loop-k : goal.decreases-loop-k
decreases-loop-k l = length l.h - l.i
