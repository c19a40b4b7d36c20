-- `dwords::show_dwords` meets its contract: the buffer keeps its length from dword to dword. Assumes nothing.
use Rattle.channel.specs.Sink.{Kept}
use Rattle.shown.proofs.dwords.show_dwords.Given as goal

abbrev pub invariant-loop-i : goal.invariant-loop-i
invariant-loop-i l = Kept l.fn.outlet l.outlet
