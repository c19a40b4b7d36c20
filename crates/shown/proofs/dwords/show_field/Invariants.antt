-- `dwords::show_field` meets its contract: the buffer keeps its length from range to range. Assumes nothing.
use Rattle.channel.specs.Sink.{Kept}
use Rattle.shown.proofs.dwords.show_field.Given as goal

abbrev pub invariant-loop-k : goal.invariant-loop-k
invariant-loop-k l = Kept l.fn.outlet l.outlet
