-- `put_all` ends: what is left of the names gets shorter. With each name the page stays over its buffer.
use Rattle.std.proofs.Common.{length}
use Rattle.oracle_line_rows.specs.Lent.{OverSame}
use Rattle.oracle_packet_rows.proofs.asked.put_all.Given as goal

abbrev pub invariant-loop-name : goal.invariant-loop-name
invariant-loop-name l = OverSame l.fn.page l.page

abbrev pub decreases-loop-name : goal.decreases-loop-name
decreases-loop-name l = length l.left
