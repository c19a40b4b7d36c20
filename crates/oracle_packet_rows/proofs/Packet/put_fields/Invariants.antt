-- `Packet::put_fields`: with each turn the page stays over its buffer.
use Rattle.oracle_line_rows.specs.Lent.{OverSame}
use Rattle.oracle_packet_rows.proofs.Packet.put_fields.Given as goal

abbrev pub invariant-loop-i : goal.invariant-loop-i
invariant-loop-i l = OverSame l.fn.page l.page
