-- `told::put_uuid`: with each turn the page stays over its buffer.
use Rattle.oracle_line_rows.specs.Lent.{OverSame}
use Rattle.oracle_packet_rows.proofs.told.fn.put_uuid.put_told.Given as goal

abbrev pub invariant-loop-dword : goal.invariant-loop-dword
invariant-loop-dword l = OverSame l.fn.page l.page
