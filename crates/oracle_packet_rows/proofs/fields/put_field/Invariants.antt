-- `fields::put_field`: with each turn the page stays over its buffer.
use Rattle.oracle_line_rows.specs.Lent.{OverSame}
use Rattle.oracle_packet_rows.proofs.fields.put_field.Given as goal

abbrev pub invariant-loop-k : goal.invariant-loop-k
invariant-loop-k l = OverSame l.fn.page l.page
