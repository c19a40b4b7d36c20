-- `fields::put_list`: with each item the page stays over its buffer, where each call keeps it there.
use Rattle.oracle_line_rows.specs.Lent.{OverSame, Keeps}
use Rattle.oracle_line_rows.proofs.fields.put_list.Given as goal

abbrev pub invariant-loop-item : goal.invariant-loop-item
invariant-loop-item g l = Keeps (goal.F-post g l.fn.put) → OverSame l.fn.page l.page
