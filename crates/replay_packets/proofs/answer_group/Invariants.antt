-- `answer_group`: with each packet the rows keep their page over its buffer.
use Rattle.oracle_line_rows.specs.Lent.{RowsKept}
use Rattle.replay_packets.proofs.answer_group.Given as goal

abbrev pub invariant-loop : goal.invariant-loop
invariant-loop l = RowsKept l.fn.rows l.rows
