-- `Writer::put_rows` meets its contract: what is still to come are the bytes of the rest of the rows. Assumes nothing.
use Rattle.std.proofs.Common.{drop, map, ◌≡◌}
use Rattle.writer.specs.Item.{row_of, rows_bytes}
use Rattle.writer.proofs.Puts.{Filling}
use Rattle.writer.proofs.small.Writer.put_rows.Given as goal

abbrev pub invariant-loop-row : goal.invariant-loop-row
invariant-loop-row l =
    record {
      filling : Filling l.initial.self.out.now l.initial.self.at (rows_bytes (map row_of l.rows)) l.self.out.now l.self.at (rows_bytes (map row_of (drop l.row-index l.rows)));
      same : l.self.out.ghost_name ≡ l.initial.self.out.ghost_name;
    }
