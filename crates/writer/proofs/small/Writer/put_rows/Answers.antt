-- `Writer::put_rows` meets its contract: what is still to come are the bytes of the rest of the rows. Assumes nothing.
use mathlib.Core.Path.{◌∙◌}
use Rattle.writer.proofs.Puts.{filling_steps, filling_ends, row_first, row_over, row_room}
use Rattle.writer.proofs.small.Writer.put_rows.Goals as goal

pub put_row-requires : goal.put_row-requires
put_row-requires c = row_room c.args.rows.now _ c.loop-row.row-index c.args.self.now.at c.loop-row.invariant.filling c.loop-row-test.true c.requires.0 c.requires.1

pub loop-row-preserved : goal.loop-row-preserved
loop-row-preserved c =
    record {
      filling = filling_steps c.loop-row.invariant.filling _ _ (row_first c.args.rows.now _ c.loop-row.row-index c.loop-row-test.true) c.put_row.ensures.put;
      same = c.put_row.ensures.same ∙ c.loop-row.invariant.same;
    }

pub returns : goal.returns
returns c =
    record {
      put = filling_ends c.loop-row.invariant.filling (row_over c.args.rows.now c.loop-row.row-index c.loop-row-test.false);
      same = c.loop-row.invariant.same;
    }
