-- `small::put_record` meets its contract: the head, and the rows behind it. Assumes nothing.
use Rattle.std.proofs.Common.{rules}
use Rattle.writer.proofs.Puts.{rows_short, record_room, record_put}
use Rattle.writer.proofs.small.put_record.Goals as goal

pub put_rows-requires : goal.put_rows-requires
put_rows-requires c = rw c.rows_of-rows.ensures (rows_short c.args.text.now c.args.e c.args.dwords.now c.requires.1, record_room c.args.size c.new-w.ensures.starts c.put_head.ensures _ c.requires.2)

pub returns : goal.returns
returns c = record_put c.args.size c.new-w.ensures.starts c.put_head.ensures _ (rw c.rows_of-rows.ensures at c.put_rows.ensures) (search rules)
