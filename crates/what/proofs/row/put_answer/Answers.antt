-- `put_answer` meets its contract: what the text is, in its row. Assumes nothing.
use Rattle.what.proofs.Rows.{record_row, line_row, outside_row}
use mathlib.Core.Path.{ap, ◌∙◌}
use Rattle.std.specs.Prelude.{Ok}
use Rattle.what.proofs.row.put_answer.Goals as goal

pub returns-in-Ok-Record : goal.returns-in-Ok-Record
returns-in-Ok-Record c = record_row _ _ c.what_is.ensures (c.in-Ok-Record.is ∙ ap Ok c.in-Ok-Record.field-0-is) c.requires c.put.ensures

pub returns-in-Ok-Line : goal.returns-in-Ok-Line
returns-in-Ok-Line c = line_row _ _ c.what_is.ensures (c.in-Ok-Line.is ∙ ap Ok c.in-Ok-Line.field-0-is) c.requires c.put-in-Ok-Line.ensures

pub returns-in-Err : goal.returns-in-Err
returns-in-Err c = outside_row _ _ c.what_is.ensures c.in-Err.is c.put_neither.ensures
