-- `say_line` meets its contract: the row of the line's turn is said. Assumes nothing.
use Rattle.std.proofs.Common.{◌∙◌}
use Rattle.unanswered.proofs.Sayings.{row_alone}
use Rattle.unanswered.proofs.rows.say_line.Goals as goal

pub returns : goal.returns
returns c =
    record {
      row = c.step_line-row.result;
      turns = c.step_line-row.ensures;
      says = rw (c.text.ensures ∙ row_alone c.new-page.ensures.at c.put_row.ensures) at c.say.ensures;
    }
