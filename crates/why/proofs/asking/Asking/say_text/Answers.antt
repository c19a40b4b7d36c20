-- `say_text` meets its contract: a number has no row; else the row that was put is said, and counted. Assumes nothing.
use Rattle.std.proofs.Common.{◌∙◌, refl}
use Rattle.why.specs.Finding.{unread}
use Rattle.why.specs.Saying.{SaidAll, rows_of, tallied}
use Rattle.why.proofs.Chains.{gone_none, row_alone}
use Rattle.why.proofs.asking.Asking.say_text.Goals as goal

pub returns-in_default : goal.returns-in_default
unfolding unread
returns-in_default c = rw c.in_default.is gone_none

pub returns : goal.returns
unfolding unread rows_of tallied
returns c =
    rw c.in-Err.is
    (record {
      says = SaidAll.next (rw (c.text.ensures ∙ row_alone c.new-page.ensures.at c.put_row.ensures) at c.say.ensures) (SaidAll.none refl);
      counts = c.count_reason.ensures;
    })
