-- `say_end` meets its contract: the row that was put is said. Assumes nothing.
use Rattle.std.proofs.Common.{◌∙◌, refl}
use Rattle.why.proofs.Chains.{row_alone}
use Rattle.why.proofs.asking.Asking.say_end.Goals as goal

pub returns : goal.returns
returns c = record { says = rw (c.text.ensures ∙ row_alone c.new-page.ensures.at c.put_totals.ensures) at c.say.ensures; counts = refl }
