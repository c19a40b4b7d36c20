-- `questions::described::cm_in` meets its contract: bit 63 of the route. Assumes nothing.
use Rattle.bits.specs.Range.{bit}
use Rattle.refusal.specs.Told.{told}
use Rattle.questions.specs.Described.{top_bit}
use mathlib.Core.Path.{sym, ap, ◌∙◌}
use Rattle.questions.proofs.described.cm_in.Goals as goal

pub returns : goal.returns
unfolding bit
returns c = ap top_bit (ap told (sym c.in_ok-route.was) ∙ c.route_in.ensures)
