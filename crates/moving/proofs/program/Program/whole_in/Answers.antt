-- `Program::whole_in` meets its contract: each filter counts by the framing of what it puts out. Assumes nothing.
use Rattle.moving.proofs.Places.{whole_by}
use mathlib.Core.Path.{sym, ◌∙◌}
use Rattle.moving.proofs.program.Program.whole_in.Goals as goal

pub returns-in-Ok : goal.returns-in-Ok
returns-in-Ok c = whole_by _ (sym c.filter.ensures ∙ c.in-Ok.is) c.whole_in.ensures
