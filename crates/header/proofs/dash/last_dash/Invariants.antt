-- `dash::last_dash` meets its contract: the last dash of the whole is the last dash below here. Assumes nothing.
use Rattle.header.specs.Dash.{dash_at}
use Rattle.text.specs.Place.{last_place}
use mathlib.Core.Bool.{true}
use mathlib.Core.Path.{◌≡◌}
use Rattle.header.proofs.dash.last_dash.Given as goal

abbrev pub invariant-loop-k : goal.invariant-loop-k
invariant-loop-k l = last_place (dash_at true l.h) l.to ≡ last_place (dash_at true l.h) l.k
