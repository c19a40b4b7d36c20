-- `place::first` meets its contract: the run of other bytes ends at the first place of the byte. Assumes nothing.
use Rattle.text.proofs.Runs.{first_found}
use mathlib.Core.Path.{◌∙◌}
use Rattle.text.proofs.place.first.Goals as goal

pub returns : goal.returns
returns c = c.then_some.ensures ∙ first_found _ _ c.until-k.ensures
