-- `place::last` meets its contract: the run of other bytes that ends the text starts behind the last place of the byte. Assumes nothing.
use Rattle.text.proofs.Runs.{last_found}
use Rattle.text.proofs.place.last.Goals as goal

pub returns : goal.returns
returns c = last_found _ _ c.behind_last.ensures c.checked_sub.ensures
