-- `choice_at` meets its contract: no word says strict. Assumes nothing.
use Rattle.choice.proofs.Asking.{word_is_none}
use Rattle.choice.proofs.choice_at.Goals as goal

pub returns : goal.returns
returns g c = word_is_none _ c.choice_of.ensures
