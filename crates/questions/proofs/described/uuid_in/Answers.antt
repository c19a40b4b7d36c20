-- `questions::described::uuid_in` meets its contract: what is gathered. Assumes nothing.
use Rattle.text.specs.Told.{maybe}
use Rattle.questions.proofs.Over.{kept}
use Rattle.questions.specs.Described.{uuid_in}
use mathlib.Core.Path.{ap, ◌∙◌}
use Rattle.questions.proofs.described.uuid_in.Goals as goal

pub returns : goal.returns
unfolding uuid_in
returns c = kept c.gather.result ∙ ap maybe c.gather.ensures
