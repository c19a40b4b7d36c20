-- `questions::described::adapter_in` meets its contract: the value that was asked, cut. Assumes nothing.
use Rattle.std.proofs.Common.{rules}
use Rattle.questions.proofs.Asking.{cut_is}
use Rattle.questions.specs.Described.{adapter_in}
use Rattle.questions.proofs.described.adapter_in.Goals as goal

pub returns : goal.returns
unfolding adapter_in
returns c = cut_is 8 c.value_asked-value.result (λ x e. search rules) (λ e. search rules) c.value_asked-value.ensures
