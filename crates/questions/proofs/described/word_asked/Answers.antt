-- `questions::described::word_asked` meets its contract: the value that was asked, cut. Assumes nothing.
use Rattle.std.proofs.Common.{rules}
use Rattle.questions.proofs.Asking.{cut_is}
use Rattle.questions.proofs.described.word_asked.Goals as goal

pub returns : goal.returns
returns c = cut_is 16 c.value_asked-value.result (λ x e. search rules) (λ e. search rules) c.value_asked-value.ensures
