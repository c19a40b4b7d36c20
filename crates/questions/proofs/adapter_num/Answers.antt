-- `questions::adapter_num` meets its contract: a question of the places. Assumes nothing.
use Rattle.std.proofs.Common.{rules, ◌≡◌, ℕ, List}
use mathlib.Core.Path.{ap, ◌∙◌}
use Rattle.refusal.specs.Told.{told_maybe}
use Rattle.questions.proofs.Over.{asked_is}
use Rattle.questions.specs.Described.{adapter_in}
use Rattle.questions.specs.Questions.{adapter_of}
use Rattle.questions.proofs.adapter_num.Goals as goal

pub returns : goal.returns
unfolding adapter_of
returns c =
    let s = c.args.book.now in
    let ds = c.args.dwords.now in
    let question = λ (ps : List ℕ). adapter_in s ds ps in
    asked_is c.args.kind s ds question
    (λ ps h. let over : told_maybe c.ask.result ≡ adapter_in s ds h.0.now = search rules in over ∙ ap question h.2)
    c.ask.ensures
