-- `questions::data_size` meets its contract: a question of the places. Assumes nothing.
use Rattle.std.proofs.Common.{rules, ◌≡◌, ℕ, List}
use mathlib.Core.Path.{ap, ◌∙◌}
use Rattle.refusal.specs.Told.{told_maybe}
use Rattle.questions.proofs.Over.{asked_is}
use Rattle.questions.specs.Described.{size_in}
use Rattle.questions.specs.Questions.{size_of}
use Rattle.questions.proofs.data_size.Goals as goal

pub returns : goal.returns
unfolding size_of
returns c =
    let s = c.args.book.now in
    let ds = c.args.dwords.now in
    let question = λ (ps : List ℕ). size_in s ds ps c.args.kind in
    asked_is c.args.kind s ds question
    (λ ps h. let over : told_maybe c.ask.result ≡ size_in s ds h.0.now c.args.kind = search rules in over ∙ ap question h.2)
    c.ask.ensures
