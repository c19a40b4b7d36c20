-- `questions::field_asked` meets its contract: a question of the places. Assumes nothing.
use Rattle.std.proofs.Common.{rules, ◌≡◌, ℕ, List}
use mathlib.Core.Path.{ap, ◌∙◌}
use Rattle.refusal.specs.Told.{told_maybe}
use Rattle.questions.proofs.Over.{asked_is}
use Rattle.questions.specs.Described.{field_with}
use Rattle.questions.specs.Questions.{field_by}
use Rattle.questions.proofs.field_asked.Goals as goal

pub returns : goal.returns
unfolding field_by
returns c =
    let s = c.args.book.now in
    let ds = c.args.dwords.now in
    let question = λ (ps : List ℕ). field_with s ds ps c.args.asked c.args.kind c.args.name.now in
    asked_is c.args.kind s ds question
    (λ ps h. let over : told_maybe c.ask.result ≡ field_with s ds h.0.now c.args.asked c.args.kind c.args.name.now = search rules in over ∙ ap question h.2)
    c.ask.ensures
