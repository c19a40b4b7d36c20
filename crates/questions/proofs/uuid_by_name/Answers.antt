-- `questions::uuid_by_name` meets its contract: a question of the places. Assumes nothing.
use Rattle.std.proofs.Common.{rules, ◌≡◌, ℕ, List}
use mathlib.Core.Path.{ap, ◌∙◌}
use Rattle.refusal.specs.Told.{told_maybe}
use Rattle.questions.proofs.Over.{asked_is}
use Rattle.questions.specs.Described.{uuid_in}
use Rattle.questions.specs.Questions.{uuid_by_name}
use Rattle.questions.proofs.uuid_by_name.Goals as goal

pub returns : goal.returns
unfolding uuid_by_name
returns c =
    let s = c.args.book.now in
    let ds = c.args.dwords.now in
    let question = λ (ps : List ℕ). uuid_in s ds ps c.args.name.now in
    asked_is c.args.kind s ds question
    (λ ps h. let over : told_maybe c.ask.result ≡ uuid_in s ds h.0.now c.args.name.now = search rules in over ∙ ap question h.2)
    c.ask.ensures
