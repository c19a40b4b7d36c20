-- `questions::field_by_offset` meets its contract: a question of the places. Assumes nothing.
use Rattle.std.proofs.Common.{rules, ◌≡◌, ℕ, List}
use mathlib.Core.Path.{ap, ◌∙◌}
use Rattle.refusal.specs.Told.{told_maybe}
use Rattle.questions.proofs.Over.{asked_is}
use Rattle.questions.specs.Described.{field_at}
use Rattle.questions.specs.Questions.{field_by_offset}
use Rattle.questions.proofs.field_by_offset.Goals as goal

pub returns : goal.returns
unfolding field_by_offset
returns c =
    let s = c.args.book.now in
    let ds = c.args.dwords.now in
    let question = λ (ps : List ℕ). field_at s ds ps c.args.kind c.args.offset in
    asked_is c.args.kind s ds question
    (λ ps h. let over : told_maybe c.ask.result ≡ field_at s ds h.0.now c.args.kind c.args.offset = search rules in over ∙ ap question h.2)
    c.ask.ensures
