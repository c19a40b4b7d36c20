-- `questions::route` meets its contract: a number first. Assumes nothing.
use Rattle.questions.specs.Described.{route_in}
use Rattle.refusal.specs.Told as answers
use Rattle.refusal.proofs.Told.{passed_on}
use Rattle.questions.proofs.Over.{told_refused, told_passed}
use Rattle.questions.specs.Questions.{route_of}
use mathlib.Core.Path.{sym, ap, ◌∙◌}
use Rattle.questions.proofs.route.Goals as goal

pub returns-in_err-pass : goal.returns-in_err-pass
unfolding route_of
returns-in_err-pass c =
    rw (passed_on c.from_residual.result c.from_residual.ensures.1)
    (told_refused c.args.kind c.args.book.now c.args.dwords.now (route_in c.args.dwords.now) c.pass.result (ap answers.told (sym c.in_err-pass.was) ∙ c.pass.ensures) c.in_err-pass.was)

pub returns : goal.returns
unfolding route_of
returns c =
    c.route_in.ensures ∙ told_passed c.args.kind c.args.book.now c.args.dwords.now (route_in c.args.dwords.now) (ap answers.told (sym c.in_ok-pass.was) ∙ c.pass.ensures)
