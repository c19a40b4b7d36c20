-- `questions::passed::pass` meets its contract: 20 by the check, 21 to 25 by the tables. Assumes nothing.
use Rattle.refusal.specs.Told.{told}
use Rattle.refusal.proofs.Told.{passed_on}
use Rattle.questions.proofs.Over.{not_passed_20, not_passed, is_passed}
use mathlib.Core.Path.{sym, ap, ◌∙◌}
use Rattle.questions.proofs.passed.pass.Goals as goal

pub returns-in_err-check : goal.returns-in_err-check
returns-in_err-check c =
    not_passed_20 c.args.kind c.args.book.now c.args.dwords.now c.from_residual.result (sym c.check.ensures ∙ ap told c.in_err-check.was)
    (passed_on c.from_residual.result c.from_residual.ensures.1)

pub returns-in_err-open : goal.returns-in_err-open
returns-in_err-open c =
    not_passed c.args.kind c.args.book.now c.args.dwords.now (sym c.check.ensures ∙ ap told c.in_ok-check.was) c.from_residual-in_err-open.result
    (sym c.open.ensures ∙ ap told c.in_err-open.was) (passed_on c.from_residual-in_err-open.result c.from_residual-in_err-open.ensures.1)

pub returns : goal.returns
returns c =
    is_passed c.args.kind c.args.book.now c.args.dwords.now (sym c.check.ensures ∙ ap told c.in_ok-check.was)
    (sym c.open.ensures ∙ ap told c.in_ok-open.was)
