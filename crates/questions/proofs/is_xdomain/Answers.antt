-- `questions::is_xdomain` meets its contract: a number first. Assumes nothing.
use Rattle.text.specs.Told.{is}
use Rattle.packet.specs.Packet.{is_xdomain}
use Rattle.refusal.specs.Told as answers
use Rattle.refusal.proofs.Told.{passed_on}
use Rattle.questions.proofs.Over.{told_refused, told_passed}
use Rattle.questions.specs.Questions.{xdomain_of}
use mathlib.Core.Path.{sym, ap, ◌∙◌}
use Rattle.questions.proofs.is_xdomain.Goals as goal

pub returns-in_err-pass : goal.returns-in_err-pass
unfolding xdomain_of
returns-in_err-pass c =
    rw (passed_on c.from_residual.result c.from_residual.ensures.1)
    (told_refused c.args.kind c.args.book.now c.args.dwords.now (is (is_xdomain c.args.kind)) c.pass.result (ap answers.told (sym c.in_err-pass.was) ∙ c.pass.ensures) c.in_err-pass.was)

pub returns : goal.returns
unfolding xdomain_of
returns c =
    ap is c.is_xdomain_kind.ensures ∙ told_passed c.args.kind c.args.book.now c.args.dwords.now (is (is_xdomain c.args.kind)) (ap answers.told (sym c.in_ok-pass.was) ∙ c.pass.ensures)
