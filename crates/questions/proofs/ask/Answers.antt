-- `questions::ask` meets its contract: a number first, or the question over the first places. Assumes nothing.
use Rattle.refusal.proofs.Told.{passed_on}
use Rattle.questions.proofs.Over.{not_asked, accepted, asked}
use lib.ListN.{length}
use lib.Seq.{length-take-le}
use mathlib.Core.Path.{refl, sym}
use Rattle.questions.proofs.ask.Goals as goal

pub returns-in_err-parse : goal.returns-in_err-parse
returns-in_err-parse g c = not_asked c.parse.ensures refl c.in_err-parse.was (passed_on c.from_residual.result c.from_residual.ensures.1)

pub slice_bounds-places-end : goal.slice_bounds-places-end
slice_bounds-places-end g c = (accepted c.parse.ensures refl c.in_ok-parse.was).fit

pub slice_bounds-question-end : goal.slice_bounds-question-end
slice_bounds-question-end g c = sym (length-take-le (length c.args.dwords.now) _ (accepted c.parse.ensures refl c.in_ok-parse.was).fit)

pub returns : goal.returns
returns g c = asked c.parse.ensures refl c.in_ok-parse.was (_, c.question.ensures, refl)
