-- `is_left` meets its contract: each way is one case of the test. Assumes nothing.
use Rattle.units.proofs.States.{left_long, left_other, left_short, left_passed, left_line, left_line_passed}
use Rattle.units.specs.Units.{marked}
use borrow.Author.Tests.{ne_eqb}
use mathlib.Core.Path.{sym, ap, ◌∙◌}
use Rattle.units.proofs.keeping.is_left.Goals as goal

pub returns-then-passed-eq0 : goal.returns-then-passed-eq0
returns-then-passed-eq0 c = c.line_left.ensures ∙ left_line _ _ _ (sym (c.marks.ensures ∙ ap (marked _) c.byte_at.ensures) ∙ c.if-not-marks.true) c.if-passed-eq0.true

pub returns-else-passed-eq0 : goal.returns-else-passed-eq0
returns-else-passed-eq0 c = ne_eqb _ _ c.if-passed-eq0.false ∙ left_line_passed _ _ _ (sym (c.marks.ensures ∙ ap (marked _) c.byte_at.ensures) ∙ c.if-not-marks.true) c.if-passed-eq0.false

pub returns-then-kept-eq3 : goal.returns-then-kept-eq3
returns-then-kept-eq3 c = left_long _ _ _ _ c.stated-size.ensures.0 (sym (c.marks.ensures ∙ ap (marked _) c.byte_at.ensures) ∙ c.if-not-marks.false) c.if-size-gt5227.true c.if-kept-eq3.true

pub returns-else-kept-eq3 : goal.returns-else-kept-eq3
returns-else-kept-eq3 c = ne_eqb _ _ c.if-kept-eq3.false ∙ left_other _ _ _ _ c.stated-size.ensures.0 (sym (c.marks.ensures ∙ ap (marked _) c.byte_at.ensures) ∙ c.if-not-marks.false) c.if-size-gt5227.true c.if-kept-eq3.false

pub returns-then-passed-eq0-2 : goal.returns-then-passed-eq0-2
returns-then-passed-eq0-2 c = left_short _ _ _ _ c.stated-size.ensures.0 (sym (c.marks.ensures ∙ ap (marked _) c.byte_at.ensures) ∙ c.if-not-marks.false) c.if-size-gt5227.false c.if-passed-eq0-2.true

pub returns-else-passed-eq0-2 : goal.returns-else-passed-eq0-2
returns-else-passed-eq0-2 c = ne_eqb _ _ c.if-passed-eq0-2.false ∙ left_passed _ _ _ _ c.stated-size.ensures.0 (sym (c.marks.ensures ∙ ap (marked _) c.byte_at.ensures) ∙ c.if-not-marks.false) c.if-size-gt5227.false c.if-passed-eq0-2.false
