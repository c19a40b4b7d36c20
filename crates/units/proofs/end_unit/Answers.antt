-- `end_unit` meets its contract: each way is one case of the answer. Assumes nothing.
use Rattle.units.proofs.Ends.{end_none, end_long, end_cut, end_line}
use Rattle.units.specs.Units.{marked}
use borrow.Author.Tests.{eqb-true, eqb-false}
use mathlib.Core.Path.{sym, ap, ◌∙◌}
use Rattle.units.proofs.end_unit.Goals as goal

pub returns-then-is_empty : goal.returns-then-is_empty
returns-then-is_empty c = end_none _ _ (eqb-true _ _ (sym c.is_empty.ensures ∙ c.if-is_empty.true))

pub returns-then-stated-gt5227 : goal.returns-then-stated-gt5227
returns-then-stated-gt5227 c = end_long _ _ (eqb-false _ _ (sym c.is_empty.ensures ∙ c.if-is_empty.false)) (sym (c.marks.ensures ∙ ap (marked _) c.byte_at.ensures) ∙ c.if-marks.true) _ c.stated.ensures.0 c.if-stated-gt5227.true

pub returns-then-marks : goal.returns-then-marks
returns-then-marks c = end_cut _ _ (eqb-false _ _ (sym c.is_empty.ensures ∙ c.if-is_empty.false)) (sym (c.marks.ensures ∙ ap (marked _) c.byte_at.ensures) ∙ c.if-marks.true) _ c.stated.ensures.0 c.if-stated-gt5227.false

pub returns : goal.returns
returns c = end_line _ _ (eqb-false _ _ (sym c.is_empty.ensures ∙ c.if-is_empty.false)) (sym (c.marks.ensures ∙ ap (marked _) c.byte_at.ensures) ∙ c.if-marks.false)
