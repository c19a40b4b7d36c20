-- `unit_end` meets its contract: a record or a line by its first byte. Assumes nothing.
use Rattle.units.proofs.Counting.{record_ends, line_ends}
use Rattle.units.specs.Units.{marked}
use mathlib.Core.Path.{sym, ap, ◌∙◌}
use Rattle.units.proofs.ending.unit_end.Goals as goal

pub returns-then-marks : goal.returns-then-marks
returns-then-marks c = record_ends _ _ _ c.requires (sym (c.marks.ensures ∙ ap (marked _) c.byte_at.ensures) ∙ c.if-marks.true) _ c.record_end.ensures

pub returns : goal.returns
returns c = line_ends _ _ _ c.requires (sym (c.marks.ensures ∙ ap (marked _) c.byte_at.ensures) ∙ c.if-marks.false) _ c.line_end.ensures
