-- `finish` meets its contract: what is kept tells the unit. Assumes nothing.
use Rattle.units.proofs.Ends.{finish_good, finish_alien}
use Rattle.units.proofs.States.{kept_within}
use lib.Seq.{length-take-le}
use mathlib.Core.Path.{sym, ◌∙◌}
use Rattle.units.proofs.finish.Goals as goal

pub slice_bounds-end_unit-end : goal.slice_bounds-end_unit-end
slice_bounds-end_unit-end c = sym (length-take-le _ _ (kept_within _ _ _ _ (sym c.is_kept.ensures ∙ c.if-is_kept.true)))

pub returns-then-is_kept : goal.returns-then-is_kept
returns-then-is_kept c = finish_good _ _ _ (sym c.is_kept.ensures ∙ c.if-is_kept.true) _ c.end_unit.ensures

pub returns : goal.returns
returns c = finish_alien _ _ _ (sym c.is_kept.ensures ∙ c.if-is_kept.false)
