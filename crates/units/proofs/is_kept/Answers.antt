-- `is_kept` meets its contract: the size, then what is held. Assumes nothing.
use Rattle.units.proofs.States.{kept_past, kept_by, kept_size}
use Rattle.units.proofs.is_kept.Goals.{then-rest-eq8192, else-rest-eq8192}
use lib.Seq.{length-take-le}
use borrow.Author.Tests.{ne_eqb}
use mathlib.Core.Path.{sym, ◌∙◌}
use native.Mathlib.Omega.{arith}
use Rattle.units.proofs.is_kept.Goals as goal

pub slice_bounds-is_left-end : goal.slice_bounds-is_left-end
slice_bounds-is_left-end c = let h = c.if-held-le8192.true in sym (length-take-le _ _ (omega (arith, h.0, h.1)))

pub returns-then-held-le8192 : goal.returns-then-held-le8192
returns-then-held-le8192 c = c.is_left.ensures ∙ kept_by _ _ _ _ c.if-held-le8192.true.0 c.if-held-le8192.true.1

pub returns-else-held-le8192 : goal.returns-else-held-le8192
returns-else-held-le8192 c =
    elim c.if-rest-eq8192.branch [
      | then-rest-eq8192 w ↦ w.t-6-is ∙ kept_past _ _ _ _ w.if-rest-eq8192.true c.if-held-le8192.either
      | else-rest-eq8192 w ↦ w.t-6-is ∙ ne_eqb _ _ w.if-rest-eq8192.false ∙ kept_size _ _ _ _ w.if-rest-eq8192.false
    ]
