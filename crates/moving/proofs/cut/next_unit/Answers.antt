-- `cut::next_unit` meets its contract: one step of the stream. Assumes nothing.
use Rattle.moving.proofs.Places.{fed_fits, fed_kept, fed_on}
use Rattle.moving.proofs.cut.next_unit.Goals as goal

pub returns-clause-fits : goal.returns-clause-fits
returns-clause-fits c = fed_fits _ _ _ _ _ _ _ c.requires.0 c.requires.1 (λ i. (c.type_inv.unit i).fits) c.feed_on.ensures

pub returns-clause-kept : goal.returns-clause-kept
returns-clause-kept c = fed_kept _ _ _ _ _ _ _ c.requires.0 c.requires.1 (λ i. (c.type_inv.unit i).fits) c.feed_on.ensures

pub returns-clause-on : goal.returns-clause-on
returns-clause-on c = fed_on _ _ _ _ _ _ _ c.requires.0 c.requires.1 (λ i. (c.type_inv.unit i).fits) c.feed_on.ensures
