-- `tell` meets its contract: the row of the unit that is refused. Assumes nothing.
use Rattle.filters.proofs.UnitTexts.{refused_told}
use Rattle.filters.specs.Texts.{seen_by}
use Rattle.filters.proofs.packing.tell.Goals as goal

pub returns : goal.returns
unfolding seen_by
returns c = refused_told _ c.args.run _ _ c.with-counts.ensures (rw c.number.ensures at c.put_refused-end.ensures)
