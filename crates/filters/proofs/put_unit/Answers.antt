-- `put_unit` meets its contract: each filter by its own function. Assumes nothing.
use Rattle.filters.proofs.UnitTexts.{listed_unit, unpacked_unit}
use native.Mathlib.Omega.{arith}
use Rattle.filters.proofs.put_unit.Goals as goal

pub returns-in-Listing : goal.returns-in-Listing
returns-in-Listing c = rw c.in-Listing.is (listed_unit _ _ _ _ c.args.run _ _ (omega (arith, c.requires.1.told_at)) (rw c.read_line.ensures at c.put_row.ensures))

pub returns-in-Pack : goal.returns-in-Pack
returns-in-Pack c = rw c.in-Pack.is c.pack_unit.ensures

pub returns-in-Unpack : goal.returns-in-Unpack
returns-in-Unpack c = rw c.in-Unpack.is (unpacked_unit _ _ _ _ c.args.run _ _ (omega (arith, c.requires.1.told_at)) _ (rw c.read_unit.ensures.answer at c.put_row-in-Unpack.ensures))
