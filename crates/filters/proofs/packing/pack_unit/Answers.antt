-- `pack_unit` meets its contract, by the stream's answer. Assumes nothing.
use Rattle.filters.proofs.Records.{unit_recorded, unit_record}
use Rattle.filters.proofs.UnitTexts.{unit_is, unit_refused, unit_none, nothing_packed, refused_unit, packed_unit}
use lib.Seq.{length-take-le}
use mathlib.Core.Path.{refl, sym}
use native.Mathlib.Omega.{arith}
use Rattle.filters.proofs.packing.pack_unit.Goals as goal

pub slice_bounds-put_record-end : goal.slice_bounds-put_record-end
slice_bounds-put_record-end c = sym (length-take-le _ _ (omega (arith, c.text_size-size.ensures, c.requires.0)))

pub put_record-requires : goal.put_record-requires
put_record-requires c = (omega (arith, c.requires.1.at), rw c.text_size-size.ensures (unit_recorded _ _ _ _ _ (λ i. (c.type_inv.unit i).fits) refl (rw (rw c.in-Ok-Some.field-0-is at c.in-Ok-Some.is) at c.read_unit.ensures)))

pub returns-in-Ok-Some : goal.returns-in-Ok-Some
returns-in-Ok-Some c = packed_unit _ _ _ _ _ c.args.run (omega (arith, c.requires.1.at)) (omega (arith, c.requires.1.told_at)) (unit_is {k = 256} refl _ _ _ c.read_unit.ensures.answer (rw c.in-Ok-Some.field-0-is at c.in-Ok-Some.is)) (unit_record _ _ _ _ _ (λ i. (c.type_inv.unit i).fits) refl (rw (rw c.in-Ok-Some.field-0-is at c.in-Ok-Some.is) at c.read_unit.ensures)) (unit_recorded _ _ _ _ _ (λ i. (c.type_inv.unit i).fits) refl (rw (rw c.in-Ok-Some.field-0-is at c.in-Ok-Some.is) at c.read_unit.ensures)) (rw c.text_size-size.ensures at c.put_record.ensures)

pub returns-in-Err : goal.returns-in-Err
returns-in-Err c = refused_unit _ _ _ _ _ c.args.run (omega (arith, c.requires.1.at)) (omega (arith, c.requires.1.told_at)) (unit_refused {k = 256} refl _ _ _ c.read_unit.ensures.answer c.in-Err.is) c.tell.ensures

pub returns-in-Ok-None : goal.returns-in-Ok-None
returns-in-Ok-None c = nothing_packed _ _ _ _ _ c.args.run (omega (arith, c.requires.1.at)) (omega (arith, c.requires.1.told_at)) (unit_none {k = 256} refl _ _ _ c.read_unit.ensures.answer (rw c.in-Ok-None.field-0-is at c.in-Ok-None.is))
