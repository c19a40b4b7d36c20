-- `put_record` meets its contract: the record is written, since the entry has one. Assumes nothing.
use Rattle.filters.proofs.Records.{rest_written, rest_put}
use Rattle.filters.proofs.UnitTexts.{record_unit, bytes_size}
use mathlib.Core.Path.{sym, ◌∙◌}
use native.Mathlib.Omega.{arith}
use Rattle.filters.specs.Texts.{seen_by}
use Rattle.filters.proofs.packing.put_record.Goals as goal

pub overflow_add-result : goal.overflow_add-result
overflow_add-result c = omega (arith, bytes_size (sym (rest_written c.args.text.now c.args.e c.args.dwords.now c.requires.1 c.args.out.now c.args.run.at c.requires.0 _ c.write.ensures) ∙ c.in-Ok.is), c.requires.1.short, c.requires.0)

pub returns : goal.returns
unfolding seen_by
returns c = record_unit _ _ _ _ c.args.run _ _ c.with.ensures (sym (rest_written c.args.text.now c.args.e c.args.dwords.now c.requires.1 c.args.out.now c.args.run.at c.requires.0 _ c.write.ensures) ∙ c.in-Ok.is) (rest_put c.args.text.now c.args.e c.args.dwords.now c.requires.1 c.args.out.now c.args.run.at c.requires.0 _ c.write.ensures)

pub returns-in_default : goal.returns-in_default
returns-in_default c = absurd (c.in_default.not-Ok _ (rest_written c.args.text.now c.args.e c.args.dwords.now c.requires.1 c.args.out.now c.args.run.at c.requires.0 _ c.write.ensures))
