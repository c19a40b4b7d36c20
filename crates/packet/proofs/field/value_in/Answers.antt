-- `packet::field::value_in` meets its contract: low bit, high bit, and the range between them. Assumes nothing.
use Rattle.bits.specs.Range.{range_of}
use Rattle.packet.specs.Field.{value_in}
use mathlib.Core.Path.{◌∙◌, ap₂}
use Rattle.packet.proofs.field.value_in.Goals as goal

pub returns : goal.returns
unfolding value_in
returns c = c.range.ensures ∙ ap₂ (range_of c.args.dword) c.low_of.ensures c.high_of.ensures
