-- `field::field_of` meets its contract: the offset and the dword as they are lent, and the source. Assumes nothing.
use Rattle.field.specs.Source.{field_of}
use Rattle.field.proofs.field_of.Goals as goal

pub returns : goal.returns
unfolding field_of
returns c = λ i. record { offset = c.args.offset; value = c.args.dword; source = c.source_of.ensures i }
