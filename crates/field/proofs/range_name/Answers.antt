-- `field::range_name` meets its contract: the name at the range's place. Assumes nothing.
use Rattle.field.specs.Ranges.{range_name}
use Rattle.field.proofs.range_name.Goals as goal

pub returns : goal.returns
unfolding range_name
returns c = c.name_in.ensures
