-- `field::value_name` meets its contract: the name at the value's place. Assumes nothing.
use Rattle.book.specs.Finders.{name_place}
use Rattle.field.specs.Ranges.{value_name}
use Rattle.packet.specs.Field.{name_in}
use Rattle.text.proofs.OwnParts.{text_is}
use mathlib.Core.Path.{ap}
use Rattle.field.proofs.value_name.Goals as goal

pub returns : goal.returns
unfolding value_name
returns c =
    let s = c.args.book.now in
    text_is _ (name_place s c.value_at.result) (ap (name_in s) c.value_at.ensures) (ap (name_place s) c.value_at.ensures) c.name_in.ensures
