-- `field::field_name` meets its contract: the name at the entry's place. Assumes nothing.
use Rattle.book.specs.Finders.{name_place}
use Rattle.field.specs.Ranges.{field_name}
use Rattle.packet.specs.Field.{name_in}
use Rattle.text.proofs.OwnParts.{text_is}
use mathlib.Core.Path.{ap}
use Rattle.field.proofs.field_name.Goals as goal

pub returns : goal.returns
unfolding field_name
returns c =
    let s = c.args.book.now in
    text_is _ (name_place s c.entry_of.result) (ap (name_in s) c.entry_of.ensures) (ap (name_place s) c.entry_of.ensures) c.name_in.ensures
