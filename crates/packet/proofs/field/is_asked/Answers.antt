-- `packet::field::is_asked` meets its contract, question by question. Assumes nothing.
use Rattle.packet.proofs.Fields.{located}
use Rattle.packet.specs.Field.{asks}
use mathlib.Core.Path.{◌∙◌}
use Rattle.packet.proofs.field.is_asked.Goals as goal

pub returns-in-Named : goal.returns-in-Named
unfolding asks
returns-in-Named c = rw c.in-Named.is c.is_named.ensures

pub returns-in-Holds : goal.returns-in-Holds
unfolding asks
returns-in-Holds c = rw c.in-Holds.is (c.is_some.ensures ∙ located c.range_in.result c.range_in.ensures)
