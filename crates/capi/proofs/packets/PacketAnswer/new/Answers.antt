-- `new` meets its contract: the start is a number or absent, and the UUID's dwords stand or are zeros. Assumes nothing.
use Rattle.c_entry.proofs.Flats.{flat_word_is}
use Rattle.capi.proofs.packets.PacketAnswer.new.Goals as goal

pub returns-in-Some : goal.returns-in-Some
returns-in-Some c = rw (c.in-Some.is, flat_word_is _ c.or_absent-start.ensures)

pub returns-in-None : goal.returns-in-None
returns-in-None c = rw (c.in-None.is, flat_word_is _ c.or_absent-start.ensures)
