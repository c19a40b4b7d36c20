-- `packet::parse_checked` meets its contract: over a checked book it makes no difference that the check was made before. Assumes nothing.
use Rattle.packet.proofs.Packets.{over_is_parsed}
use Rattle.packet.proofs.parse_checked.Goals as goal

pub returns : goal.returns
returns c = over_is_parsed c.args.kind c.args.book.now c.args.dwords.now c.requires c.parse_over.ensures
