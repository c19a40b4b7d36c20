-- `packet::steps::describe_xdomain` meets its contract: header table, UUID, protocol table. Assumes nothing.
use Rattle.packet.proofs.Packets.{described_on}
use Rattle.packet.specs.Steps.{header_places}
use Rattle.packet.proofs.steps.describe_xdomain.Goals as goal

pub returns : goal.returns
unfolding header_places
returns c = described_on c.args.book.now c.args.dwords.now c.fill.ensures c.gather-uuid.ensures c.describe_protocol.ensures
