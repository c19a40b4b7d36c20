-- `packet::steps::describe_protocol` meets its contract: no UUID, no table, or the table's entries. Assumes nothing.
use Rattle.packet.proofs.steps.describe_protocol.Goals as goal

pub returns-in_default : goal.returns-in_default
returns-in_default c = rw c.in_default.is

pub returns-in_default-uuid_table : goal.returns-in_default-uuid_table
returns-in_default-uuid_table c = rw (c.in-Some.is, ← c.uuid_table.ensures, c.in_default-uuid_table.is)

pub returns : goal.returns
returns c = rw (c.in-Some.is, ← c.uuid_table.ensures, c.in-Some-uuid_table.is) c.latch_through.ensures
