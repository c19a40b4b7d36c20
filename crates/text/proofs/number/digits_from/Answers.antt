-- `number::digits_from` meets its contract: the prefix says where the digits start. Assumes nothing.
use Rattle.text.proofs.Hexes.{from_prefix}
use Rattle.text.proofs.number.digits_from.Goals as goal

pub returns-then-starts_with : goal.returns-then-starts_with
returns-then-starts_with c = from_prefix _ 2 _ c.starts_with.ensures.value (rw c.if-starts_with.true)

pub returns-else-starts_with : goal.returns-else-starts_with
returns-else-starts_with c = from_prefix _ 0 _ c.starts_with.ensures.value (rw c.if-starts_with.false)
