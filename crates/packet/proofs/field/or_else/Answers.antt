-- `packet::field::or_else` meets its contract: a place is 0 or it is one. Assumes nothing.
use Rattle.packet.proofs.Fields.{none_else, some_else}
use mathlib.Core.Path.{sym}
use Rattle.packet.proofs.field.or_else.Goals as goal

pub returns-then-p-eq0 : goal.returns-then-p-eq0
returns-then-p-eq0 c = sym (none_else c.args.q c.args.p c.if-p-eq0.true)

pub returns-else-p-eq0 : goal.returns-else-p-eq0
returns-else-p-eq0 c = sym (some_else c.args.q c.args.p c.if-p-eq0.false)
