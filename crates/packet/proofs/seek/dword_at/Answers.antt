-- `packet::seek::dword_at` meets its contract: past the end there is nothing. Assumes nothing.
use lib.ListN.{get_or-eq_default}
use mathlib.Core.Path.{sym, refl}
use Rattle.packet.proofs.seek.dword_at.Goals as goal

pub returns-then-i-dwords : goal.returns-then-i-dwords
returns-then-i-dwords c = refl

pub returns-else-i-dwords : goal.returns-else-i-dwords
returns-else-i-dwords c = sym (get_or-eq_default c.args.dwords.now 0 {n = c.args.i} c.if-i-dwords.false)
