-- `look` meets its contract: the looks that are left give the whole look. Assumes nothing.
use mathlib.Core.Path.{sym, ◌∙◌}
use native.Mathlib.Omega.{arith}
use Rattle.pending.proofs.Turns.{next_look, last_look}
use Rattle.pending.proofs.look.Goals as goal

pub loop-place-preserved : goal.loop-place-preserved
loop-place-preserved c = rw c.look.ensures (sym (next_look c.args.slots.now c.loop-place.place c.loop-place.seen (omega arith)) ∙ c.loop-place.invariant)

pub returns : goal.returns
returns c = sym (last_look c.args.slots.now c.loop-place.place c.loop-place.seen (omega arith)) ∙ (c.loop-place.invariant ∙ rw c.new-seen.ensures)
