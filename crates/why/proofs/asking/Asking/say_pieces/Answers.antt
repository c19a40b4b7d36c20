-- `say_pieces` meets its contract: what was found so far with what the rest gives is all (`Walk`). Assumes nothing.
use Rattle.std.proofs.Common.{◌-◌, ◌^◌, arith}
use Rattle.why.proofs.Walks.{part_short, bad_within, walk_starts, walk_ends, walk_steps}
use Rattle.why.proofs.asking.Asking.say_pieces.Goals as goal

pub loop-i-init : goal.loop-i-init
loop-i-init c = walk_starts _ _

pub piece_end-to-requires : goal.piece_end-to-requires
piece_end-to-requires c = c.loop-i.invariant.within

pub say_text-requires : goal.say_text-requires
say_text-requires c = record { short = part_short c.args.inner.now c.requires c.piece_end-to.ensures.up c.piece_end-to.ensures.within; within = bad_within (2 ^ 32 - 1) _ c.hex.ensures }

pub returns-then-to-inner : goal.returns-then-to-inner
returns-then-to-inner c = walk_ends _ _ c.loop-i.invariant c.piece_end-to.ensures c.hex.ensures c.say_text.ensures c.if-to-inner.true

pub overflow_add-i : goal.overflow_add-i
overflow_add-i c = omega (arith, c.loop-i.invariant.few, c.loop-i.invariant.within)

pub overflow_add-at : goal.overflow_add-at
overflow_add-at c = omega (arith, c.piece_end-to.ensures.within)

pub loop-i-smaller : goal.loop-i-smaller
loop-i-smaller c = omega (arith, c.piece_end-to.ensures.up, c.piece_end-to.ensures.within, c.if-to-inner.false)

pub loop-i-preserved : goal.loop-i-preserved
loop-i-preserved c = walk_steps _ _ c.loop-i.invariant c.piece_end-to.ensures c.hex.ensures c.say_text.ensures c.if-to-inner.false
