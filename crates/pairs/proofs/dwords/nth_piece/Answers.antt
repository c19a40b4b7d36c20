-- `dwords::nth_piece` meets its contract: the i-th piece from the start is the one that so many pieces on from here comes to. Assumes nothing.
use Rattle.pairs.proofs.Pieces.{passing_starts, passing_ends, passing_runs_out, passing_steps}
use native.Mathlib.Omega.{arith}
use Rattle.pairs.proofs.dwords.nth_piece.Goals as goal

pub loop-left-init : goal.loop-left-init
loop-left-init c = passing_starts _ _

pub piece_end-to-requires : goal.piece_end-to-requires
piece_end-to-requires c = c.loop-left.invariant.within

pub returns-then-left-eq0 : goal.returns-then-left-eq0
returns-then-left-eq0 c = passing_ends _ _ c.loop-left.invariant c.if-left-eq0.true c.piece_end-to.ensures

pub returns-then-to-inner : goal.returns-then-to-inner
returns-then-to-inner c = passing_runs_out _ _ c.loop-left.invariant c.if-left-eq0.false c.piece_end-to.ensures c.if-to-inner.true

pub overflow_sub-left : goal.overflow_sub-left
overflow_sub-left c = omega (arith, c.if-left-eq0.false)

pub overflow_add-at : goal.overflow_add-at
overflow_add-at c = omega (arith, c.piece_end-to.ensures.within)

pub loop-left-smaller : goal.loop-left-smaller
loop-left-smaller c = omega (arith, c.piece_end-to.ensures.up, c.piece_end-to.ensures.within, c.if-to-inner.false)

pub loop-left-preserved : goal.loop-left-preserved
loop-left-preserved c = passing_steps _ _ c.loop-left.invariant c.if-left-eq0.false c.piece_end-to.ensures c.if-to-inner.false
