-- `dwords::piece_end` meets its contract: the piece from the start ends where the piece from here does. Assumes nothing.
use Rattle.pairs.proofs.Cuts.{piece_over, piece_stop, piece_step, ends_piece}
use lib.ListN.{length}
use mathlib.Core.Path.{◌≡◌, sym, ◌∙◌}
use native.Mathlib.Omega.{arith}
use Rattle.pairs.proofs.dwords.piece_end.Goals as goal

pub returns-then-is_comma_space : goal.returns-then-is_comma_space
returns-then-is_comma_space c =
    ends_piece _ c.requires
    (sym (c.loop-k.invariant ∙ piece_stop _ c.loop-k-test.true
    (sym c.is_comma_space.ensures ∙ c.if-is_comma_space.true)))

pub loop-k-preserved : goal.loop-k-preserved
loop-k-preserved c =
    c.loop-k.invariant ∙ piece_step _ c.loop-k-test.true
    (sym c.is_comma_space.ensures ∙ c.if-is_comma_space.false)

pub returns : goal.returns
returns c = let e : length c.args.inner.now ≡ c.loop-k.k = omega arith in rw e (ends_piece _ c.requires (sym (c.loop-k.invariant ∙ piece_over _ c.loop-k-test.false)))
