-- `block::last_of` meets its contract: what stands is the place behind the last one of those seen. Assumes nothing.
use Rattle.text.proofs.Blocks.{behind_hit, behind_miss}
use Rattle.text.specs.Place.{last_place}
use Rattle.text.specs.Run.{behind}
use borrow.Author.Rules.{rules}
use borrow.Author.Tests.{eq-eqb, ne_eqb}
use mathlib.Core.Path.{◌≡◌, sym, ◌∙◌}
use native.Mathlib.Omega.{arith}
use Rattle.text.proofs.block.last_of.Goals as goal
use Rattle.text.proofs.block.last_of.Goals.{then-s-at, else-s-at}

pub loop-k-init : goal.loop-k-init
unfolding behind last_place
loop-k-init c = search rules

pub loop-k-preserved : goal.loop-k-preserved
loop-k-preserved c = (
  omega (arith, c.loop-k-test.true),
  elim c.if-s-at.branch [
    | then-s-at w ↦ w.found-is ∙ sym (behind_hit _ _ (eq-eqb _ _ w.if-s-at.true))
    | else-s-at w ↦ w.found-is ∙ c.loop-k.invariant.1 ∙ sym (behind_miss _ _ (ne_eqb _ _ w.if-s-at.false))
  ],
)

pub returns : goal.returns
returns c =
    let z : c.loop-k.k ≡ 16 = omega (arith, c.loop-k.invariant.0, c.loop-k-test.false) in
    rw z at c.loop-k.invariant.1
