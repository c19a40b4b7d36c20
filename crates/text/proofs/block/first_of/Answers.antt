-- `block::first_of` meets its contract: what stands is the first of the places seen, and each turn sees one more in front of them. Assumes nothing.
use Prim.Native.Nat.{◌+◌, ◌-◌}
use Rattle.text.proofs.Blocks.{front_hit, front_miss}
use Rattle.text.specs.Place.{first_of}
use borrow.Author.Rules.{rules}
use borrow.Author.Tests.{eq-eqb, ne_eqb}
use mathlib.Core.Path.{◌≡◌, ap, ◌∙◌}
use native.Mathlib.Omega.{arith}
use Rattle.text.proofs.block.first_of.Goals as goal
use Rattle.text.proofs.block.first_of.Goals.{then-s-at, else-s-at}

pub loop-k-init : goal.loop-k-init
unfolding first_of
loop-k-init c = search rules

pub loop-k-preserved : goal.loop-k-preserved
loop-k-preserved c = (
  omega (arith, c.loop-k-test.true),
  elim c.if-s-at.branch [
    | then-s-at w ↦ ap (◌+◌ _) w.found-is ∙ front_hit _ 16 _ _ c.loop-k-test.true (eq-eqb _ _ w.if-s-at.true)
    | else-s-at w ↦ ap (◌+◌ _) w.found-is ∙ c.loop-k.invariant.1 ∙ front_miss _ 16 _ _ c.loop-k-test.true (ne_eqb _ _ w.if-s-at.false)
  ],
)

pub returns : goal.returns
returns c =
    let z : c.loop-k.k ≡ 16 = omega (arith, c.loop-k.invariant.0, c.loop-k-test.false) in
    let y : c.args.at + (16 - c.loop-k.k) ≡ c.args.at = omega arith in
    c.loop-k.invariant.1 ∙ rw (y, z)
