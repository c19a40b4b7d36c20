-- `block::holds` meets its contract: while the flag is down none of the bytes looked at is the byte, and once it is up one is. Assumes nothing.
use Prim.Native.Nat.{◌+◌}
use Rattle.text.proofs.Blocks.{none_yet, one_more, some_of, flag_tells}
use Rattle.text.proofs.Places.{clash}
use borrow.Author.Tests.{eq-eqb, ne_eqb}
use mathlib.Core.Path.{◌≡◌, refl, sym, ◌∙◌}
use native.Mathlib.Omega.{arith}
use Rattle.text.proofs.block.holds.Goals as goal
use Rattle.text.proofs.block.holds.Goals.{then-s-at, else-s-at}

pub loop-k-init : goal.loop-k-init
loop-k-init c = (omega arith, λ e. none_yet _, λ e. absurd (clash e refl))

pub loop-k-preserved : goal.loop-k-preserved
loop-k-preserved c = (
  omega (arith, c.loop-k-test.true),
  λ e. elim c.if-s-at.branch [
    | then-s-at w ↦ absurd (clash {b = c.if-s-at.any} w.any-is e)
    | else-s-at w ↦ one_more _ _ _ (c.loop-k.invariant.1 (sym w.any-is ∙ e)) (ne_eqb _ _ w.if-s-at.false)
  ],
  λ e. elim c.if-s-at.branch [
    | then-s-at w ↦ some_of _ 16 {j = c.args.at + c.loop-k.k} (omega arith) (omega (arith, c.loop-k-test.true)) (eq-eqb _ _ w.if-s-at.true)
    | else-s-at w ↦ c.loop-k.invariant.2 (sym w.any-is ∙ e)
  ],
)

pub returns : goal.returns
returns c =
    let z : c.loop-k.k ≡ 16 = omega (arith, c.loop-k.invariant.0, c.loop-k-test.false) in
    flag_tells _ 16 _ _ (λ e. rw z at (c.loop-k.invariant.1 e)) c.loop-k.invariant.2
