-- `run::start_of` meets its contract: what starts the run of the whole starts it below here, whatever is tested. Assumes nothing.
use Rattle.text.proofs.Runs.{back_start, back_step, back_stop, back_over, starts_at}
use Prim.Native.Nat.{◌+◌, ◌-◌}
use mathlib.Core.Path.{◌≡◌, sym, ◌∙◌}
use native.Mathlib.Omega.{arith}
use Rattle.text.proofs.run.start_of.Goals as goal

pub loop-i-init : goal.loop-i-init
loop-i-init g c = λ p tests. back_start _ _

pub returns-then-not-passes : goal.returns-then-not-passes
returns-then-not-passes g c = λ p tests.
    let e : c.loop-i.i - 1 + 1 ≡ c.loop-i.i = omega arith in
    starts_at _ _ (e ∙ sym (back_stop _ _ {i = c.loop-i.i} (c.loop-i.invariant p tests) (omega arith) (sym (tests _ _ (omega (arith, c.type_inv.s (c.loop-i.i - 1))) c.passes.ensures) ∙ c.if-not-passes.true)))

pub loop-i-preserved : goal.loop-i-preserved
loop-i-preserved g c = λ p tests.
    back_step _ _ {i = c.loop-i.i} (c.loop-i.invariant p tests) (omega arith) (sym (tests _ _ (omega (arith, c.type_inv.s (c.loop-i.i - 1))) c.passes.ensures) ∙ c.if-not-passes.false)

pub returns : goal.returns
returns g c = λ p tests. starts_at _ _ (sym (back_over _ _ (c.loop-i.invariant p tests) (omega arith)))
