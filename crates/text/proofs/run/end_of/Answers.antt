-- `run::end_of` meets its contract: the run from the start ends where the run from here does, whatever is tested. Assumes nothing.
use Rattle.text.proofs.Runs.{run_over, run_stop, run_step, ends_at}
use mathlib.Core.Path.{◌≡◌, sym, ◌∙◌}
use native.Mathlib.Omega.{arith}
use Rattle.text.proofs.run.end_of.Goals as goal

pub returns-then-not-passes : goal.returns-then-not-passes
returns-then-not-passes g c = λ p tests. ends_at _ _ (sym (c.loop-i.invariant.same p tests ∙ run_stop _ _ c.loop-i-test.true (sym (tests _ _ (omega (arith, c.type_inv.s c.loop-i.i)) c.passes.ensures) ∙ c.if-not-passes.true)))

pub loop-i-preserved : goal.loop-i-preserved
loop-i-preserved g c = record {
  within = omega arith;
  same = λ p tests. c.loop-i.invariant.same p tests ∙ run_step _ _ c.loop-i-test.true (sym (tests _ _ (omega (arith, c.type_inv.s c.loop-i.i)) c.passes.ensures) ∙ c.if-not-passes.false);
}

pub returns : goal.returns
returns g c =
    let e : c.max.result ≡ c.loop-i.i = omega (arith, c.loop-i.invariant.within) in
    λ p tests. ends_at _ _ (e ∙ sym (c.loop-i.invariant.same p tests ∙ run_over _ _ c.loop-i-test.false))
