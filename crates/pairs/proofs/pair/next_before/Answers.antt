use Rattle.pairs.proofs.Matches.{seeking_starts, seeking_hits, seeking_steps, seeking_ends, next_pair_lem}
use Rattle.text.specs.Class.{in_class}
use mathlib.Core.Path.{sym, ◌∙◌}
use native.Mathlib.Omega.{arith}
use Rattle.pairs.proofs.pair.next_before.Goals as goal

pub loop-i-init : goal.loop-i-init
loop-i-init c = seeking_starts _ _

pub try_at-requires : goal.try_at-requires
try_at-requires c =
    (omega (arith, c.run_end-m.ensures.within, c.loop-i-test.true), c.requires)

pub overflow_add-i : goal.overflow_add-i
overflow_add-i c = omega (arith, c.run_end-m.ensures.within, c.loop-i-test.true)

pub loop-i-smaller : goal.loop-i-smaller
loop-i-smaller c = omega (arith, c.run_end-m.ensures.up, c.loop-i-test.true)

pub loop-i-preserved : goal.loop-i-preserved
unfolding in_class
loop-i-preserved c =
    seeking_steps _ c.loop-i.invariant
    c.loop-i-test.true c.run_end-m.ensures.is
    (sym c.try_at.ensures ∙ c.in_default.is)

pub returns : goal.returns
returns c = next_pair_lem _ (sym (seeking_ends _ c.loop-i.invariant c.loop-i-test.false))

pub returns-in-Some : goal.returns-in-Some
unfolding in_class
returns-in-Some c =
    next_pair_lem _
    (sym (seeking_hits _ c.loop-i.invariant
    c.loop-i-test.true c.run_end-m.ensures.is
    (sym c.try_at.ensures ∙ c.in-Some.is)))
