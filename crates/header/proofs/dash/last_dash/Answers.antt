-- `dash::last_dash` meets its contract: the last dash of the whole is the last dash below here. Assumes nothing.
use Rattle.text.proofs.Places.{last_hit_below, last_miss_below, last_zero}
use Rattle.text.specs.Place.{last_place}
use mathlib.Core.Path.{◌≡◌, sym, ap, ◌∙◌}
use native.Mathlib.Omega.{arith}
use Rattle.header.proofs.dash.last_dash.Goals as goal

pub returns-then-is_dash : goal.returns-then-is_dash
returns-then-is_dash c = sym (c.loop-k.invariant ∙ last_hit_below _ _ c.loop-k-test.true (sym c.is_dash.ensures ∙ c.if-is_dash.true))

pub loop-k-preserved : goal.loop-k-preserved
loop-k-preserved c = c.loop-k.invariant ∙ last_miss_below _ _ c.loop-k-test.true (sym c.is_dash.ensures ∙ c.if-is_dash.false)

pub returns : goal.returns
returns c = let z : c.loop-k.k ≡ 0 = omega arith in sym (c.loop-k.invariant ∙ ap (last_place _) z ∙ last_zero _)
