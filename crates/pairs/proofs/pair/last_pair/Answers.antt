-- `pair::last_pair` meets its contract: the last pair of the key is the newest so far or a later one. Assumes nothing.
use Rattle.pairs.proofs.LastPairs.{last_takes, last_passes, last_end, value_at}
use Rattle.pairs.specs.Pair.{last_pair}
use Rattle.text.specs.Class.{in_class}
use borrow.Author.Rules.{rules}
use mathlib.Core.Path.{refl, sym, ◌∙◌}
use Rattle.pairs.proofs.pair.last_pair.Goals as goal

pub loop-hit-init : goal.loop-hit-init
unfolding last_pair
loop-hit-init c = refl

pub next_before-requires : goal.next_before-requires
unfolding in_class
next_before-requires c = search rules

pub loop-hit-preserved-then-eq : goal.loop-hit-preserved-then-eq
loop-hit-preserved-then-eq c =
    c.loop-hit.invariant ∙ last_takes _ _ _ _
    (sym c.next_before.ensures.is
    ∙ c.in-Some.is)
    (sym c.eq.ensures ∙ c.if-eq.true)

pub loop-hit-preserved : goal.loop-hit-preserved
loop-hit-preserved c =
    c.loop-hit.invariant ∙ last_passes _ _ _ _
    (sym c.next_before.ensures.is
    ∙ c.in-Some.is)
    (sym c.eq.ensures ∙ c.if-eq.false)

pub returns : goal.returns
returns c =
    value_at _ _
    (sym (c.loop-hit.invariant ∙ last_end _ _ _ _
    (sym c.next_before.ensures.is ∙ c.in_default.is)))
