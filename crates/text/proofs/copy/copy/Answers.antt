-- `copy::copy` meets its contract: in front of the index the two are the same. Assumes nothing.
use mathlib.Core.Path.{refl, sym, ap, ◌∙◌}
use mathlib.Core.List.{[], ◌∷◌, ◌++◌}
use lib.ListN.{take}
use native.Mathlib.Omega.{arith}
use Rattle.std.proofs.lemmas.List.{take_all, take_more, take_more_set}
use Rattle.text.proofs.copy.copy.Goals as goal

pub loop-i-init : goal.loop-i-init
loop-i-init g c = refl

pub loop-i-preserved : goal.loop-i-preserved
loop-i-preserved g c =
    take_more_set c.loop-i.to c.loop-i.i c.index-from-i.result (omega (arith, c.loop-i.auto.to, c.requires, c.loop-i-test.true))
    ∙ ap (λ xs. xs ++ (c.index-from-i.result ∷ [])) c.loop-i.invariant
    ∙ ap (λ x. take c.loop-i.i c.args.from.now ++ (x ∷ [])) c.index-from-i.is
    ∙ sym (take_more c.args.from.now c.loop-i.i c.index-from-i.result c.loop-i-test.true)

pub returns : goal.returns
returns g c = sym (take_all _ _ (omega (arith, c.loop-i.auto.to, c.loop-i-test.false, c.requires))) ∙ c.loop-i.invariant ∙ take_all _ _ (omega (arith, c.loop-i-test.false))
