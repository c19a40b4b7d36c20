-- `run::strip` meets its contract: the two runs are those of `stripped`, and the first says where the part lies. Assumes nothing.
use Prim.Native.Nat.{ℕ}
use Rattle.text.proofs.OwnParts.{own_cut}
use Rattle.text.proofs.Stripping.{rest_is, part_length, stripped_by}
use Rattle.text.specs.Class.{in_class}
use lib.ListN.{length, take, drop, length-drop}
use mathlib.Core.Path.{refl, ap, ◌∙◌}
use native.Mathlib.Omega.{arith}
use Rattle.text.proofs.run.strip.Goals as goal

pub slice_bounds-result-end : goal.slice_bounds-result-end
slice_bounds-result-end c = part_length _ _ c.run_start-to.ensures.within

pub returns : goal.returns
unfolding in_class
returns c =
    let s = c.args.s.now in
    let from = c.run_end-from.result in
    let to = c.run_start-to.result in
    let here = c.run_end-from.ensures.is in
    let rest = rest_is from s in
    own_cut to (ap (take to) rest ∙ ap (λ (n : ℕ). take to (drop n s)) here) refl (omega (arith, here))
    (omega (arith, here, c.run_end-from.ensures.within, c.run_start-to.ensures.within, ap length rest, length-drop from s))
    (stripped_by s here rest c.run_start-to.ensures.is)
