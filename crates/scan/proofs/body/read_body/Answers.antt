-- `body::read_body` meets its contract: what the walk kept of each key goes on, in the order of the numbers. Assumes nothing.
use Rattle.pairs.proofs.LastPairs.{last_within}
use Rattle.scan.proofs.Said.{type_there, size_said, size_most, domain_said, domain_most, route_said, dropped_said}
use Rattle.scan.proofs.Stages.{was_there}
use Rattle.scan.specs.Body.{text_at, dropped_of, is_one, body_of}
use Rattle.std.specs.Prelude.{ℕ, Option, Some, None}
use Rattle.std.specs.Option.{option_eq}
use lib.Dec.{eqb}
use mathlib.Core.Path.{◌≡◌, refl, sym, ap, ◌∙◌}
use native.Mathlib.Omega.{arith}
use Rattle.scan.proofs.body.read_body.Goals as goal

-- the comparison with 1
one_is : (o : Option ℕ) → option_eq eqb o (Some 1) ≡ is_one o
unfolding is_one
one_is (Some v) = refl
one_is None = refl

pub slice_bounds-kind_of-count : goal.slice_bounds-kind_of-count
slice_bounds-kind_of-count c = omega (arith, last_within c.args.p.now _ (sym (type_there _ c.requires) ∙ sym c.part.ensures ∙ was_there _ _ c.ok_or.ensures.value c.in_ok-name.was))

pub slice_bounds-kind_of-start : goal.slice_bounds-kind_of-start
slice_bounds-kind_of-start c = omega (arith, last_within c.args.p.now _ (sym (type_there _ c.requires) ∙ sym c.part.ensures ∙ was_there _ _ c.ok_or.ensures.value c.in_ok-name.was))

pub slice_bounds-kind_of-end : goal.slice_bounds-kind_of-end
slice_bounds-kind_of-end c = omega (arith, last_within c.args.p.now _ (sym (type_there _ c.requires) ∙ sym c.part.ensures ∙ was_there _ _ c.ok_or.ensures.value c.in_ok-name.was))

pub overflow_cast-result : goal.overflow_cast-result
overflow_cast-result c = record { fits = omega (arith, size_most _ c.requires (sym c.number.ensures ∙ was_there _ _ c.ok_or-2.ensures.value c.in_ok-size.was)) }

pub overflow_cast-result-2 : goal.overflow_cast-result-2
overflow_cast-result-2 c = record { fits = omega (arith, domain_most _ c.requires (sym c.number-2.ensures ∙ was_there _ _ c.ok_or-3.ensures.value c.in_ok-domain.was)) }

pub returns : goal.returns
unfolding body_of text_at dropped_of is_one
returns c =
    rw (
      sym (type_there _ c.requires) ∙ sym c.part.ensures ∙ was_there _ _ c.ok_or.ensures.value c.in_ok-name.was,
      size_said _ c.requires ∙ sym c.number.ensures ∙ was_there _ _ c.ok_or-2.ensures.value c.in_ok-size.was,
      domain_said _ c.requires ∙ sym c.number-2.ensures ∙ was_there _ _ c.ok_or-3.ensures.value c.in_ok-domain.was,
      route_said _ c.requires ∙ sym c.number-3.ensures ∙ was_there _ _ c.ok_or-4.ensures.value c.in_ok-route.was,
      c.number-4.ensures ∙ c.kind_of.ensures,
      c.eq.ensures ∙ one_is c.number-5.result ∙ ap is_one (c.number-5.ensures ∙ sym (dropped_said _ c.requires)),
      c.read_optionals.ensures _ c.requires,
    )
