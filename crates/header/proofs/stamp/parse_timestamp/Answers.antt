-- `stamp::parse_timestamp` meets its contract: no stamp has its colon before the present place, so the first that is found is the first.
-- Assumes nothing.
use Rattle.header.proofs.Stamps.{seeking_starts, next_colon, seeking_steps, seeking_hits, seeking_ends, parts_some, parts_none, stamp_some, stamp_none}
use borrow.Author.Tests.{eqb-true}
use mathlib.Core.Path.{sym, ◌∙◌}
use native.Mathlib.Omega.{arith}
use Rattle.header.proofs.stamp.parse_timestamp.Goals as goal

pub loop-c-init : goal.loop-c-init
loop-c-init c = seeking_starts _

pub parts_before-requires : goal.parts_before-requires
parts_before-requires c = eqb-true _ _ (next_colon _ (sym c.first.ensures ∙ c.in-Some.is)).here

pub read_stamp-requires : goal.read_stamp-requires
read_stamp-requires c = parts_some _ _ c.parts_before.ensures c.in-Some-parts_before.is

pub returns-in-Some-parts_before : goal.returns-in-Some-parts_before
returns-in-Some-parts_before c = c.read_stamp.ensures ∙ stamp_some _ (seeking_hits _ c.loop-c.invariant (sym c.first.ensures ∙ c.in-Some.is) (parts_some _ _ c.parts_before.ensures c.in-Some-parts_before.is))

pub overflow_add-i : goal.overflow_add-i
overflow_add-i c = omega (arith, (next_colon _ (sym c.first.ensures ∙ c.in-Some.is)).within)

pub loop-c-smaller : goal.loop-c-smaller
loop-c-smaller c = let colon = next_colon _ (sym c.first.ensures ∙ c.in-Some.is) in omega (arith, colon.from, colon.within)

pub loop-c-preserved : goal.loop-c-preserved
loop-c-preserved c = seeking_steps _ c.loop-c.invariant (sym c.first.ensures ∙ c.in-Some.is) (parts_none _ _ c.parts_before.ensures c.in_default-parts_before.is)

pub returns : goal.returns
returns c = stamp_none _ (seeking_ends _ c.loop-c.invariant (sym c.first.ensures ∙ c.in_default.is))
