-- `value::value_at` meets its contract: a short number where one is told, else what stands from the start to the value's end. Assumes nothing.
use Rattle.pairs.proofs.Tries.{value_is, value_up, value_within}
use Rattle.walk.proofs.Values.{value_found, value_none}
use mathlib.Core.Path.{sym, ◌∙◌}
use native.Mathlib.Omega.{arith}
use Rattle.walk.proofs.value.value_at.Goals as goal

pub value_end-requires : goal.value_end-requires
value_end-requires c = (c.word_end.ensures.is, c.requires.2)

pub keep-requires : goal.keep-requires
keep-requires c = let there = value_is _ _ (sym c.value_end.ensures ∙ c.in_ok-end.was) in (omega (arith, value_up _ _ there), value_within _ _ there)

pub returns : goal.returns
returns c = value_found _ _ _ c.value_end.ensures c.in_ok-end.was c.keep.ensures

pub returns-in_err-end : goal.returns-in_err-end
returns-in_err-end c = c.from_residual.ensures ∙ value_none _ _ _ c.value_end.ensures c.in_err-end.was
