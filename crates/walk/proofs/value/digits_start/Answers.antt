-- `value::digits_start` meets its contract: a hex number's digits start where those of the text from there on do. Assumes nothing.
use Rattle.walk.proofs.Values.{start_plain, start_hex, start_most}
use native.Mathlib.Omega.{arith}
use Rattle.walk.proofs.value.digits_start.Goals as goal

pub returns-then-base-ne16 : goal.returns-then-base-ne16
returns-then-base-ne16 c = start_plain _ _ c.if-base-ne16.true

pub overflow_add-result : goal.overflow_add-result
overflow_add-result c = record { fits = omega (arith, start_most _ c.digits_from.ensures, c.requires, c.well_formed.0) }

pub returns : goal.returns
returns c = start_hex _ _ c.if-base-ne16.false c.digits_from.ensures
