-- `stamp::read_stamp` meets its contract: the two runs are those of the definition, and each way out is one law. Assumes nothing.
use Rattle.header.proofs.Stamps.{read_none, read_half, read_both}
use Rattle.text.proofs.Runs.{run_all}
use Rattle.text.specs.Class.{is_digit}
use mathlib.Core.Path.{sym, ◌∙◌}
use native.Mathlib.Omega.{arith}
use Rattle.header.proofs.stamp.read_stamp.Goals as goal

pub overflow_add-parts : goal.overflow_add-parts
overflow_add-parts c = omega (arith, c.requires.more, c.requires.digits.within)

pub slice_bounds-decimal-count : goal.slice_bounds-decimal-count
slice_bounds-decimal-count c = omega (arith, c.requires.some)

pub slice_bounds-decimal-start : goal.slice_bounds-decimal-start
slice_bounds-decimal-start c = omega (arith, c.requires.some)

pub slice_bounds-decimal-end : goal.slice_bounds-decimal-end
slice_bounds-decimal-end c = c.requires.whole.within

pub returns-in_err-seconds : goal.returns-in_err-seconds
returns-in_err-seconds c = cc (read_none _ _ _ _ (sym (run_all is_digit _ c.requires.whole)) (sym (run_all is_digit _ c.requires.digits)) (sym c.decimal.ensures ∙ c.in_err-seconds.was))

pub slice_bounds-decimal-count-2 : goal.slice_bounds-decimal-count-2
slice_bounds-decimal-count-2 c = omega (arith, c.requires.more)

pub slice_bounds-decimal-start-2 : goal.slice_bounds-decimal-start-2
slice_bounds-decimal-start-2 c = omega (arith, c.requires.more)

pub slice_bounds-decimal-end-2 : goal.slice_bounds-decimal-end-2
slice_bounds-decimal-end-2 c = c.requires.digits.within

pub returns-in_err-microseconds : goal.returns-in_err-microseconds
returns-in_err-microseconds c = cc (read_half _ _ _ _ (sym (run_all is_digit _ c.requires.whole)) (sym (run_all is_digit _ c.requires.digits)) (sym c.decimal-2.ensures ∙ c.in_err-microseconds.was))

pub returns : goal.returns
returns c = read_both _ _ _ _ (sym (run_all is_digit _ c.requires.whole)) (sym (run_all is_digit _ c.requires.digits)) (sym c.decimal.ensures ∙ c.in_ok-seconds.was) (sym c.decimal-2.ensures ∙ c.in_ok-microseconds.was)
