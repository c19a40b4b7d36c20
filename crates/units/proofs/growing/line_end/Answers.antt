-- `line_end` meets its contract: behind the first newline. Assumes nothing.
use Rattle.units.proofs.LinesOn.{newline_within, line_whole, line_not}
use mathlib.Core.Path.{sym, ◌∙◌}
use native.Mathlib.Omega.{arith}
use Rattle.units.proofs.growing.line_end.Goals as goal

pub returns-in_err-newline : goal.returns-in_err-newline
returns-in_err-newline c = rw c.from_residual.ensures (line_not _ _ c.requires (sym c.first.ensures ∙ c.in_err-newline.was))

pub overflow_add-result : goal.overflow_add-result
overflow_add-result c = omega (arith, (newline_within _ _ (sym c.first.ensures ∙ c.in_ok-newline.was)).1)

pub returns : goal.returns
returns c = line_whole _ _ (sym c.first.ensures ∙ c.in_ok-newline.was)
