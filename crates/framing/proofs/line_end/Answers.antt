-- `line_end` meets its contract, by cases on whether a newline was found. Assumes nothing.
use Rattle.framing.proofs.Endings.{newline_within, line_ends, line_open}
use mathlib.Core.Path.{sym, ◌∙◌}
use native.Mathlib.Omega.{arith}
use Rattle.framing.proofs.line_end.Goals as goal

pub returns-in_err-newline : goal.returns-in_err-newline
returns-in_err-newline c =
    rw c.from_residual.ensures (line_open c.args.part.now c.args.from c.args.held.now c.requires (sym c.first.ensures ∙ c.in_err-newline.was))

pub overflow_add-result : goal.overflow_add-result
overflow_add-result c = omega (arith, (newline_within _ _ c.args.held.now (sym c.first.ensures ∙ c.in_ok-newline.was)).1)

pub returns : goal.returns
returns c = line_ends _ _ _ (sym c.first.ensures ∙ c.in_ok-newline.was)
