-- `first_byte` meets its contract: of what is held, else of the part. Assumes nothing.
use Rattle.units.proofs.States.{first_held, first_part}
use mathlib.Core.Path.{sym, ◌∙◌}
use Rattle.units.proofs.first_byte.Goals as goal

pub returns-then-held-gt0 : goal.returns-then-held-gt0
returns-then-held-gt0 c = c.byte_at.ensures ∙ sym (first_held _ _ _ _ c.if-held-gt0.true c.requires)

pub returns : goal.returns
returns c = c.byte_at-2.ensures ∙ sym (first_part _ _ _ _ c.if-held-gt0.false)
