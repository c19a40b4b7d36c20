-- `read` meets its contract: the first byte decides. Assumes nothing.
use Rattle.intake.proofs.Taking.{taken_record, taken_line}
use mathlib.Core.Path.{sym, ◌∙◌}
use Rattle.intake.proofs.read.Goals as goal

pub returns-then-starts_a1 : goal.returns-then-starts_a1
returns-then-starts_a1 c = taken_record _ _ _ (sym c.starts_a1.ensures ∙ c.if-starts_a1.true) c.read.ensures

pub returns : goal.returns
returns c = taken_line _ _ _ (sym c.starts_a1.ensures ∙ c.if-starts_a1.false) c.parse.ensures
