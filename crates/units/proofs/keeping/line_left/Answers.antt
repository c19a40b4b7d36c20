-- `line_left` meets its contract: by the first newline. Assumes nothing.
use Rattle.units.proofs.States.{line_long, line_none}
use borrow.Author.Tests.{lt-leb}
use mathlib.Core.Path.{◌∙◌}
use Rattle.units.proofs.keeping.line_left.Goals as goal

pub returns-then-kept-le4097 : goal.returns-then-kept-le4097
returns-then-kept-le4097 c = line_none _ c.if-kept-le4097.true _ c.first.ensures _ c.is_none.ensures

pub returns-else-kept-le4097 : goal.returns-else-kept-le4097
returns-else-kept-le4097 c = lt-leb _ _ c.if-kept-le4097.false ∙ line_long _ c.if-kept-le4097.false
