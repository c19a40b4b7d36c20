-- `line_on` meets its contract: up to the newline, else to the part's end. Assumes nothing.
use Rattle.units.proofs.LinesOn.{line_open, line_ends, ends_found}
use Rattle.units.proofs.growing.line_on.Goals as goal

pub returns-then-is_some : goal.returns-then-is_some
returns-then-is_some c = λ u o k. line_ends _ _ _ c.requires.0 _ _ c.requires.1 c.requires.2 c.requires.3 _ (ends_found _ _ _ _ _ c.line_end-end.ensures c.unwrap_or-at.ensures c.is_some.ensures) _ c.min-count.ensures _ _ c.put-now.ensures u o k c.if-is_some.true c.ends.ensures

pub returns : goal.returns
returns c = λ u o k. line_open _ _ _ c.requires.0 _ _ c.requires.1 c.requires.2 c.requires.3 _ (ends_found _ _ _ _ _ c.line_end-end.ensures c.unwrap_or-at.ensures c.is_some.ensures) _ c.min-count.ensures _ _ c.put-now.ensures u o k c.if-is_some.false c.wants.ensures
