-- `marks` meets its contract: by the framing. Assumes nothing.
use Rattle.units.proofs.Firsts.{mark_none, mark_a1}
use Rattle.units.proofs.keeping.marks.Goals as goal

pub returns-in-Lines : goal.returns-in-Lines
returns-in-Lines c = mark_none _ c.in-Lines.is

pub returns-in-Both : goal.returns-in-Both
returns-in-Both c = mark_a1 _ c.in-Both.is
