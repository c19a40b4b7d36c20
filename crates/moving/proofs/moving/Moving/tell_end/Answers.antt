-- `Moving::tell_end` meets its contract, by what kept the program from its work. Assumes nothing.
use Rattle.moving.proofs.Places.{status_unwritten, status_unread, status_untold, status_well}
use mathlib.Core.Path.{◌∙◌}
use Rattle.moving.proofs.moving.Moving.tell_end.Goals as goal

pub returns-in-Some : goal.returns-in-Some
returns-in-Some c = c.from.ensures ∙ status_unwritten _ _ c.in-Some.is

pub returns-in-Err : goal.returns-in-Err
returns-in-Err c = c.from-in-Err.ensures ∙ status_unread c.in_default.not-Some _ c.in-Err.is

pub returns-then-self : goal.returns-then-self
returns-then-self c = c.from-then-self.ensures ∙ status_untold c.in_default.not-Some c.in_default-read.is c.if-self.true

pub returns : goal.returns
returns c = status_well c.in_default.not-Some c.in_default-read.is c.if-self.false
