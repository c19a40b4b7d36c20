-- `book::seek::name_at` meets its contract: past the end there is no name. Assumes nothing.
use Rattle.book.proofs.Searching.{name_past}
use Rattle.book.specs.Search.{name_at}
use Rattle.text.proofs.OwnParts.{no_text}
use mathlib.Core.Path.{refl, sym}
use Rattle.book.proofs.seek.name_at.Goals as goal

pub returns-then-s-from : goal.returns-then-s-from
returns-then-s-from c = no_text _ refl refl refl (sym (name_past c.args.s.now c.args.from c.if-s-from.true))

pub returns : goal.returns
unfolding name_at
returns c = c.body_at.ensures
