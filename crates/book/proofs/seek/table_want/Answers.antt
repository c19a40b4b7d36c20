-- `book::seek::table_want` meets its contract: the tag decides. Assumes nothing.
use Rattle.book.specs.Search.{table_want}
use Rattle.book.specs.declared.seek.Want.TheVariants as W
use borrow.Author.Tests.{eq-eqb, ne_eqb}
use mathlib.Core.Path.{ap}
use Rattle.book.proofs.seek.table_want.Goals as goal

pub returns-then-tag-eq1 : goal.returns-then-tag-eq1
unfolding table_want
returns-then-tag-eq1 c = rw (eq-eqb c.args.tag 1 c.if-tag-eq1.true) (ap W.Kind c.byte_at.ensures.0)

pub returns : goal.returns
unfolding table_want
returns c = rw (ne_eqb c.args.tag 1 c.if-tag-eq1.false) (ap W.Uuid c.uuid_at.ensures)
