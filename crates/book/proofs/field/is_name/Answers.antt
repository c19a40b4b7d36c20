-- `book::field::is_name` meets its contract: so long, and ASCII. Assumes nothing.
use Rattle.book.proofs.Names.{name_ascii}
use Rattle.book.proofs.field.is_name.Goals as goal

pub returns-then-s-le255 : goal.returns-then-s-le255
returns-then-s-le255 c = name_ascii c.args.s.now c.if-s-le255.true.0 c.if-s-le255.true.1 c.is_ascii.result c.is_ascii.ensures.cases
