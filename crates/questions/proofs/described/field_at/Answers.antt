-- `questions::described::field_at` meets its contract: a field for each dword. Assumes nothing.
use Rattle.questions.specs.Described.{field_at}
use Rattle.text.specs.Told.{is}
use borrow.Author.Tests.{lt-ltb, le-ltb}
use lib.ListN.{length}
use mathlib.Core.Path.{ap}
use Rattle.questions.proofs.described.field_at.Goals as goal

pub returns-then-dwords-i : goal.returns-then-dwords-i
unfolding field_at
returns-then-dwords-i c = rw (le-ltb c.args.offset (length c.args.dwords.now) c.if-dwords-i.true)

pub returns : goal.returns
unfolding field_at
returns c = rw (lt-ltb c.args.offset (length c.args.dwords.now) c.if-dwords-i.false) (ap is c.field_in.ensures)
