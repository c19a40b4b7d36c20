-- `book::find::number_of` meets its contract: past the end it is 0. Assumes nothing.
use Prim.Native.Nat.{◌+◌}
use Rattle.tlv.proofs.Numbers.{read_past}
use native.Mathlib.Omega.{arith}
use Rattle.book.proofs.find.number_of.Goals as goal

pub returns-then-book-value : goal.returns-then-book-value
returns-then-book-value c = read_past 4 c.args.book.now (c.args.value + 3) (omega arith)
