-- `book::find::offset_of` meets its contract: past the end it is 0. Assumes nothing.
use Prim.Native.Nat.{◌+◌}
use Rattle.tlv.proofs.Numbers.{read_past}
use native.Mathlib.Omega.{arith}
use Rattle.book.proofs.find.offset_of.Goals as goal

pub returns-then-book-entry : goal.returns-then-book-entry
returns-then-book-entry c = read_past 2 c.args.book.now (c.args.entry + 3) (omega arith)
