-- `book::find::high_of` meets its contract: past the end it is 0. Assumes nothing.
use Prim.Native.Nat.{◌+◌}
use lib.ListN.{get_or-eq_default}
use mathlib.Core.Path.{sym}
use native.Mathlib.Omega.{arith}
use Rattle.book.proofs.find.high_of.Goals as goal

pub returns-then-book-range : goal.returns-then-book-range
returns-then-book-range c = sym (get_or-eq_default c.args.book.now 0 {n = c.args.range + 4} (omega arith))
