-- `book::seen::mark` meets its contract, which is its code in numbers: no bit is shifted out. Assumes nothing.
use Prim.Native.Nat.{ℕ, ◌/◌}
use Rattle.book.proofs.Marks.{bit_kept}
use Rattle.book.specs.Seen.{marked}
use lib.Bits.{bit_or}
use lib.ListN.{get_or, set}
use mathlib.Core.Path.{ap}
use Rattle.book.proofs.seen.mark.Goals as goal

pub returns : goal.returns
unfolding marked
returns c =
    ap (λ (b : ℕ). set c.args.seen.now (c.args.n / 64) (bit_or (get_or c.args.seen.now (c.args.n / 64) 0) b)) (bit_kept c.args.n)
