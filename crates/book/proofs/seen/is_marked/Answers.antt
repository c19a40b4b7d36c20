-- `book::seen::is_marked` meets its contract, which is its code in numbers. Assumes nothing.
use Rattle.book.specs.Seen.{is_marked}
use mathlib.Core.Path.{refl}
use Rattle.book.proofs.seen.is_marked.Goals as goal

pub returns : goal.returns
unfolding is_marked
returns c = refl
