-- `Entry::data` meets its contract: the test says whether the slots are enough. Assumes nothing.
use Rattle.entry.proofs.Parts.{own_in, own_out}
use lib.Seq.{length-take-le}
use mathlib.Core.Path.{refl, sym}
use native.Mathlib.Omega.{arith}
use Rattle.entry.proofs.Entry.data.Goals as goal

pub returns-then-slots-n : goal.returns-then-slots-n
returns-then-slots-n c = own_out 0 _ (omega arith) refl refl (omega arith)

pub slice_bounds-result-end-2 : goal.slice_bounds-result-end-2
slice_bounds-result-end-2 c = sym (length-take-le _ _ (omega arith))

pub returns : goal.returns
returns c = own_in 0 _ _ refl refl (omega arith) refl (omega arith)
