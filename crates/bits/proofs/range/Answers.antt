-- `bits::range` meets its contract: outside the dword there is no value, and inside it a mask of ones is a remainder.
-- Assumes nothing.
use Rattle.bits.proofs.Ranges.{range_backwards, range_past_the_dword, range_by_mask}
use mathlib.Core.Path.{sym}
use Rattle.bits.proofs.range.Goals as goal
use Rattle.bits.proofs.range.Goals.{else-low-high-via-then-low-high+else-high-le31, else-low-high-via-else-low-high}

pub returns-then-high-le31 : goal.returns-then-high-le31
returns-then-high-le31 c = range_by_mask _ _ _ c.if-low-high.true c.if-high-le31.true c.ones.result c.ones.ensures

pub returns-else-low-high : goal.returns-else-low-high
returns-else-low-high c = elim c.else-low-high.branch [
  | else-low-high-via-then-low-high+else-high-le31 w ↦ sym (range_past_the_dword _ _ _ w.if-low-high.true w.if-high-le31.false)
  | else-low-high-via-else-low-high w ↦ sym (range_backwards _ _ _ w.if-low-high.false)
]
