-- `frame::none_high` meets its contract: what the whole blocks leave out lies in the last one. Assumes nothing.
use Prim.Native.Nat.{ℕ, ◌-◌, ◌%◌}
use Rattle.scan.proofs.Levels.{level_tells, left_high, both_parts}
use Rattle.text.proofs.Stripping.{part_length}
use lib.ListN.{length}
use mathlib.Core.List.{List}
use native.Mathlib.Omega.{arith}
use Rattle.scan.proofs.frame.none_high.Goals as goal

pub returns-then-n : goal.returns-then-n
returns-then-n c = level_tells _ c.max_byte.ensures

pub slice_bounds-max_byte-end : goal.slice_bounds-max_byte-end
slice_bounds-max_byte-end c = part_length _ c.args.s.now (omega arith)

pub returns-then-max_byte-ge-HIGH : goal.returns-then-max_byte-ge-HIGH
returns-then-max_byte-ge-HIGH c =
    let s : List ℕ = c.args.s.now in
    left_high s {w = length s - length s % 32} c.max_byte-2.ensures (omega arith) c.if-max_byte-ge-HIGH.true

pub returns : goal.returns
returns c =
    let s : List ℕ = c.args.s.now in
    both_parts s {w = length s - length s % 32} c.max_byte-2.ensures c.if-max_byte-ge-HIGH.false c.max_byte-3.ensures (omega arith) (omega arith)
