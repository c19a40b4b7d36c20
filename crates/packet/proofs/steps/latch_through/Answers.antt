-- `packet::steps::latch_through` meets its contract: zeros, of which as many as there are dwords are lent. Assumes nothing.
use Prim.Native.Nat.{ℕ}
use Rattle.packet.proofs.Latching.{laid_room, laid_lent, spread}
use lib.ListN.{length, replicate}
use lib.Seq.{length-take-le}
use mathlib.Core.List.{List}
use mathlib.Core.Path.{sym}
use Rattle.packet.proofs.steps.latch_through.Goals as goal

pub slice_bounds-plain-end-2 : goal.slice_bounds-plain-end-2
slice_bounds-plain-end-2 c = laid_room c.args.book.now c.args.table c.args.dwords.now c.requires.1 c.fill.ensures

pub slice_bounds-latch_over-end : goal.slice_bounds-latch_over-end
slice_bounds-latch_over-end c = laid_lent c.args.book.now c.args.table c.args.dwords.now c.requires.1 c.fill.ensures

pub slice_bounds-latch_over-end-2 : goal.slice_bounds-latch_over-end-2
slice_bounds-latch_over-end-2 c = let zeros : List ℕ = replicate 256 0 in sym (length-take-le (length c.args.dwords.now) (replicate 256 0) c.requires.1)

pub latch_over-requires : goal.latch_over-requires
latch_over-requires c = spread c.args.book.now c.args.table c.args.dwords.now c.requires.1 c.fill.ensures c.requires.0 c.args.places.now c.requires.2

pub returns : goal.returns
returns c = c.latch_over.ensures
