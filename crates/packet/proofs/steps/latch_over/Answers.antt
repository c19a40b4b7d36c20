-- `packet::steps::latch_over` meets its contract: offset by offset, the places so far and the latch say the same as step 3 does. Assumes nothing.
use Rattle.packet.proofs.Filling.{length_filled}
use Rattle.packet.proofs.Latching.{through_start, through_next, through_end}
use Rattle.packet.specs.Steps.{entry_of}
use Rattle.packet.specs.declared.fill.Pick.TheVariants.{Typed}
use borrow.Author.Rules.{rules}
use lib.ListN.{length, replicate, length-replicate}
use mathlib.Core.List.{[]}
use mathlib.Core.Path.{sym, ap, ◌∙◌}
use Rattle.packet.proofs.steps.latch_over.Goals as goal

pub loop-i-init : goal.loop-i-init
loop-i-init c = (through_start c.args.book.now c.args.table c.args.dwords.now c.args.places.now c.args.plain.now c.requires, tt)

pub bounds-plain-i : goal.bounds-plain-i
bounds-plain-i c =
    let size = ap length c.requires.untyped ∙ length_filled (entry_of Typed [] c.args.book.now c.args.table) (replicate (length c.args.dwords.now) 0) ∙ length-replicate (length c.args.dwords.now) 0 in
    search rules

pub loop-i-preserved : goal.loop-i-preserved
loop-i-preserved c = (through_next c.args.book.now c.args.table c.args.dwords.now c.args.places.now c.args.plain.now c.requires.untyped c.loop-i.invariant.0 (search rules) _ _ _ c.or_else-found.ensures c.or_else-entry.ensures _ c.latch-latched.ensures.0, c.latch-latched.ensures.1)

pub shape_of-places : goal.shape_of-places
shape_of-places c = c.loop-i.invariant.0.size ∙ sym c.requires.places_fit

pub shape_of-typed : goal.shape_of-typed
shape_of-typed c = c.loop-i.invariant.0.room ∙ sym (ap length c.requires.none_typed ∙ length-replicate (length c.args.dwords.now) 0)

pub returns : goal.returns
returns c = through_end c.args.book.now c.args.table c.args.dwords.now c.args.places.now c.args.plain.now c.loop-i.invariant.0 (search rules)
