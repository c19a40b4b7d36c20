-- `packet::seek::gather` meets its contract: the values so far, and those that are left. Assumes nothing.
use Rattle.packet.proofs.Gathering.{gather_start, gather_next, gather_pass, gather_more, gather_few, gather_four}
use Rattle.packet.specs.Field.{asks}
use Rattle.packet.specs.declared.field.Ask.TheVariants.{Named}
use mathlib.Core.Path.{sym, ap, ◌∙◌}
use native.Mathlib.Omega.{arith}
use Prim.Native.Nat.{◌<◌}
use lib.ListN.{length}
use Rattle.packet.proofs.seek.gather.Goals.{then-is_asked+else-n-gt3, else-is_asked}
use Rattle.packet.proofs.seek.gather.Goals as goal

pub loop-i-init : goal.loop-i-init
loop-i-init c = gather_start c.args.book.now c.args.name.now c.args.dwords.now c.args.places.now

pub returns-then-n-gt3 : goal.returns-then-n-gt3
returns-then-n-gt3 c =
    gather_more c.args.book.now c.args.name.now c.args.dwords.now c.args.places.now c.loop-i.invariant (omega (arith, c.loop-i-test.true, c.min-i-end.ensures)) (omega (arith, c.loop-i-test.true, c.min-i-end.ensures)) (ap (asks Named c.args.book.now c.args.name.now) (sym c.wide.ensures) ∙ sym c.is_asked.ensures ∙ c.if-is_asked.true) c.if-n-gt3.true

pub loop-i-preserved : goal.loop-i-preserved
loop-i-preserved c =
    let in_dwords : c.loop-i.i < length c.args.dwords.now = omega (arith, c.loop-i-test.true, c.min-i-end.ensures) in
    let in_places : c.loop-i.i < length c.args.places.now = omega (arith, c.loop-i-test.true, c.min-i-end.ensures) in
    let asked = ap (asks Named c.args.book.now c.args.name.now) (sym c.wide.ensures) ∙ sym c.is_asked.ensures in
    elim c.if-is_asked.branch [
      | then-is_asked+else-n-gt3 w ↦ rw (w.values-is, w.n-is)
          (gather_next c.args.book.now c.args.name.now c.args.dwords.now c.args.places.now c.loop-i.invariant in_dwords in_places (asked ∙ w.if-is_asked.true) (omega (arith, w.if-n-gt3.false)))
      | else-is_asked w ↦ rw (w.values-is, w.n-is)
          (gather_pass c.args.book.now c.args.name.now c.args.dwords.now c.args.places.now c.loop-i.invariant in_dwords in_places (asked ∙ w.if-is_asked.false))
    ]

pub returns-then-n-lt4 : goal.returns-then-n-lt4
returns-then-n-lt4 c = gather_few c.args.book.now c.args.name.now c.args.dwords.now c.args.places.now c.loop-i.invariant (omega (arith, c.loop-i-test.false, c.min-i-end.ensures)) c.if-n-lt4.true

pub returns : goal.returns
returns c = gather_four c.args.book.now c.args.name.now c.args.dwords.now c.args.places.now c.loop-i.invariant (omega (arith, c.loop-i-test.false, c.min-i-end.ensures)) c.if-n-lt4.false
