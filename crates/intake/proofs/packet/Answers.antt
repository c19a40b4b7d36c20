-- `packet` meets its contract: the text's dwords wait in the array, and its packet decides whether they are handed over. Assumes nothing.
use Rattle.std.proofs.Common.{rules}
use Prim.Native.Nat.{min}
use Rattle.intake.proofs.Handing.{taken_packet, taken_refused}
use Rattle.intake.proofs.Slots.{lent_elements, waits, waits_not}
use lib.ListN.{length}
use mathlib.Core.Path.{◌≡◌, ◌∙◌}
use native.Mathlib.Omega.{arith}
use Rattle.intake.proofs.packet.Goals as goal

pub slice_bounds-dwords-end-2 : goal.slice_bounds-dwords-end-2
slice_bounds-dwords-end-2 c =
    let room : c.min-room.result ≡ min 256 (length c.args.slots.now) = omega (arith, c.min-room.ensures) in
    (waits _ c.args.text.now c.args.slots.now _ (λ i. (c.type_inv.text i).fits) (lent_elements _ room ∙ room) c.read.ensures _ c.read.auto.slots c.in_ok-e.was).within

pub slice_bounds-hand_over-end : goal.slice_bounds-hand_over-end
slice_bounds-hand_over-end c =
    let room : c.min-room.result ≡ min 256 (length c.args.slots.now) = omega (arith, c.min-room.ensures) in
    (waits _ c.args.text.now c.args.slots.now _ (λ i. (c.type_inv.text i).fits) (lent_elements _ room ∙ room) c.read.ensures _ c.read.auto.slots c.in_ok-e.was).count

pub hand_over-requires : goal.hand_over-requires
hand_over-requires c =
    let room : c.min-room.result ≡ min 256 (length c.args.slots.now) = omega (arith, c.min-room.ensures) in
    (waits _ c.args.text.now c.args.slots.now _ (λ i. (c.type_inv.text i).fits) (lent_elements _ room ∙ room) c.read.ensures _ c.read.auto.slots c.in_ok-e.was).fits

pub returns : goal.returns
returns c =
    let room : c.min-room.result ≡ min 256 (length c.args.slots.now) = omega (arith, c.min-room.ensures) in
    let w = waits _ c.args.text.now c.args.slots.now _ (λ i. (c.type_inv.text i).fits) (lent_elements _ room ∙ room) c.read.ensures _ c.read.auto.slots c.in_ok-e.was in
    taken_packet _ c.args.text.now c.args.book.now c.args.slots.now c.args.places.now w.answer w.front c.hand_over.ensures

pub returns-in_err-e : goal.returns-in_err-e
returns-in_err-e c =
    let room : c.min-room.result ≡ min 256 (length c.args.slots.now) = omega (arith, c.min-room.ensures) in
    let h =
    taken_refused _ c.args.text.now c.args.book.now c.args.slots.now c.args.places.now
    (waits_not _ c.args.text.now c.args.slots.now _ (λ i. (c.type_inv.text i).fits) (lent_elements _ room ∙ room) c.read.ensures c.in_err-e.was) in
    search (rules, h)
