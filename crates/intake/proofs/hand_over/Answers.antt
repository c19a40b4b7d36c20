-- `hand_over` meets its contract: what the packet call answers, and the slots by that. Assumes nothing.
use Rattle.std.proofs.Common.{rules}
use Rattle.intake.proofs.Handing.{handed_packet, handed_refused}
use Rattle.intake.proofs.hand_over.Goals as goal

pub returns : goal.returns
returns c = handed_packet c.args.kind c.args.book.now c.args.dwords.now c.args.slots.now c.args.places.now c.parse.ensures c.in_ok-p.was c.copy.ensures

pub returns-in_err-p : goal.returns-in_err-p
returns-in_err-p c =
    let h = handed_refused c.args.kind c.args.book.now c.args.dwords.now c.args.slots.now c.args.places.now c.parse.ensures c.in_err-p.was in
    search (rules, h)
