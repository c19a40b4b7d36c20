-- `batch::parse_one` meets its contract: what the packet call answers, as one number. Assumes nothing.
use Rattle.refusal.specs.Told.{told}
use Rattle.batch.specs.Batch.{code_of}
use Rattle.packet.proofs.Packets.{length_listed}
use Rattle.packet.specs.Packet.{places_of, list_by}
use Rattle.packet.specs.declared.Packet.{Packet}
use Rattle.text.specs.Told.{Told}
use Rattle.std.specs.Prelude.{ℕ, ◌+◌}
use lib.ListN.{length}
use mathlib.Core.Path.{sym, ap, ◌∙◌}
use Rattle.batch.proofs.parse_one.Goals as goal

pub shape_of-places-in-Ok : goal.shape_of-places-in-Ok
shape_of-places-in-Ok c = ap length (c.parse_checked.ensures.places ∙ ap (λ (r : Told Packet). list_by r (places_of c.args.kind c.args.book.now c.args.dwords.now) c.args.places.now) c.parse_checked.ensures.answer) ∙ length_listed c.args.kind c.args.book.now c.args.dwords.now c.args.places.now

pub returns-in-Ok : goal.returns-in-Ok
returns-in-Ok c = record { code = c.start_code.ensures ∙ ap code_of (ap told (sym c.in-Ok.is) ∙ c.parse_checked.ensures.answer); places = c.parse_checked.ensures.places ∙ ap (λ (r : Told Packet). list_by r (places_of c.args.kind c.args.book.now c.args.dwords.now) c.args.places.now) c.parse_checked.ensures.answer }

pub shape_of-places-in-Err : goal.shape_of-places-in-Err
shape_of-places-in-Err c = ap length (c.parse_checked.ensures.places ∙ ap (λ (r : Told Packet). list_by r (places_of c.args.kind c.args.book.now c.args.dwords.now) c.args.places.now) c.parse_checked.ensures.answer) ∙ length_listed c.args.kind c.args.book.now c.args.dwords.now c.args.places.now

pub returns-in-Err : goal.returns-in-Err
returns-in-Err c = record { code = ap (λ (n : ℕ). 65536 + n) c.number.ensures ∙ ap code_of (ap told (sym c.in-Err.is) ∙ c.parse_checked.ensures.answer); places = c.parse_checked.ensures.places ∙ ap (λ (r : Told Packet). list_by r (places_of c.args.kind c.args.book.now c.args.dwords.now) c.args.places.now) c.parse_checked.ensures.answer }
