-- `packet::parse_over` meets its contract: 20 for a book too long, a number, or the packet of the tables. Assumes nothing.
use Rattle.packet.proofs.Packets.{over_packet, over_number, over_20, length_over, opened_tables}
use Rattle.refusal.specs.Told.{told}
use Rattle.refusal.proofs.Told.{passed_on}
use lib.ListN.{length}
use lib.Seq.{length-take-le}
use mathlib.Core.Path.{sym, ap, ◌∙◌, refl}
use native.Mathlib.Omega.{arith}
use Rattle.packet.proofs.parse_over.Goals as goal

pub returns-then-book-gt65535 : goal.returns-then-book-gt65535
returns-then-book-gt65535 c = over_20 c.args.kind c.args.book.now c.args.dwords.now c.args.places.now c.if-book-gt65535.true

pub slice_bounds-make-end : goal.slice_bounds-make-end
slice_bounds-make-end c = (opened_tables c.args.kind c.args.book.now (length c.args.dwords.now) (length c.args.places.now) (sym c.open.ensures ∙ ap told c.in_ok-tables.was)).fit

pub slice_bounds-make-end-2 : goal.slice_bounds-make-end-2
slice_bounds-make-end-2 c = sym (length-take-le (length c.args.dwords.now) c.args.places.now (opened_tables c.args.kind c.args.book.now (length c.args.dwords.now) (length c.args.places.now) (sym c.open.ensures ∙ ap told c.in_ok-tables.was)).fit)

pub make-requires : goal.make-requires
make-requires c = let o = opened_tables c.args.kind c.args.book.now (length c.args.dwords.now) (length c.args.places.now) (sym c.open.ensures ∙ ap told c.in_ok-tables.was) in record { book_fits = omega (arith, c.if-book-gt65535.false); few = o.few; places_fit = length-take-le (length c.args.dwords.now) c.args.places.now o.fit; control_is = o.control }

pub shape_of-places : goal.shape_of-places
shape_of-places c = length_over c.args.kind c.args.book.now c.args.dwords.now c.args.places.now (omega (arith, c.if-book-gt65535.false)) (sym c.open.ensures ∙ ap told c.in_ok-tables.was) c.make.ensures

pub returns : goal.returns
returns c = over_packet c.args.kind c.args.book.now c.args.dwords.now c.args.places.now (omega (arith, c.if-book-gt65535.false)) (sym c.open.ensures ∙ ap told c.in_ok-tables.was) c.make.ensures refl

pub returns-in_err-tables : goal.returns-in_err-tables
returns-in_err-tables c =
    rw (passed_on c.from_residual.result c.from_residual.ensures.1)
    (over_number c.args.kind c.args.book.now c.args.dwords.now c.args.places.now (omega (arith, c.if-book-gt65535.false)) (sym c.open.ensures ∙ ap told c.in_err-tables.was))
