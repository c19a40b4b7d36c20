-- `packet::fill::fill` meets its contract: no table, or what is inside it. Assumes nothing.
use Rattle.book.proofs.Answers.{inner_up}
use Rattle.book.proofs.Steps.{Bare, bare}
use Rattle.packet.proofs.Filling.{fill_no_table, fill_table}
use Rattle.tlv.proofs.Fields.{field_found}
use Rattle.tlv.proofs.Places.{stands_cut}
use Rattle.tlv.specs.Reading.{Part, Stands}
use lib.ListN.{take, length-take}
use mathlib.Core.Path.{sym, subst, ◌∙◌}
use native.Mathlib.Omega.{arith}
use Rattle.packet.proofs.fill.fill.Goals as goal

pub returns-in_default : goal.returns-in_default
returns-in_default c = sym (fill_no_table c.args.name.now c.args.book.now c.args.table c.args.pick (subst Bare c.field_at.ensures (bare _ c.in_default.not-Field)) c.args.places.now)

pub slice_bounds-body-end : goal.slice_bounds-body-end
slice_bounds-body-end c =
    let p : Part = record { at = c.args.table; tag = c.in-Field.tag; from = c.in-Field.from; to = c.in-Field.to } in
    let e : Stands c.args.book.now p = sym c.field_at.ensures ∙ c.in-Field.is in
    stands_cut c.args.book.now p e

pub inner-requires : goal.inner-requires
inner-requires c =
    let f = field_found c.args.book.now c.args.table (sym c.field_at.ensures ∙ c.in-Field.is) in
    rw (length-take c.in-Field.to c.args.book.now) (omega arith)

pub fill_from-requires : goal.fill_from-requires
fill_from-requires c =
    let f = field_found c.args.book.now c.args.table (sym c.field_at.ensures ∙ c.in-Field.is) in
    let cut = length-take c.in-Field.to c.args.book.now in
    let up = inner_up c.in-Field.tag (take c.in-Field.to c.args.book.now) c.in-Field.from (omega arith) in
    (omega (arith, c.requires, cut), omega (arith, up, c.inner.ensures))

pub returns : goal.returns
returns c = c.fill_from.ensures ∙ fill_table c.args.pick c.args.name.now c.args.book.now c.args.table (sym c.field_at.ensures ∙ c.in-Field.is) c.inner.result c.inner.ensures c.args.places.now
