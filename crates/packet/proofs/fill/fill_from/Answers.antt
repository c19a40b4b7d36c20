-- `packet::fill::fill_from` meets its contract: at every field, what the walk would still give each dword stays the same. Assumes nothing.
use Rattle.book.proofs.Steps.{Bare, bare}
use Rattle.packet.proofs.Filling.{fill_field, fill_end, length_with}
use Rattle.packet.specs.Inner.{entry_from}
use Rattle.packet.specs.Steps.{filled}
use Rattle.tlv.proofs.Fields.{field_found}
use Rattle.tlv.proofs.Places.{stands_cut}
use Rattle.tlv.specs.Reading.{Part, Stands}
use lib.ListN.{length}
use mathlib.Core.Path.{sym, ap, ◌∙◌, refl, subst}
use native.Mathlib.Omega.{arith}
use Rattle.packet.proofs.fill.fill_from.Goals as goal

pub loop-tag-init : goal.loop-tag-init
loop-tag-init c = (c.requires.1, refl, refl)

pub shape_of-places : goal.shape_of-places
shape_of-places c = c.loop-tag.invariant.1

pub returns : goal.returns
returns c = sym (c.loop-tag.invariant.2 ∙ fill_end c.args.pick c.args.name.now c.args.s.now c.loop-tag.at (subst Bare c.field_at.ensures (bare _ c.in_default.not-Field)) c.loop-tag.places)

pub slice_bounds-put_entry-end : goal.slice_bounds-put_entry-end
slice_bounds-put_entry-end c =
    let p : Part = record { at = c.loop-tag.at; tag = c.in-Field.tag; from = c.in-Field.from; to = c.in-Field.to } in
    let e : Stands c.args.s.now p = sym c.field_at.ensures ∙ c.in-Field.is in
    stands_cut c.args.s.now p e

pub put_entry-requires : goal.put_entry-requires
put_entry-requires c =
    let p : Part = record { at = c.loop-tag.at; tag = c.in-Field.tag; from = c.in-Field.from; to = c.in-Field.to } in
    let e : Stands c.args.s.now p = sym c.field_at.ensures ∙ c.in-Field.is in
    let f = field_found c.args.s.now p.at e in
    omega (arith, c.requires.0)

pub loop-tag-smaller : goal.loop-tag-smaller
loop-tag-smaller c =
    let p : Part = record { at = c.loop-tag.at; tag = c.in-Field.tag; from = c.in-Field.from; to = c.in-Field.to } in
    let e : Stands c.args.s.now p = sym c.field_at.ensures ∙ c.in-Field.is in
    let f = field_found c.args.s.now p.at e in
    omega arith

pub loop-tag-preserved : goal.loop-tag-preserved
loop-tag-preserved c =
    let p : Part = record { at = c.loop-tag.at; tag = c.in-Field.tag; from = c.in-Field.from; to = c.in-Field.to } in
    let e : Stands c.args.s.now p = sym c.field_at.ensures ∙ c.in-Field.is in
    let f = field_found c.args.s.now p.at e in (
      omega arith,
      ap length c.put_entry.ensures ∙ length_with c.args.pick c.args.name.now _ p.tag p.at p.from c.loop-tag.places ∙ c.loop-tag.invariant.1,
      c.loop-tag.invariant.2 ∙ fill_field c.args.pick c.args.name.now c.args.s.now p e c.loop-tag.invariant.0 c.loop-tag.places ∙ ap (filled (entry_from c.args.pick c.args.name.now c.args.s.now p.to)) (sym c.put_entry.ensures),
    )
