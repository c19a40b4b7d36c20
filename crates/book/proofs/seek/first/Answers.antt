-- `book::seek::first` meets its contract: what was passed was not wanted, so the answer is that for the rest. Assumes nothing.
use Rattle.book.proofs.Searching.{first_none, first_hit, first_miss}
use Rattle.book.proofs.Steps.{Bare, bare}
use Rattle.book.specs.Search.{wanted, first_wanted}
use Rattle.tlv.proofs.Fields.{field_found}
use Rattle.tlv.proofs.Places.{stands_cut}
use Rattle.tlv.specs.Reading.{Part, Stands}
use mathlib.Core.Path.{sym, subst, ◌∙◌, refl}
use native.Mathlib.Omega.{arith}
use Rattle.book.proofs.seek.first.Goals as goal

pub loop-tag-init : goal.loop-tag-init
loop-tag-init c = refl

pub returns-in_default : goal.returns-in_default
unfolding first_wanted
returns-in_default c = sym (c.loop-tag.invariant ∙ first_none _ c.args.s.now c.loop-tag.at (subst Bare c.field_at-step.ensures (bare _ c.in_default.not-Field)))

pub slice_bounds-is_wanted-end : goal.slice_bounds-is_wanted-end
slice_bounds-is_wanted-end c =
    let p : Part = record { at = c.loop-tag.at; tag = c.in-Field.tag; from = c.in-Field.from; to = c.in-Field.to } in
    let e : Stands c.args.s.now p = sym c.field_at-step.ensures ∙ c.in-Field.is in
    stands_cut c.args.s.now p e

pub returns-then-is_wanted : goal.returns-then-is_wanted
unfolding first_wanted wanted
returns-then-is_wanted c =
    let p : Part = record { at = c.loop-tag.at; tag = c.in-Field.tag; from = c.in-Field.from; to = c.in-Field.to } in
    let e : Stands c.args.s.now p = sym c.field_at-step.ensures ∙ c.in-Field.is in
    sym (c.loop-tag.invariant ∙ first_hit (wanted c.args.want c.args.key.now c.args.s.now) c.args.s.now p e (sym c.is_wanted.ensures ∙ c.if-is_wanted.true))

pub loop-tag-smaller : goal.loop-tag-smaller
loop-tag-smaller c =
    let p : Part = record { at = c.loop-tag.at; tag = c.in-Field.tag; from = c.in-Field.from; to = c.in-Field.to } in
    let e : Stands c.args.s.now p = sym c.field_at-step.ensures ∙ c.in-Field.is in
    let f = field_found c.args.s.now p.at e in
    omega arith

pub loop-tag-preserved : goal.loop-tag-preserved
unfolding first_wanted wanted
loop-tag-preserved c =
    let p : Part = record { at = c.loop-tag.at; tag = c.in-Field.tag; from = c.in-Field.from; to = c.in-Field.to } in
    let e : Stands c.args.s.now p = sym c.field_at-step.ensures ∙ c.in-Field.is in
    c.loop-tag.invariant ∙ first_miss (wanted c.args.want c.args.key.now c.args.s.now) c.args.s.now p e (sym c.is_wanted.ensures ∙ c.if-is_wanted.false)
