-- `book::grammar::fills` meets its contract: what was passed is good, so the answer is that for the rest. Assumes nothing.
use Prim.Native.Nat.{ℕ}
use Rattle.book.proofs.Rows.{fill_stop, fill_next, fill_stray, fill_overrun, fill_end}
use Rattle.tlv.proofs.Fields.{field_found}
use Rattle.tlv.proofs.Places.{stands_cut}
use Rattle.tlv.specs.Reading.{Part, Stands}
use mathlib.Core.List.{List}
use mathlib.Core.Logic.{⊎_elim}
use mathlib.Core.Path.{sym, ◌∙◌, refl}
use native.Mathlib.Omega.{arith}
use Rattle.book.proofs.grammar.fills.Goals as goal

pub loop-tag-init : goal.loop-tag-init
loop-tag-init g c = λ ok h. refl

pub slice_bounds-good-end : goal.slice_bounds-good-end
slice_bounds-good-end g c =
    let s : List ℕ = c.args.s.now in
    let p : Part = record { at = c.loop-tag.at; tag = c.in-Field.tag; from = c.in-Field.from; to = c.in-Field.to } in
    let e : Stands s p = sym c.field_at.ensures ∙ c.in-Field.is in
    stands_cut s p e

pub returns-then-not-good : goal.returns-then-not-good
returns-then-not-good g c =
    let s : List ℕ = c.args.s.now in
    let p : Part = record { at = c.loop-tag.at; tag = c.in-Field.tag; from = c.in-Field.from; to = c.in-Field.to } in
    let e : Stands s p = sym c.field_at.ensures ∙ c.in-Field.is in
    λ ok h. sym (c.loop-tag.invariant ok h ∙ fill_stop ok s p e (sym (h p _ _ e refl c.good.ensures) ∙ c.if-not-good.true))

pub loop-tag-smaller : goal.loop-tag-smaller
loop-tag-smaller g c =
    let s : List ℕ = c.args.s.now in
    let p : Part = record { at = c.loop-tag.at; tag = c.in-Field.tag; from = c.in-Field.from; to = c.in-Field.to } in
    let e : Stands s p = sym c.field_at.ensures ∙ c.in-Field.is in
    let f = field_found s p.at e in
    omega arith

pub loop-tag-preserved : goal.loop-tag-preserved
loop-tag-preserved g c =
    let s : List ℕ = c.args.s.now in
    let p : Part = record { at = c.loop-tag.at; tag = c.in-Field.tag; from = c.in-Field.from; to = c.in-Field.to } in
    let e : Stands s p = sym c.field_at.ensures ∙ c.in-Field.is in
    λ ok h. c.loop-tag.invariant ok h ∙ fill_next ok s p e (sym (h p _ _ e refl c.good.ensures) ∙ c.if-not-good.false)

pub returns-in-End : goal.returns-in-End
returns-in-End g c = λ ok h. sym (c.loop-tag.invariant ok h ∙ fill_end ok c.args.s.now c.loop-tag.at c.field_at.ensures c.in-End.is)

pub returns-in-Stray : goal.returns-in-Stray
returns-in-Stray g c = λ ok h.
    sym
    (c.loop-tag.invariant ok h
    ∙ ⊎_elim (fill_stray ok c.args.s.now c.loop-tag.at c.field_at.ensures) (fill_overrun ok c.args.s.now c.loop-tag.at c.field_at.ensures) c.in-Stray.is)
