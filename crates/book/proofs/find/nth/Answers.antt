-- `book::find::nth` meets its contract: so many fewer from behind each field passed on. Assumes nothing.
use Prim.Native.Nat.{ℕ}
use Rattle.book.proofs.Counting.{nth_bare, nth_here, nth_behind}
use Rattle.book.proofs.Steps.{Bare, bare}
use Rattle.tlv.proofs.Fields.{field_found}
use Rattle.tlv.specs.Reading.{Part, Stands}
use mathlib.Core.List.{List}
use mathlib.Core.Path.{sym, subst, ◌∙◌, refl}
use native.Mathlib.Omega.{arith}
use Rattle.book.proofs.find.nth.Goals as goal

pub loop-to-init : goal.loop-to-init
loop-to-init c = (c.requires, refl)

pub returns : goal.returns
returns c = record {
  is = sym (c.loop-to.invariant.1 ∙ nth_bare c.args.s.now c.loop-to.left c.loop-to.at (subst Bare c.field_at.ensures (bare _ c.in_default.not-Field)));
  stands = tt;
}

pub returns-then-left-eq0 : goal.returns-then-left-eq0
returns-then-left-eq0 c =
    let s : List ℕ = c.args.s.now in
    let p : Part = record { at = c.loop-to.at; tag = c.in-Field.tag; from = c.in-Field.from; to = c.in-Field.to } in
    let e : Stands s p = sym c.field_at.ensures ∙ c.in-Field.is in
    let f = field_found s p.at e in
    record { is = sym (c.loop-to.invariant.1 ∙ nth_here s p e c.loop-to.left c.if-left-eq0.true); stands = (c.loop-to.invariant.0, omega arith) }

pub loop-to-smaller : goal.loop-to-smaller
loop-to-smaller c =
    let s : List ℕ = c.args.s.now in
    let p : Part = record { at = c.loop-to.at; tag = c.in-Field.tag; from = c.in-Field.from; to = c.in-Field.to } in
    let e : Stands s p = sym c.field_at.ensures ∙ c.in-Field.is in
    let f = field_found s p.at e in
    omega arith

pub loop-to-preserved : goal.loop-to-preserved
loop-to-preserved c =
    let s : List ℕ = c.args.s.now in
    let p : Part = record { at = c.loop-to.at; tag = c.in-Field.tag; from = c.in-Field.from; to = c.in-Field.to } in
    let e : Stands s p = sym c.field_at.ensures ∙ c.in-Field.is in
    let f = field_found s p.at e in
    (omega arith, c.loop-to.invariant.1 ∙ nth_behind s p e c.loop-to.left c.if-left-eq0.false)
