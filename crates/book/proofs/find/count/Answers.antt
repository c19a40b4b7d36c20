-- `book::find::count` meets its contract: those counted and those left are all. Assumes nothing.
use Prim.Native.Nat.{ℕ}
use Rattle.book.proofs.Counting.{count_bare, count_field}
use Rattle.book.proofs.Steps.{Bare, bare}
use Rattle.tlv.proofs.Fields.{field_found}
use Rattle.tlv.specs.Reading.{Part, Stands}
use borrow.Author.Rules.{rules}
use mathlib.Core.List.{List}
use mathlib.Core.Path.{sym, subst, ◌∙◌}
use native.Mathlib.Omega.{arith}
use Rattle.book.proofs.find.count.Goals as goal

pub loop-to-init : goal.loop-to-init
loop-to-init c = (search rules, search rules)

pub returns : goal.returns
returns c =
    omega (arith, c.loop-to.invariant.1, count_bare c.args.s.now c.loop-to.at (subst Bare c.field_at.ensures (bare _ c.in_default.not-Field)))

pub overflow_add-n : goal.overflow_add-n
overflow_add-n c =
    let f = field_found c.args.s.now c.loop-to.at (sym c.field_at.ensures ∙ c.in-Field.is) in
    search rules

pub loop-to-smaller : goal.loop-to-smaller
loop-to-smaller c =
    let f = field_found c.args.s.now c.loop-to.at (sym c.field_at.ensures ∙ c.in-Field.is) in
    omega arith

pub loop-to-preserved : goal.loop-to-preserved
loop-to-preserved c =
    let s : List ℕ = c.args.s.now in
    let p : Part = record { at = c.loop-to.at; tag = c.in-Field.tag; from = c.in-Field.from; to = c.in-Field.to } in
    let e : Stands s p = sym c.field_at.ensures ∙ c.in-Field.is in
    let f = field_found s p.at e in
    (omega (arith, c.loop-to.invariant.0), omega (arith, c.loop-to.invariant.1, count_field s p e))
