-- `book::grammar::entries` meets its contract: the entries passed are good, apart and marked, so the answer is that for the rest. Assumes nothing.
use Prim.Native.Nat.{ℕ, ◌<◌, ◌/◌}
use Rattle.book.proofs.Marks.{marks_length}
use Rattle.book.proofs.Rows.{fill_stop, fill_stray, fill_overrun, field_other, field_body}
use Rattle.book.proofs.Sift.{Sifted, sift_start, sift_fails, sift_end, sift-twice, sift-next}
use Rattle.book.specs.Reading.{field_ok, entry_body}
use Rattle.tlv.proofs.Fields.{field_found}
use Rattle.tlv.proofs.Places.{stands_cut}
use Rattle.tlv.specs.Reading.{Part, Stands}
use borrow.Author.Rules.{rules}
use borrow.Author.Tests.{not-true, not-false}
use lib.ListN.{length}
use lib.Seq.{length-take-le}
use mathlib.Core.List.{List}
use mathlib.Core.Path.{sym, ap, ◌∙◌, subst⁻¹}
use native.Mathlib.Omega.{arith}
use Rattle.book.proofs.grammar.entries.Goals as goal

pub loop-tag-init : goal.loop-tag-init
loop-tag-init c = (sift_start c.args.s.now c.args.start _, search rules)

pub returns-then-tag-ne3 : goal.returns-then-tag-ne3
returns-then-tag-ne3 c =
    let s : List ℕ = c.args.s.now in
    let p : Part = record { at = c.loop-tag.at; tag = c.in-Field.tag; from = c.in-Field.from; to = c.in-Field.to } in
    let e : Stands s p = sym c.field_at.ensures ∙ c.in-Field.is in
    sym (sift_fails s c.loop-tag.invariant.0 (fill_stop (field_ok 3 entry_body s) s p e (field_other 3 entry_body s p c.if-tag-ne3.true)))

pub slice_bounds-body-end : goal.slice_bounds-body-end
slice_bounds-body-end c =
    let s : List ℕ = c.args.s.now in
    let p : Part = record { at = c.loop-tag.at; tag = c.in-Field.tag; from = c.in-Field.from; to = c.in-Field.to } in
    let e : Stands s p = sym c.field_at.ensures ∙ c.in-Field.is in
    stands_cut s p e

pub returns-then-not-entry : goal.returns-then-not-entry
returns-then-not-entry c =
    let s : List ℕ = c.args.s.now in
    let p : Part = record { at = c.loop-tag.at; tag = c.in-Field.tag; from = c.in-Field.from; to = c.in-Field.to } in
    let e : Stands s p = sym c.field_at.ensures ∙ c.in-Field.is in
    sym (sift_fails s c.loop-tag.invariant.0 (fill_stop (field_ok 3 entry_body s) s p e (field_body 3 entry_body s p c.if-tag-ne3.false (sym c.entry.ensures ∙ not-true _ c.if-not-entry.true-raw))))

pub slice_bounds-repeats-end : goal.slice_bounds-repeats-end
slice_bounds-repeats-end c =
    let s : List ℕ = c.args.s.now in
    let p : Part = record { at = c.loop-tag.at; tag = c.in-Field.tag; from = c.in-Field.from; to = c.in-Field.to } in
    let e : Stands s p = sym c.field_at.ensures ∙ c.in-Field.is in
    let f = field_found s p.at e in
    sym (length-take-le p.at s (omega arith))

pub returns-then-repeats : goal.returns-then-repeats
returns-then-repeats c =
    let s : List ℕ = c.args.s.now in
    let p : Part = record { at = c.loop-tag.at; tag = c.in-Field.tag; from = c.in-Field.from; to = c.in-Field.to } in
    let e : Stands s p = sym c.field_at.ensures ∙ c.in-Field.is in
    sym (sift-twice s p e c.if-tag-ne3.false c.loop-tag.invariant.0 c.two_at-offset.ensures.is c.type_at.ensures.is c.is_marked-met.ensures c.repeats.ensures c.if-repeats.true)

pub loop-tag-smaller : goal.loop-tag-smaller
loop-tag-smaller c =
    let s : List ℕ = c.args.s.now in
    let p : Part = record { at = c.loop-tag.at; tag = c.in-Field.tag; from = c.in-Field.from; to = c.in-Field.to } in
    let e : Stands s p = sym c.field_at.ensures ∙ c.in-Field.is in
    let f = field_found s p.at e in
    omega arith

pub loop-tag-preserved : goal.loop-tag-preserved
loop-tag-preserved c =
    let s : List ℕ = c.args.s.now in
    let p : Part = record { at = c.loop-tag.at; tag = c.in-Field.tag; from = c.in-Field.from; to = c.in-Field.to } in
    let e : Stands s p = sym c.field_at.ensures ∙ c.in-Field.is in
    let fits : c.two_at-offset.result / 64 < length c.loop-tag.seen = omega (arith, c.two_at-offset.ensures.fits, c.loop-tag.invariant.1) in
    let next = sift-next s p e c.if-tag-ne3.false c.loop-tag.invariant.0 c.two_at-offset.ensures.is c.type_at.ensures.is c.is_marked-met.ensures c.repeats.ensures
    c.if-repeats.false (field_body 3 entry_body s p c.if-tag-ne3.false (sym c.entry.ensures ∙ not-false _ c.if-not-entry.false-raw)) fits in
    (subst⁻¹ (Sifted s c.args.start p.to) c.mark.ensures next, ap length c.mark.ensures ∙ marks_length c.loop-tag.seen c.two_at-offset.result ∙ c.loop-tag.invariant.1)

pub returns-in-Stray : goal.returns-in-Stray
returns-in-Stray c =
    sym (sift_fails c.args.s.now c.loop-tag.invariant.0 (fill_stray (field_ok 3 entry_body c.args.s.now) c.args.s.now c.loop-tag.at c.field_at.ensures c.in-Stray.is))

pub returns-in-Overrun : goal.returns-in-Overrun
returns-in-Overrun c =
    sym (sift_fails c.args.s.now c.loop-tag.invariant.0 (fill_overrun (field_ok 3 entry_body c.args.s.now) c.args.s.now c.loop-tag.at c.field_at.ensures c.in-Overrun.is))

pub returns-in-End : goal.returns-in-End
returns-in-End c = sym (sift_end c.args.s.now c.loop-tag.invariant.0 (sym c.field_at.ensures ∙ c.in-End.is))
