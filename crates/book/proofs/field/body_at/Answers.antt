-- `book::field::body_at` meets its contract, case by case of what stands at the place. Assumes nothing.
use Prim.Native.Nat.{ℕ, ◌-◌}
use Rattle.book.proofs.Steps.{Bare, bare, tag_told, tag_other, tag_bare}
use Rattle.book.specs.Search.{body_at}
use Rattle.text.proofs.OwnParts.{own_text, no_text}
use Rattle.tlv.proofs.Fields.{field_found}
use Rattle.tlv.proofs.Places.{between_is}
use Rattle.tlv.specs.Reading.{between}
use borrow.Author.Rules.{rules}
use lib.ListN.{take, drop}
use mathlib.Core.List.{[]}
use mathlib.Core.Path.{◌≡◌, refl, sym, ap, subst, ◌∙◌}
use native.Mathlib.Omega.{arith}
use Rattle.book.proofs.field.body_at.Goals.{
  in_default-via-in-Field+then-t-tag+else-from-to,
  in_default-via-in-Field+else-t-tag,
  in_default-via-in_default,
}
use Rattle.book.proofs.field.body_at.Goals as goal

pub returns-in_default : goal.returns-in_default
unfolding body_at
returns-in_default c =
    let s = c.args.s.now in
    let empty : body_at c.args.tag s c.args.at ≡ [] =
    elim c.in_default.branch [
      | in_default-via-in-Field+then-t-tag+else-from-to w ↦ (
          let from = w.in-Field.from in
          let to = w.in-Field.to in
          let none : to - from ≡ 0 = omega (arith, w.if-from-to.false) in
          tag_told c.args.tag (between s) [] (sym c.field_at.ensures ∙ w.in-Field.is) w.if-t-tag.true
          ∙ between_is s from to ∙ ap (λ (n : ℕ). take n (drop from s)) none
          )
      | in_default-via-in-Field+else-t-tag w ↦ (
          tag_other c.args.tag (between s) [] (sym c.field_at.ensures ∙ w.in-Field.is) w.if-t-tag.false
          )
      | in_default-via-in_default w ↦ tag_bare c.args.tag _ _ _ (subst Bare c.field_at.ensures (bare _ (λ t from to e. search rules)))
    ] in
    no_text _ refl refl refl (sym empty)

pub slice_bounds-result-end : goal.slice_bounds-result-end
slice_bounds-result-end c =
    let f = field_found c.args.s.now c.args.at (sym c.field_at.ensures ∙ c.in-Field.is) in
    search rules

pub returns-in-Field : goal.returns-in-Field
unfolding body_at
returns-in-Field c =
    let s = c.args.s.now in
    let from = c.in-Field.from in
    let to = c.in-Field.to in
    let stands = sym c.field_at.ensures ∙ c.in-Field.is in
    let f = field_found s c.args.at stands in
    let told = tag_told c.args.tag (between s) [] stands c.if-t-tag.true in
    own_text _ (to - from) (ap (λ (n : ℕ). take (to - from) (drop n s)) f.from_is) refl (omega (arith, f.from_is))
    (omega (arith, f.from_is, f.to_is, f.within)) (sym (told ∙ between_is s from to)) (omega (arith, f.to_is, c.if-from-to.true))
