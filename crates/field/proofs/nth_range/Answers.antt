-- `field::nth_range` meets its contract: no range in no entry. Assumes nothing.
use Prim.Native.Nat.{ℕ}
use Rattle.book.specs.Finders as finders
use Rattle.field.proofs.Sources.{no_range}
use Rattle.field.specs.Ranges.{range_at, nth_range}
use Rattle.packet.proofs.Fields.{inside_none, inside_some, nothing_told, found_told}
use Rattle.packet.specs.Field.{inside}
use mathlib.Core.Path.{◌≡◌, sym, ap, ◌∙◌}
use Rattle.field.proofs.nth_range.Goals as goal

pub returns-then-entry-eq0 : goal.returns-then-entry-eq0
unfolding nth_range
returns-then-entry-eq0 c = no_range c.args.book.now c.args.field.value _ (inside_none (λ e. finders.nth_range c.args.book.now e c.args.k) _ (sym c.entry_of-entry.ensures ∙ c.if-entry-eq0.true))

pub returns-in_err-place : goal.returns-in_err-place
unfolding nth_range
returns-in_err-place c =
    let find = λ (e : ℕ). finders.nth_range c.args.book.now e c.args.k in
    rw c.from_residual.ensures
    (no_range c.args.book.now c.args.field.value _
    (ap (inside find) (sym c.entry_of-entry.ensures) ∙ inside_some find _ c.if-entry-eq0.false ∙ nothing_told c.nth_range.ensures c.in_err-place.was))

pub range_at-requires : goal.range_at-requires
range_at-requires c = (found_told c.nth_range.ensures c.in_ok-place.was).1

pub returns : goal.returns
unfolding nth_range
returns c =
    let find = λ (e : ℕ). finders.nth_range c.args.book.now e c.args.k in
    c.range_at.ensures
    ∙ ap (λ (p : ℕ). range_at c.args.book.now p c.args.field.value)
    ((found_told c.nth_range.ensures c.in_ok-place.was).0 ∙ sym (inside_some find _ c.if-entry-eq0.false) ∙ ap (inside find) c.entry_of-entry.ensures)
