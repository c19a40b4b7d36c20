-- `field::range_named` meets its contract, by the place of the range. Assumes nothing.
use Prim.Native.Nat.{ℕ}
use Rattle.field.proofs.Sources.{no_range}
use Rattle.field.specs.Ranges.{range_at, range_named}
use Rattle.packet.proofs.Fields.{nothing_told, found_told}
use Rattle.packet.specs.Field.{range_in}
use mathlib.Core.Path.{ap, sym, ◌∙◌}
use Rattle.field.proofs.range_named.Goals as goal

pub returns-in_err-place : goal.returns-in_err-place
unfolding range_named
returns-in_err-place c =
    rw c.from_residual.ensures
    (no_range c.args.book.now c.args.field.value _ (ap (range_in c.args.book.now c.args.name.now) (sym c.entry_of.ensures) ∙ nothing_told c.range_in.ensures c.in_err-place.was))

pub range_at-requires : goal.range_at-requires
range_at-requires c = (found_told c.range_in.ensures c.in_ok-place.was).1

pub returns : goal.returns
unfolding range_named
returns c =
    c.range_at.ensures
    ∙ ap (λ (p : ℕ). range_at c.args.book.now p c.args.field.value)
    ((found_told c.range_in.ensures c.in_ok-place.was).0 ∙ ap (range_in c.args.book.now c.args.name.now) c.entry_of.ensures)
