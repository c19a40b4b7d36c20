-- `book::seek::type_at` meets its contract: past the end there is no type. Assumes nothing.
use Prim.Native.Nat.{ℕ, ◌+◌}
use Rattle.book.proofs.Searching.{type_past}
use Rattle.book.specs.Search.{body_at, type_at}
use Rattle.text.proofs.OwnParts.{no_text, text_is}
use mathlib.Core.Path.{refl, sym, ap}
use Rattle.book.proofs.seek.type_at.Goals as goal

pub returns-then-s-from : goal.returns-then-s-from
returns-then-s-from c = no_text _ refl refl refl (sym (type_past c.args.s.now c.args.from c.if-s-from.true))

pub returns : goal.returns
unfolding type_at
returns c =
    text_is _ (c.after.result + 3) (ap (λ (n : ℕ). body_at 5 c.args.s.now n) c.after.ensures)
    (ap (λ (n : ℕ). n + 3) c.after.ensures) c.body_at.ensures
