-- `questions::described::first_range` meets its contract: a dword is found by a range that it has. Assumes nothing.
use Rattle.packet.specs.Field.{range_in}
use Rattle.packet.proofs.Fields.{nothing_told, found_told}
use Rattle.questions.proofs.Asking.{range_there}
use mathlib.Core.Path.{sym, ap, ◌∙◌}
use Rattle.questions.proofs.described.first_range.Goals as goal

pub returns-in_err-i : goal.returns-in_err-i
returns-in_err-i c = rw c.from_residual.ensures (sym c.first_asked.ensures ∙ c.in_err-i.was)

pub returns-in_err-range : goal.returns-in_err-range
returns-in_err-range c =
    let at = c.wide.ensures ∙ c.dword_at.ensures in
    absurd
    (range_there c.args.book.now c.args.places.now c.args.name.now (sym c.first_asked.ensures ∙ c.in_ok-i.was)
    (ap (range_in c.args.book.now c.args.name.now) (sym at) ∙ nothing_told c.range_in.ensures c.in_err-range.was))

pub returns : goal.returns
returns c = (
  c.in_ok-i.i,
  sym c.first_asked.ensures ∙ c.in_ok-i.was,
  (found_told c.range_in.ensures c.in_ok-range.was).0 ∙ ap (range_in c.args.book.now c.args.name.now) (c.wide.ensures ∙ c.dword_at.ensures),
  c.dword_at-2.ensures,
)
