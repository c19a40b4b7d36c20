-- `field::value_at` meets its contract: no value in no range. Assumes nothing.
use Rattle.book.specs.Finders.{value_of_number}
use Rattle.field.specs.Ranges.{value_place}
use Rattle.packet.proofs.Fields.{inside_none, inside_some, or_none}
use mathlib.Core.Path.{sym, ◌∙◌}
use Rattle.field.proofs.value_at.Goals as goal

pub returns-then-range-eq0 : goal.returns-then-range-eq0
unfolding value_place
returns-then-range-eq0 c = sym (inside_none (λ r. value_of_number c.args.book.now r c.args.number) c.args.range c.if-range-eq0.true)

pub returns : goal.returns
unfolding value_place
returns c =
    c.unwrap_or.ensures ∙ or_none c.value_of_number.result
    ∙ c.value_of_number.ensures.is ∙ sym (inside_some (λ r. value_of_number c.args.book.now r c.args.number) c.args.range c.if-range-eq0.false)
