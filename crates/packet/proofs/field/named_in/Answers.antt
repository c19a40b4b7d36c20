-- `packet::field::named_in` meets its contract: no value in no range. Assumes nothing.
use Rattle.book.specs.Finders.{value_of_number}
use Rattle.packet.proofs.Fields.{inside_none, inside_some}
use Rattle.packet.specs.Field.{value_in, named_in}
use mathlib.Core.Path.{sym, ◌∙◌, ap}
use Rattle.packet.proofs.field.named_in.Goals as goal

pub returns-then-range-eq0 : goal.returns-then-range-eq0
unfolding named_in
returns-then-range-eq0 c = record {
  is = sym (inside_none (λ r. value_of_number c.args.book.now r (value_in c.args.book.now r c.args.dword)) c.args.range c.if-range-eq0.true);
  stands = tt;
}

pub returns : goal.returns
unfolding named_in
returns c = record {
  is =
      c.value_of_number.ensures.is ∙ ap (value_of_number c.args.book.now c.args.range) c.value_in.ensures
      ∙ sym (inside_some (λ r. value_of_number c.args.book.now r (value_in c.args.book.now r c.args.dword)) c.args.range c.if-range-eq0.false);
  stands = c.value_of_number.ensures.stands;
}
