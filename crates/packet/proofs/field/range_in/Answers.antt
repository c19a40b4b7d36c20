-- `packet::field::range_in` meets its contract: no range in no entry. Assumes nothing.
use Rattle.book.specs.Finders.{range_of_name}
use Rattle.packet.proofs.Fields.{inside_none, inside_some}
use Rattle.packet.specs.Field.{range_in}
use mathlib.Core.Path.{sym, ◌∙◌}
use Rattle.packet.proofs.field.range_in.Goals as goal

pub returns-then-entry-eq0 : goal.returns-then-entry-eq0
unfolding range_in
returns-then-entry-eq0 c = record { is = sym (inside_none (λ e. range_of_name c.args.book.now e c.args.name.now) c.args.entry c.if-entry-eq0.true); stands = tt }

pub returns : goal.returns
unfolding range_in
returns c = record {
  is = c.range_of_name.ensures.is ∙ sym (inside_some (λ e. range_of_name c.args.book.now e c.args.name.now) c.args.entry c.if-entry-eq0.false);
  stands = c.range_of_name.ensures.stands;
}
