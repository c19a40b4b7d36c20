-- `field::count_ranges` meets its contract: no range in no entry. Assumes nothing.
use Rattle.book.specs.Finders.{count_inside}
use Rattle.field.specs.Ranges.{range_count}
use Rattle.packet.proofs.Fields.{inside_none, inside_some}
use Rattle.packet.specs.Field.{inside}
use mathlib.Core.Path.{sym, ap, ◌∙◌}
use Rattle.field.proofs.count_ranges.Goals as goal

pub returns-then-entry-eq0 : goal.returns-then-entry-eq0
unfolding range_count
returns-then-entry-eq0 c = sym (inside_none (count_inside c.args.book.now) _ (sym c.entry_of-entry.ensures ∙ c.if-entry-eq0.true))

pub returns : goal.returns
unfolding range_count
returns c = c.count_entries.ensures ∙ sym (inside_some (count_inside c.args.book.now) _ c.if-entry-eq0.false) ∙ ap (inside (count_inside c.args.book.now)) c.entry_of-entry.ensures
