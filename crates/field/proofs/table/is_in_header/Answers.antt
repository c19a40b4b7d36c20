-- `field::table::is_in_header` meets its contract, by the table that is found. Assumes nothing.
use Rattle.std.specs.Prelude.{Option, ℕ}
use Rattle.field.specs.Source.{stands_in}
use mathlib.Core.Path.{ap, ◌∙◌}
use Rattle.field.proofs.table.is_in_header.Goals as goal

pub returns : goal.returns
returns c = c.is_in.ensures ∙ ap (λ (t : Option ℕ). stands_in c.args.book.now t c.args.entry) c.uuid_table.ensures
