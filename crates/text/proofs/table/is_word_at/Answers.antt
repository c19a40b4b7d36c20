-- `table::is_word_at` meets its contract: none stands behind the text. Assumes nothing.
use Rattle.text.proofs.Entries.{no_word_behind}
use mathlib.Core.Path.{sym, ◌∙◌}
use borrow.Author.Tests.{le-ltb}
use Rattle.text.proofs.table.is_word_at.Goals as goal

pub returns-else-i-s : goal.returns-else-i-s
returns-else-i-s c = le-ltb _ _ c.if-i-s.false ∙ sym (no_word_behind c.args.s.now _ c.if-i-s.false)
