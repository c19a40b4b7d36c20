-- `table::is_word` meets its contract: an entry up to 128 is a word byte's. Assumes nothing.
use Rattle.text.proofs.Entries.{entry_word}
use native.Mathlib.Omega.{arith}
use Rattle.text.proofs.table.is_word.Goals as goal

pub returns : goal.returns
returns c = entry_word c.requires (omega arith)
