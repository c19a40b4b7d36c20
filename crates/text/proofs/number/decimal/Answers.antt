-- `number::decimal` meets its contract: a number is the reading from the start, its reasons left out. Assumes nothing.
use Rattle.text.proofs.Numbers.{number_read}
use mathlib.Core.Path.{sym, ◌∙◌}
use Rattle.text.proofs.number.decimal.Goals as goal

pub returns : goal.returns
returns c = c.read.ensures ∙ sym (number_read 10 _ _)
