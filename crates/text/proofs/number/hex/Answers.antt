-- `number::hex` meets its contract: the number from where the digits start, or the reason there. Assumes nothing.
use Rattle.text.proofs.Numbers.{value_read, reason_read}
use Rattle.text.specs.Number.{hex_of}
use mathlib.Core.Path.{sym, ◌∙◌}
use Rattle.text.proofs.number.hex.Goals as goal

pub returns-in-Some : goal.returns-in-Some
unfolding hex_of
returns-in-Some c = rw (← c.digits_from-from.ensures) (sym (value_read _ (sym c.read.ensures ∙ c.in-Some.is)))

pub returns-in-None : goal.returns-in-None
unfolding hex_of
returns-in-None c = c.reason.ensures ∙ rw (← c.digits_from-from.ensures) (reason_read _ _ _ _ (sym c.read.ensures ∙ c.in-None.is))
