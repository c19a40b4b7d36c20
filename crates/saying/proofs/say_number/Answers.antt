-- `say_number` meets its contract: no number has more than 20 digits, and those that were put are said behind the word. Assumes nothing.
use Rattle.listing_rows.proofs.Putting.{decimal_length}
use Rattle.listing_rows.specs.Rows.{word_and_number}
use Rattle.saying.proofs.Telling.{said_told, told_then, told_same, put_front_on}
use mathlib.Core.Path.{◌∙◌}
use Rattle.saying.proofs.say_number.Goals as goal

pub returns : goal.returns
unfolding word_and_number
returns c =
    told_then (said_told c.say.ensures)
    (told_same (c.text.ensures ∙ put_front_on c.new-page.ensures.at (rw c.new-page.ensures.bytes (decimal_length c.args.n)) c.put_decimal.ensures) (said_told c.say-2.ensures))
