-- `say_piece` meets its contract: what was put is said. Assumes nothing.
use Rattle.saying.proofs.Telling.{said_told, told_same, page_front}
use mathlib.Core.Path.{◌∙◌}
use Rattle.saying.proofs.say_piece.Goals as goal

pub returns : goal.returns
returns c =
    told_same (c.text.ensures ∙ page_front {p = c.new-page.result} {q = c.put_escaped.new.page} c.new-page.ensures.at c.put_escaped.ensures) (said_told c.say.ensures)
