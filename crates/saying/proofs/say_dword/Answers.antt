-- `say_dword` meets its contract: the eight digits that were put are said. Assumes nothing.
use borrow.Author.Rules.{rules}
use Rattle.saying.proofs.Telling.{said_told, told_same, put_front_on}
use mathlib.Core.Path.{◌∙◌}
use Rattle.saying.proofs.say_dword.Goals as goal

pub returns : goal.returns
returns c =
    told_same (c.text.ensures ∙ put_front_on c.new-page.ensures.at (rw c.new-page.ensures.bytes (search rules)) c.put_dword.ensures) (said_told c.say.ensures)
