-- `last::next_word` meets its contract: behind a comma and a space stands the next word, or it is sought. Assumes nothing.
use Rattle.walk.proofs.Separators.{behind_comma_space}
use mathlib.Core.Path.{sym, ◌∙◌}
use Rattle.walk.proofs.last.next_word.Goals as goal

pub returns-then-is_word_at : goal.returns-then-is_word_at
returns-then-is_word_at c = behind_comma_space _ _ (rw c.if-two-eq-COMMA_SPACE.true at c.two.ensures.0) c.if-from-s.true (sym c.is_word_at.ensures ∙ c.if-is_word_at.true)
