-- `pair::value_end` meets its contract: a word run, else brackets, which no `]` closes from the tail on. Assumes nothing.
use Rattle.pairs.proofs.Tries.{value_word, value_bracket, bracket_behind}
use Rattle.text.specs.Class.{in_class}
use mathlib.Core.Path.{sym, ◌∙◌}
use Rattle.pairs.proofs.pair.value_end.Goals as goal

pub returns-then-v-e : goal.returns-then-v-e
returns-then-v-e c = sym (value_word _ _ c.requires.0 c.if-v-e.true)

pub returns-then-tail-v : goal.returns-then-tail-v
unfolding in_class
returns-then-tail-v c = sym (value_bracket _ _ c.requires.0 c.if-v-e.false ∙ bracket_behind _ _ c.requires.1 c.if-tail-v.true)

pub returns : goal.returns
returns c = c.bracket_end.ensures ∙ sym (value_bracket _ _ c.requires.0 c.if-v-e.false)
