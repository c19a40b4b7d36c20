-- `pair::try_at` meets its contract, one law a way out. Assumes nothing.
use Rattle.pairs.proofs.Tries.{try_empty, try-unequal, try-hits, try-misses}
use Rattle.text.specs.Class.{in_class}
use mathlib.Core.Path.{sym, ◌∙◌}
use Rattle.pairs.proofs.pair.try_at.Goals as goal

pub returns-then-m-i : goal.returns-then-m-i
returns-then-m-i c = sym (try_empty _ _ _ c.if-m-i.true)

pub returns-then-byte_at-ne61 : goal.returns-then-byte_at-ne61
returns-then-byte_at-ne61 c = sym (try-unequal _ _ _ c.if-m-i.false (λ e. c.if-byte_at-ne61.true (c.byte_at.ensures ∙ e)))

pub value_end-requires : goal.value_end-requires
unfolding in_class
value_end-requires c = (c.run_end.ensures.is, c.requires.1)

pub returns : goal.returns
returns c = sym (try-hits _ _ _ c.if-m-i.false (sym c.byte_at.ensures ∙ c.if-byte_at-ne61.false) (sym c.value_end.ensures ∙ c.in_ok-end.was))

pub returns-in_err-end : goal.returns-in_err-end
returns-in_err-end c = cc (try-misses _ _ _ c.if-m-i.false (sym c.byte_at.ensures ∙ c.if-byte_at-ne61.false) (sym c.value_end.ensures ∙ c.in_err-end.was))
