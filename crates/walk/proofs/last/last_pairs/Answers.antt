-- `last::last_pairs` meets its contract: the walk keeps for each row what is to be kept of its last pair so far. Assumes nothing.
use Rattle.pairs.specs.Table.{keys}
use Rattle.text.proofs.Runs.{no_word_lem, word_there}
use Rattle.text.specs.Class.{in_class}
use Rattle.walk.proofs.Walks.{walked_none, walked_words, walked_steps, walked_ends}
use mathlib.Core.Path.{refl}
use native.Mathlib.Omega.{arith}
use Rattle.walk.proofs.last.last_pairs.Goals as goal

pub loop-last-init : goal.loop-last-init
unfolding keys
loop-last-init c = (omega arith, walked_none _ refl)

pub next_word-i-requires : goal.next_word-i-requires
next_word-i-requires c = (c.requires, c.loop-last.invariant.0)

pub returns-then-s-i : goal.returns-then-s-i
returns-then-s-i c = walked_ends _ (walked_words _ c.next_word-i.ensures.up (no_word_lem _ c.next_word-i.ensures) c.loop-last.invariant.1) c.if-s-i.true

pub take-at-requires : goal.take-at-requires
unfolding in_class
take-at-requires c = (c.requires, c.if-s-i.false, word_there _ c.next_word-i.ensures c.if-s-i.false, c.behind_last-tail.ensures.is)

pub loop-last-smaller : goal.loop-last-smaller
loop-last-smaller c = omega (arith, c.next_word-i.ensures.up, c.take-at.ensures.on, c.if-s-i.false)

pub loop-last-preserved : goal.loop-last-preserved
loop-last-preserved c = (
  c.take-at.ensures.within,
  walked_steps _ c.if-s-i.false c.take-at.ensures.on c.take-at.ensures.stepped
      (walked_words _ c.next_word-i.ensures.up (no_word_lem _ c.next_word-i.ensures) c.loop-last.invariant.1),
)
