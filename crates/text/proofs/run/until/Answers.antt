-- `run::until` meets its contract: none of the bytes passed is the byte, so what a block finds is found first, also where the last block lies over
-- bytes that were passed. Assumes nothing.
use Rattle.text.proofs.Blocks.{free_on, free_block, first_up_to}
use Rattle.text.proofs.Runs.{until_block, until_end}
use mathlib.Core.Path.{sym, ◌∙◌}
use native.Mathlib.Omega.{arith}
use borrow.Author.Rules.{rules}
use Rattle.text.proofs.run.until.Goals as goal

pub returns-then-n-lt-BLOCK : goal.returns-then-n-lt-BLOCK
returns-then-n-lt-BLOCK c = c.end_of.ensures _ (λ b r h e. search rules)

pub loop-i-init : goal.loop-i-init
loop-i-init c = (omega arith, omega arith, λ k a l. absurd (omega arith))

pub overflow_add-result : goal.overflow_add-result
overflow_add-result c = omega (arith, first_up_to _ 16 _ c.first_of.ensures)

pub returns-then-holds : goal.returns-then-holds
returns-then-holds c =
    until_block _ _ 16 c.loop-i.invariant.0 (omega (arith, c.loop-i-test.true)) c.loop-i.invariant.2
    (sym c.holds.ensures ∙ c.if-holds.true) c.first_of.ensures

pub loop-i-preserved : goal.loop-i-preserved
loop-i-preserved c = (omega arith, omega arith, free_on _ c.loop-i.invariant.2 (free_block _ 16 _ (sym c.holds.ensures ∙ c.if-holds.false)))

pub overflow_add-result-2 : goal.overflow_add-result-2
overflow_add-result-2 c = omega (arith, first_up_to _ 16 _ c.first_of-2.ensures)

pub returns : goal.returns
returns c = until_end _ _ 16 (omega arith) c.loop-i-test.false (omega arith) c.loop-i.invariant.2 c.first_of-2.ensures
