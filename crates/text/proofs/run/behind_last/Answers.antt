-- `run::behind_last` meets its contract: none of the bytes passed is the byte, so what a block finds is found last, also where the first block lies
-- over bytes that were passed. Assumes nothing.
use Rattle.text.proofs.Blocks.{behind_up_to}
use Rattle.text.proofs.Runs.{behind_byte, behind_block, behind_front, behind_down}
use mathlib.Core.Path.{sym, ◌∙◌}
use native.Mathlib.Omega.{arith}
use borrow.Author.Rules.{rules}
use Rattle.text.proofs.run.behind_last.Goals as goal

pub returns-then-i-lt-BLOCK : goal.returns-then-i-lt-BLOCK
returns-then-i-lt-BLOCK c = c.start_of.ensures _ (λ b r h e. search rules)

pub loop-i-init : goal.loop-i-init
loop-i-init c = (omega arith, omega arith, behind_byte _ _)

pub overflow_add-result : goal.overflow_add-result
overflow_add-result c = omega (arith, behind_up_to _ 16 c.last_of.ensures)

pub returns-then-holds : goal.returns-then-holds
returns-then-holds c =
    behind_block _ _ 16 _ c.loop-i.invariant.0 c.loop-i.invariant.2
    (sym c.holds.ensures ∙ c.if-holds.true) c.last_of.ensures

pub loop-i-preserved : goal.loop-i-preserved
loop-i-preserved c = (
  omega arith,
  omega arith,
  behind_down _ _ 16 c.loop-i.invariant.0 (omega arith) (omega arith) c.loop-i.invariant.2
      (sym c.holds.ensures ∙ c.if-holds.false),
)

pub returns : goal.returns
returns c = behind_front _ _ 16 _ (omega arith) c.loop-i.invariant.2 c.last_of-2.ensures
