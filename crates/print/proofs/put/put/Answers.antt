-- `put::put` meets its contract: the copy is what is put. Assumes nothing.
use Rattle.print.proofs.Copying.{no_room, placed_copy}
use borrow.Author.Rules.{rules}
use native.Mathlib.Omega.{arith}
use Rattle.print.proofs.put.put.Goals.{then-out-at-via-then-out-at, then-out-at-via-else-out-at+then-out-at-2}
use Rattle.print.proofs.put.put.Goals as goal

pub returns-then-out-at : goal.returns-then-out-at
returns-then-out-at c =
    elim c.then-out-at.branch [
      | then-out-at-via-then-out-at w ↦ no_room _ _ _ (omega arith)
      | then-out-at-via-else-out-at+then-out-at-2 w ↦ no_room _ _ _ (omega arith)
    ]

pub returns : goal.returns
returns c = placed_copy _ _ _ _ _ (omega arith) (search rules) (omega arith)
