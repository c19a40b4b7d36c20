-- `hex::put_hex` meets its contract: what is put and what is left is a `Hexed`. Assumes nothing.
use Rattle.print.proofs.Hexing.{hex_no_room, hexed_starts, hexed_steps, hexed_ends}
use native.Mathlib.Omega.{arith}
use Rattle.print.proofs.hex.put_hex.Goals.{then-out-at-via-then-out-at, then-out-at-via-else-out-at+then-out-at-2}
use Rattle.print.proofs.hex.put_hex.Goals as goal

pub returns-then-out-at : goal.returns-then-out-at
returns-then-out-at c =
    elim c.then-out-at.branch [
      | then-out-at-via-then-out-at w ↦ hex_no_room _ _ _ (omega arith)
      | then-out-at-via-else-out-at+then-out-at-2 w ↦ hex_no_room _ _ _ (omega arith)
    ]

pub loop-b-init : goal.loop-b-init
loop-b-init c = hexed_starts _ _ _ (omega arith)

pub loop-b-preserved : goal.loop-b-preserved
loop-b-preserved c = hexed_steps _ _ _ (omega arith) c.loop-b.invariant (omega arith) c.put_byte-behind.ensures

pub returns : goal.returns
returns c = hexed_ends _ _ _ (omega arith) c.loop-b.invariant (omega arith)
