-- `part` meets its contract: the two tests say whether the part lies within. Assumes nothing.
use Prim.Native.Nat.{◌+◌, ◌-◌}
use Rattle.entry.proofs.Parts.{own_in, own_out}
use mathlib.Core.Path.{refl}
use native.Mathlib.Omega.{arith}
use Rattle.entry.proofs.part.Goals as goal
use Rattle.entry.proofs.part.Goals.{then-text-at-via-then-text-at, then-text-at-via-else-text-at+then-text-at-2}

pub returns-then-text-at : goal.returns-then-text-at
returns-then-text-at c = elim c.then-text-at.branch [
  | then-text-at-via-then-text-at w ↦ own_out _ _ (omega (arith, w.if-text-at.true)) refl refl (omega arith)
  | then-text-at-via-else-text-at+then-text-at-2 w ↦ own_out _ _ (omega (arith, w.if-text-at.false, w.if-text-at-2.true)) refl refl (omega arith)
]

pub returns : goal.returns
returns c = own_in _ _ (c.args.at + c.args.len - c.args.at) refl (omega arith) (omega arith) refl (omega arith)
