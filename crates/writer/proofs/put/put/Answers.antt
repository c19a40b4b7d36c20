-- `put::put` meets its contract: the copy is what is put. Assumes nothing.
use Rattle.writer.proofs.Puts.{put_copied}
use borrow.Author.Rules.{rules}
use native.Mathlib.Omega.{arith}
use Rattle.writer.proofs.put.put.Goals as goal

pub returns : goal.returns
returns c = put_copied _ _ _ _ _ c.requires (search rules) (omega arith)
