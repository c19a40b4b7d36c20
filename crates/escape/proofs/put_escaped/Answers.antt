-- `escape::put_escaped` meets its contract: the first bytes are shown in place (`Shown`). Assumes nothing.
use Rattle.escape.proofs.Escaping.{shown_starts, shown_steps, shown_ends}
use native.Mathlib.Omega.{arith}
use Rattle.escape.proofs.put_escaped.Goals as goal

pub loop-b-init : goal.loop-b-init
loop-b-init c = shown_starts _ _ c.requires

pub loop-b-preserved : goal.loop-b-preserved
loop-b-preserved c = shown_steps _ _ c.requires c.loop-b.invariant (omega arith) c.put_shown.ensures

pub returns : goal.returns
returns c = shown_ends _ _ c.requires c.loop-b.invariant (omega arith)
