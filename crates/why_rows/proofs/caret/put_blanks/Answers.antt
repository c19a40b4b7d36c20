-- `put_blanks` meets its contract: so many blanks are in place (`Blanks`). Assumes nothing.
use Rattle.why_rows.proofs.Rowing.{blanks_start, blanks_step, blanks_end}
use Rattle.why_rows.proofs.caret.put_blanks.Goals as goal

pub loop-i-init : goal.loop-i-init
loop-i-init c = blanks_start _ _ c.requires

pub loop-i-preserved : goal.loop-i-preserved
loop-i-preserved c = blanks_step _ _ c.requires c.loop-i.invariant c.loop-i-test.true c.put.ensures

pub returns : goal.returns
returns c = blanks_end _ _ c.loop-i.invariant c.loop-i-test.false
