-- `copy_dwords` meets its contract: the dwords so far are `Copied`. Assumes nothing.
use Rattle.record.proofs.Slots.{copying_starts, copying_steps, copying_ends}
use Rattle.record.proofs.copy_dwords.Goals as goal

pub loop-i-init : goal.loop-i-init
loop-i-init c = copying_starts _ _ _ _

pub loop-i-preserved : goal.loop-i-preserved
loop-i-preserved c = copying_steps _ _ _ _ c.loop-i.invariant c.loop-i-test.true c.four_at.ensures.is

pub returns : goal.returns
returns c = copying_ends _ _ _ _ c.loop-i.invariant c.loop-i-test.false c.requires.0
