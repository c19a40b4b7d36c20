-- `frame::max_byte` meets its contract: the running maximum is below 128 as long as every byte is. Assumes nothing.
use Rattle.scan.proofs.Levels.{level_none, level_up, level_stays}
use Rattle.scan.proofs.frame.max_byte.Goals as goal

pub loop-b-init : goal.loop-b-init
loop-b-init c = level_none _
