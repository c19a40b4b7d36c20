-- `finish` meets its contract: the unit that the end ends, read. Assumes nothing.
use Rattle.stream.proofs.Steps.{end_fits, finish_done}
use Rattle.stream.proofs.finish.Goals as goal

pub read_unit-answer-requires : goal.read_unit-answer-requires
read_unit-answer-requires c = end_fits _ _ _ c.finish-unit.ensures

pub returns : goal.returns
returns c = finish_done _ _ _ c.finish-unit.ensures _ _ _ _ c.read_unit-answer.ensures _ c.state_after.ensures
