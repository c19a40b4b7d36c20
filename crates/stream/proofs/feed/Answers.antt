-- `feed` meets its contract: the unit that `units` cut off, read. Assumes nothing.
use Rattle.stream.proofs.Steps.{unit_fits, feed_done}
use Rattle.stream.proofs.feed.Goals as goal

pub read_unit-answer-requires : goal.read_unit-answer-requires
read_unit-answer-requires c = unit_fits _ _ _ _ _ c.feed-fed.ensures

pub returns : goal.returns
returns c = feed_done _ _ _ _ _ c.feed-fed.ensures _ _ _ _ c.read_unit-answer.ensures
