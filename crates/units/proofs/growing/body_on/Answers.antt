-- `body_on` meets its contract: up to the length that the record says. Assumes nothing.
use Rattle.units.proofs.Bodies.{body_long_open, body_long_ends, body_short_open, body_short_ends}
use Rattle.units.proofs.growing.body_on.Goals as goal

pub returns-then-now-size : goal.returns-then-now-size
returns-then-now-size c = λ u k. body_long_open _ _ _ c.requires.0 _ _ _ c.requires.1 u k _ c.stated-size.ensures.0 c.if-size-gt5227.true _ c.min-more.ensures c.if-now-size.true c.wants.ensures

pub returns-then-size-gt5227 : goal.returns-then-size-gt5227
returns-then-size-gt5227 c = λ u k. body_long_ends _ _ _ c.requires.0 _ _ _ c.requires.1 u k _ c.stated-size.ensures.0 c.if-size-gt5227.true _ c.min-more.ensures c.if-now-size.false c.ends.ensures

pub returns-then-now-size-2 : goal.returns-then-now-size-2
returns-then-now-size-2 c = λ u k. body_short_open _ _ _ c.requires.0 _ _ _ c.requires.1 u k _ c.stated-size.ensures.0 c.if-size-gt5227.false _ c.min-more-2.ensures _ _ c.put-now.ensures c.if-now-size-2.true c.wants-then-now-size-2.ensures

pub returns : goal.returns
returns c = λ u k. body_short_ends _ _ _ c.requires.0 _ _ _ c.requires.1 u k _ c.stated-size.ensures.0 c.if-size-gt5227.false _ c.min-more-2.ensures _ _ c.put-now.ensures c.if-now-size-2.false c.ends-2.ensures
