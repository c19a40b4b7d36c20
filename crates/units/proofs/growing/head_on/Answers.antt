-- `head_on` meets its contract: three bytes, and then the body. Assumes nothing.
use Rattle.units.proofs.Heads.{head_open, head_ready, head_body}
use native.Mathlib.Omega.{arith}
use Rattle.units.proofs.growing.head_on.Goals as goal

pub returns-then-now-lt3 : goal.returns-then-now-lt3
returns-then-now-lt3 c = λ u k. head_open _ _ _ c.requires.0 _ _ c.requires.1 c.requires.2 c.requires.3 _ c.min-more.ensures _ _ c.put-now.ensures u k c.if-now-lt3.true c.wants.ensures

pub body_on-requires : goal.body_on-requires
body_on-requires c = (omega (arith, c.min-more.ensures, c.requires.0), head_ready _ _ _ c.requires.0 _ _ c.requires.1 c.requires.2 c.requires.3 _ c.min-more.ensures _ _ c.put-now.ensures c.if-now-lt3.false)

pub returns : goal.returns
returns c = λ u k. head_body _ _ _ c.requires.0 _ _ c.requires.1 c.requires.2 c.requires.3 _ c.min-more.ensures _ _ c.put-now.ensures u k c.if-now-lt3.false _ _ c.body_on.ensures
