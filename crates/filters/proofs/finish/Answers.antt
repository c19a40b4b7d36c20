-- `finish` meets its contract: the open unit's text, then the totals. Assumes nothing.
use Rattle.filters.proofs.Turns.{end_fits, finish-put}
use Rattle.listing_rows.proofs.Putting.{put_size}
use native.Mathlib.Omega.{arith}
use Rattle.filters.proofs.finish.Goals as goal

pub put_unit-put-requires : goal.put_unit-put-requires
put_unit-put-requires c = (end_fits c.args.filter _ c.args.run c.requires.0 _ (rw c.framing.ensures at c.finish-cut.ensures), c.requires.1)

pub put_last-requires : goal.put_last-requires
put_last-requires c = (omega (arith, c.requires.1.at, c.put_unit-put.ensures.short, put_size c.put_unit-put.ensures.put), omega (arith, c.requires.1.told_at, c.put_unit-put.ensures.told_short, put_size c.put_unit-put.ensures.tells))

pub returns : goal.returns
returns c = finish-put _ _ c.args.run c.requires.0 _ (rw c.framing.ensures at c.finish-cut.ensures) c.put_unit-put.ensures c.put_last.ensures
