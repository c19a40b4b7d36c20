-- `turn` meets its contract: one step of the stream, and the text of the unit that it ends. Assumes nothing.
use Rattle.filters.proofs.Turns.{turn_fits, turn-took}
use native.Mathlib.Omega.{arith}
use Rattle.filters.proofs.turn.Goals as goal

pub feed_on-fed-requires : goal.feed_on-fed-requires
feed_on-fed-requires c = (omega (arith, c.requires.0), rw c.framing.ensures c.requires.1)

pub put_unit-requires : goal.put_unit-requires
put_unit-requires c = (turn_fits c.args.filter _ _ c.args.out.now c.args.told.now c.args.run _ _ c.requires.0 c.requires.1 (λ i. (c.slice_known-4-1.given i).fits) (rw c.framing.ensures at c.feed_on-fed.ensures), record { at = c.requires.2.at; told_at = c.requires.2.told_at })

pub returns : goal.returns
returns c = turn-took _ _ _ _ _ c.args.run _ _ c.requires.0 c.requires.1 (λ i. (c.slice_known-4-1.given i).fits) (rw c.framing.ensures at c.feed_on-fed.ensures) c.put_unit.ensures
