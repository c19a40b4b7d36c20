-- `Moving::take_part` meets its contract: each step takes some of the part, and no fault is forgotten. Assumes nothing.
use borrow.Author.Rules.{rules}
use Rattle.moving.proofs.Places.{lasting_then, roomy_lasting, went_lasting}
use Rattle.moving.proofs.moving.Moving.take_part.Goals as goal

pub loop-self-preserved : goal.loop-self-preserved
loop-self-preserved c = (search rules, (search rules, lasting_then c.loop-self.invariant.1.1 (lasting_then (roomy_lasting c.make_room.ensures) (went_lasting c.step.ensures.went))))
