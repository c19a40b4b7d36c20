-- `say_name` meets its contract: what was said since the word are the pieces in front of the rest (`Pieces`). Assumes nothing.
use Rattle.saying.proofs.Telling.{no_name_said, pieces_start, pieces_step, pieces_end}
use native.Mathlib.Omega.{arith}
use Rattle.std.proofs.lemmas.Grind.{common_steps}
use Rattle.saying.proofs.say_name.Goals as goal

pub returns-then-is_empty : goal.returns-then-is_empty
returns-then-is_empty c = no_name_said _ _ _ (grind (arith, common_steps))

pub loop-rest-init : goal.loop-rest-init
loop-rest-init c = pieces_start _ _

pub loop-rest-preserved : goal.loop-rest-preserved
loop-rest-preserved c =
    rw c.split_at.ensures.back (pieces_step c.say.new.self c.args.name.now c.min.result c.loop-rest.invariant (rw (← c.split_at.ensures.front) c.say_piece.ensures))

pub returns : goal.returns
returns c = pieces_end c.args.outlet.now c.args.name.now (λ e. grind (arith, common_steps)) c.say.ensures c.loop-rest.invariant (grind (arith, common_steps))
