-- `questions::described::route_in` meets its contract: two dwords, or 27. Assumes nothing.
use Rattle.questions.proofs.Asking.{route_short, route_joined}
use Rattle.questions.proofs.described.route_in.Goals as goal

pub returns-then-dwords-lt2 : goal.returns-then-dwords-lt2
returns-then-dwords-lt2 c = route_short c.args.dwords.now c.if-dwords-lt2.true

pub returns : goal.returns
returns c = route_joined c.args.dwords.now c.if-dwords-lt2.false c.join.ensures
