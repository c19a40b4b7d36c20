-- `read` meets its contract: each way out is one of the ways to an answer. Assumes nothing.
use Rattle.std.proofs.Common.{rules}
use Rattle.record.proofs.Answers.{refused, too_few, accepted}
use Rattle.record.proofs.read.Goals as goal

pub returns-in_err-judge : goal.returns-in_err-judge
returns-in_err-judge c = let h = refused _ c.args.slots.now _ c.in_err-judge.ensures in search (rules, h)

pub returns-then-slots-n : goal.returns-then-slots-n
returns-then-slots-n c = too_few _ _ c.in_ok-judge.ensures _ c.place_of-data.ensures.0 c.if-slots-n.true

pub returns : goal.returns
returns c = accepted _ _ c.in_ok-judge.ensures _ c.place_of-data.ensures.0 c.if-slots-n.false _ c.entry_of.ensures _ c.copy_dwords.ensures
