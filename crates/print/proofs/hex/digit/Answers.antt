-- `hex::digit` meets its contract: the digits below ten and the others. Assumes nothing.
use Rattle.print.proofs.Hexing.{digit_low, digit_high}
use Rattle.print.proofs.hex.digit.Goals as goal

pub returns-then-n-lt10 : goal.returns-then-n-lt10
returns-then-n-lt10 c = digit_low _ c.if-n-lt10.true

pub returns : goal.returns
returns c = digit_high _ c.if-n-lt10.false
