-- `word::two` meets its contract: two bytes make a number below 256^2. Assumes nothing.
use Rattle.text.proofs.Words.{word_below}
use native.Mathlib.Omega.{arith}
use Rattle.text.proofs.word.two.Goals as goal

pub returns : goal.returns
returns c = (c.word.ensures, omega (arith, c.word.ensures.is, word_below c.args.s.now 2 c.args.i c.word.ensures.bytes))
