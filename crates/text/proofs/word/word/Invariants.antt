-- `word::word` meets its contract: each byte is put below those behind it. Assumes nothing.
use Rattle.text.proofs.Words.{WordTo}
use Rattle.text.proofs.word.word.Given as goal

abbrev pub invariant-loop-k : goal.invariant-loop-k
invariant-loop-k g l = WordTo l.s g.row.N l.i l.w l.k
