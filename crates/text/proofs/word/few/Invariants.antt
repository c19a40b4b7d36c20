-- `word::few` meets its contract: from the text's end back each byte is put below those read, and past the end all bytes are 0. Assumes nothing.
use Rattle.text.proofs.Words.{FewTo}
use Rattle.text.proofs.word.few.Given as goal

abbrev pub invariant-loop-j : goal.invariant-loop-j
invariant-loop-j l = FewTo l.s l.i l.w l.j
