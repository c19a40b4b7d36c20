-- `put_blanks` meets its contract: so many blanks are in place (`Blanks`). Assumes nothing.
use Rattle.why_rows.proofs.Rowing.{Blanks}
use Rattle.why_rows.proofs.caret.put_blanks.Given as goal

abbrev pub invariant-loop-i : goal.invariant-loop-i
invariant-loop-i l = Blanks l.initial.page l.n l.page l.i
