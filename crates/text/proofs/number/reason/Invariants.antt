-- `number::reason` meets its contract: the first bad digit from the start is the first from here. Assumes nothing.
use Rattle.text.proofs.Numbers.{Clean}
use Rattle.text.proofs.number.reason.Given as goal

abbrev pub invariant-loop-i : goal.invariant-loop-i
invariant-loop-i l = Clean l.base l.from l.s l.i
