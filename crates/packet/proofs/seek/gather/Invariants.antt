-- `packet::seek::gather` meets its contract: the values so far, and those that are left. Assumes nothing.
use Rattle.packet.proofs.Gathering.{Gathered}
use Rattle.packet.proofs.seek.gather.Given as goal

abbrev pub invariant-loop-i : goal.invariant-loop-i
invariant-loop-i l = Gathered l.book l.name l.dwords l.places l.values l.n l.i
