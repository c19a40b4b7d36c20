-- `packet::seek::first_asked` meets its contract: what is first from the start on is first from here on. Assumes nothing.
use Rattle.packet.specs.Field.{asks}
use Rattle.packet.specs.Packet.{first_from}
use lib.ListN.{drop}
use mathlib.Core.Path.{◌≡◌}
use Rattle.packet.proofs.seek.first_asked.Given as goal

abbrev pub invariant-loop-i : goal.invariant-loop-i
invariant-loop-i l = first_from (asks l.ask l.book l.name) l.start (drop l.start l.places) ≡ first_from (asks l.ask l.book l.name) l.i (drop l.i l.places)
