-- `packet::steps::latch_over` meets its contract: offset by offset, the places so far and the latch say the same as step 3 does. Assumes nothing.
use Rattle.std.specs.Prelude.{IfSome, ◌<◌}
use Rattle.book.specs.Finders.{place_of}
use Rattle.packet.proofs.Latching.{Through}
use Rattle.packet.proofs.steps.latch_over.Given as goal

abbrev pub invariant-loop-i : goal.invariant-loop-i
invariant-loop-i l = Through l.book l.table l.dwords l.initial.places l.plain l.typed (place_of l.latched) l.i l.places × IfSome l.latched (λ p. 0 < p)
