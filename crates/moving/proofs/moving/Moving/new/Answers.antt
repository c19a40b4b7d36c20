-- `Moving::new` meets its contract. Assumes nothing.
use native.Mathlib.Omega.{arith}
use Rattle.moving.proofs.moving.Moving.new.Goals as goal

pub invariant_of-result : goal.invariant_of-result
invariant_of-result c = record { at = omega arith; told_at = omega arith; out_size = c.requires.0; told_size = c.requires.1 }
