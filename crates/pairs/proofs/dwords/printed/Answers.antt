-- `dwords::printed` meets its contract: what is read is a piece by its ten bytes. Assumes nothing.
use Rattle.pairs.proofs.Printed.{comma_space_at, printed_here}
use Rattle.std.proofs.lemmas.Option.{IfSome_then}
use native.Mathlib.Omega.{arith}
use Rattle.pairs.proofs.dwords.printed.Goals as goal

pub returns : goal.returns
returns c = IfSome_then c.eight_digits.result c.eight_digits.ensures (λ v number. printed_here _ _ c.if-s-at.false (rw c.if-two-ne-PREFIX.false at c.two.ensures.0) number (λ l. grind (arith, comma_space_at)))
