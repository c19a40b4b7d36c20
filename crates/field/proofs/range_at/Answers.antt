-- `field::range_at` meets its contract: low bit, high bit and value. Assumes nothing.
use Rattle.field.proofs.Sources.{range_at_lem}
use native.Mathlib.Omega.{arith}
use Rattle.field.proofs.range_at.Goals as goal

pub returns : goal.returns
returns c = range_at_lem c.args.book.now c.args.dword c.args.at (λ z. omega (arith, c.requires, z)) c.low_of.ensures c.high_of.ensures c.value_in.ensures
