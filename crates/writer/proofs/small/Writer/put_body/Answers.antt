-- `Writer::put_body` meets its contract, by what the body is made from. Assumes nothing.
use Rattle.std.proofs.Common.{length}
use native.Mathlib.Omega.{arith}
use mathlib.Core.Path.{ap}
use Rattle.record.proofs.Bodies.{dwords_bytes_length}
use Rattle.writer.proofs.Puts.{width_bytes}
use Rattle.writer.proofs.small.Writer.put_body.Goals as goal

pub put-requires-in-Number : goal.put-requires-in-Number
put-requires-in-Number c =
    let e = width_bytes c.in-Number.width c.in-Number.n c.bytes.ensures c.to_le_bytes.ensures in
    omega (arith, ap length e, rw c.in-Number.is at c.requires)

pub put_dwords-requires : goal.put_dwords-requires
put_dwords-requires c = omega (arith, dwords_bytes_length c.in-Dwords.dwords.now, rw c.in-Dwords.is at c.requires)

pub returns-in-Number : goal.returns-in-Number
returns-in-Number c =
    let e = width_bytes c.in-Number.width c.in-Number.n c.bytes.ensures c.to_le_bytes.ensures in
    rw c.in-Number.is (record { put = rw e at c.put-in-Number.ensures.put; same = c.put-in-Number.ensures.same })
