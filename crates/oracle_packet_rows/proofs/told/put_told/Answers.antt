-- `told::put_told` meets its contract: where the call keeps the page over its buffer, it stays there. Assumes nothing.
use Rattle.std.proofs.Common.{arith}
use Rattle.oracle_line_rows.proofs.Lent.{buffer_size}
use Rattle.oracle_packet_rows.proofs.told.put_told.Goals as goal

pub returns-in-Ok-Some : goal.returns-in-Ok-Some
returns-in-Ok-Some g c = λ keeps. let h = keeps _ _ _ c.put-in-Ok-Some.ensures in grind (arith, buffer_size)
