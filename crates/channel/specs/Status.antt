-- The exit status of a program that was kept from its work.
use Rattle.std.specs.Prelude.{ℕ}
use Rattle.channel.specs.declared.status.Status.{Status}
use Rattle.channel.specs.declared.status.Status.TheVariants as S

-- 1 for a read or a write that failed, 2 for a wrong call, 3 for a record among the lines
abbrev pub status_number : Status → ℕ
status_number S.Fault = 1
status_number S.BadCall = 2
status_number S.Record = 3
