-- `head::read_head` casts the pid and the CPU, which fit. Assumes nothing.
use Rattle.header.proofs.Cpus.{cpu_is}
use Rattle.header.proofs.Dashes.{pid_is}
use Rattle.scan.proofs.Stages.{was_there}
use mathlib.Core.Path.{sym, ◌∙◌}
use native.Mathlib.Omega.{arith}
use Rattle.scan.proofs.head.read_head.Goals as goal

pub overflow_cast-result : goal.overflow_cast-result
overflow_cast-result c = record { fits = omega (arith, (pid_is _ (sym c.parse_pid.ensures ∙ was_there _ _ c.ok_or-2.ensures.value c.in_ok-pid.was)).value.within) }

pub overflow_cast-result-2 : goal.overflow_cast-result-2
overflow_cast-result-2 c = record { fits = omega (arith, (cpu_is _ (sym c.parse_cpu.ensures ∙ was_there _ _ c.ok_or-3.ensures.value c.in_ok-cpu.was)).value.within) }
