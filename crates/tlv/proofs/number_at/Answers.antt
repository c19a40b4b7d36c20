-- `tlv::number_at` meets its contract: each byte is put below those behind it. Assumes nothing.
use Rattle.tlv.proofs.Numbers.{read_past, read_start, read_fit, read_step, read_all}
use mathlib.Core.Path.{◌∙◌}
use native.Mathlib.Omega.{arith}
use Rattle.tlv.proofs.number_at.Goals as goal

pub returns-then-s-i : goal.returns-then-s-i
returns-then-s-i g c = read_past _ _ _ c.if-s-i.true

pub loop-k-init : goal.loop-k-init
loop-k-init g c = read_start _ _ _

pub overflow_mul-n : goal.overflow_mul-n
overflow_mul-n g c = record { fits = omega (arith, read_fit 0 c.loop-k.invariant c.requires (omega arith) (omega arith)) }

pub overflow_add-n : goal.overflow_add-n
overflow_add-n g c = record { fits = omega (arith, read_fit c.from.result c.loop-k.invariant c.requires (omega arith) (omega (arith, c.from.ensures, c.byte_at.ensures))) }

pub loop-k-preserved : goal.loop-k-preserved
loop-k-preserved g c = read_step c.loop-k.invariant (omega arith) (c.from.ensures ∙ c.byte_at.ensures.0, omega (arith, c.from.ensures, c.byte_at.ensures))

pub returns : goal.returns
returns g c = read_all c.loop-k.invariant (omega arith)
