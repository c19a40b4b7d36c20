-- `word::few` meets its contract: from the text's end back each byte is put below those read, and past the end all bytes are 0. Assumes nothing.
use Rattle.text.proofs.Words.{bytes_start, bytes_fit, bytes_step, bytes_all}
use Prim.Native.Nat.{◌-◌}
use native.Mathlib.Omega.{arith}
use Rattle.text.proofs.word.few.Goals as goal

pub loop-j-init : goal.loop-j-init
loop-j-init c = bytes_start _ c.requires.0 c.requires.1

pub overflow_mul-w : goal.overflow_mul-w
overflow_mul-w c = record { fits = omega (arith, bytes_fit _ 0 c.loop-j.invariant c.loop-j-test.true (omega arith)) }

pub overflow_add-w : goal.overflow_add-w
overflow_add-w c = record { fits = omega (arith, bytes_fit _ c.from.result c.loop-j.invariant c.loop-j-test.true (omega (arith, c.from.ensures, c.type_inv.s (c.loop-j.j - 1)))) }

pub loop-j-preserved : goal.loop-j-preserved
loop-j-preserved c = bytes_step _ c.loop-j.invariant c.loop-j-test.true c.from.ensures (omega (arith, c.from.ensures, c.type_inv.s (c.loop-j.j - 1)))

pub returns : goal.returns
returns c = bytes_all _ c.loop-j.invariant c.loop-j-test.false
