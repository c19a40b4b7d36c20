-- `word::word` meets its contract: each byte is put below those behind it. Assumes nothing.
use Prim.Native.Nat.{◌+◌, ◌-◌}
use Rattle.text.proofs.Words.{word_start, word_fit, word_step, word_all}
use native.Mathlib.Omega.{arith}
use Rattle.text.proofs.word.word.Goals as goal

pub loop-k-init : goal.loop-k-init
loop-k-init g c = word_start _ _ _

pub overflow_mul-w : goal.overflow_mul-w
overflow_mul-w g c = record { fits = omega (arith, word_fit _ 0 c.loop-k.invariant c.requires.0 (omega arith) (omega arith)) }

pub overflow_add-w : goal.overflow_add-w
overflow_add-w g c = record { fits = omega (arith, word_fit _ c.from.result c.loop-k.invariant c.requires.0 (omega arith) (omega (arith, c.from.ensures, c.type_inv.s (c.args.i + (c.loop-k.k - 1))))) }

pub loop-k-preserved : goal.loop-k-preserved
loop-k-preserved g c = word_step _ c.loop-k.invariant (omega arith) c.from.ensures (omega (arith, c.from.ensures, c.type_inv.s (c.args.i + (c.loop-k.k - 1))))

pub returns : goal.returns
returns g c = word_all _ c.loop-k.invariant (omega arith)
