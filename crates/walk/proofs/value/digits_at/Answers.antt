-- `value::digits_at` meets its contract: what is read so far is a `ReadTo`, which is all that each way out says. Assumes nothing.
use Rattle.text.proofs.DigitRuns.{read_starts, read_fits, read_steps}
use Rattle.walk.proofs.Values.{read_all, entry_reads}
use mathlib.Core.Path.{refl}
use native.Mathlib.Omega.{arith}
use Rattle.walk.proofs.value.digits_at.Goals as goal

pub loop-j-init : goal.loop-j-init
loop-j-init c = read_starts _ _ _ c.requires.1

pub overflow_sub-j : goal.overflow_sub-j
overflow_sub-j c = c.loop-j.invariant.up

pub overflow_mul-value : goal.overflow_mul-value
overflow_mul-value c = record { fits = omega (arith, read_fits _ _ _ c.loop-j.invariant c.if-j-from-ge-SHORT.false c.requires.2 c.if-base-d.false) }

pub overflow_add-value : goal.overflow_add-value
overflow_add-value c = record { fits = omega (arith, read_fits _ _ _ c.loop-j.invariant c.if-j-from-ge-SHORT.false c.requires.2 c.if-base-d.false) }

pub loop-j-preserved : goal.loop-j-preserved
loop-j-preserved c =
    read_steps _ _ _ c.loop-j.invariant c.loop-j-test.true c.requires.2
    (entry_reads c.requires.0 refl (omega (arith, c.type_inv.s c.loop-j.j)) c.from-d.ensures c.requires.2 c.if-base-d.false)
    c.if-base-d.false

pub returns-after-loop-j : goal.returns-after-loop-j
returns-after-loop-j c = read_all c.loop-j.invariant

pub returns-then-base-d : goal.returns-then-base-d
returns-then-base-d c = read_all c.loop-j.invariant

pub returns-then-j-from-ge-SHORT : goal.returns-then-j-from-ge-SHORT
returns-then-j-from-ge-SHORT c = read_all c.loop-j.invariant
