-- `dwords::eight_digits` meets its contract: so long as the sum is below 128 each byte was a digit, and eight of them fit 32 bits. Assumes nothing.
use Rattle.pairs.proofs.Printed.{eight_starts, eight_steps, eight_done, room_left, part_long, part_byte}
use Rattle.text.proofs.Entries.{entry_digit, entry_small}
use Rattle.text.specs.Number.{digit_of}
use Prim.Native.Nat.{◌+◌}
use lib.ListN.{get_or}
use mathlib.Core.Path.{sym, ap, ◌∙◌}
use native.Mathlib.Omega.{arith}
use Rattle.pairs.proofs.dwords.eight_digits.Goals as goal

pub loop-k-init : goal.loop-k-init
loop-k-init c = eight_starts _ (part_long c.args.s.now 8 c.args.at c.requires.1)

pub overflow_mul-v : goal.overflow_mul-v
overflow_mul-v c = record { fits = omega (arith, room_left _ (part_long c.args.s.now 8 c.args.at c.requires.1) c.loop-k.invariant c.loop-k-test.true, c.from-d.ensures, c.fits-t (get_or c.args.s.now (c.args.at + c.loop-k.k) 0)) }

pub overflow_add-v : goal.overflow_add-v
overflow_add-v c = record { fits = omega (arith, room_left _ (part_long c.args.s.now 8 c.args.at c.requires.1) c.loop-k.invariant c.loop-k-test.true, c.from-d.ensures, c.fits-t (get_or c.args.s.now (c.args.at + c.loop-k.k) 0)) }

pub overflow_add-sum : goal.overflow_add-sum
overflow_add-sum c = record { fits = omega (arith, c.loop-k.invariant.total, c.loop-k-test.true, c.from-d.ensures, c.fits-t (get_or c.args.s.now (c.args.at + c.loop-k.k) 0)) }

pub loop-k-preserved : goal.loop-k-preserved
loop-k-preserved c =
    eight_steps _ (part_long c.args.s.now 8 c.args.at c.requires.1) c.loop-k.invariant c.loop-k-test.true (omega (arith, c.from-d.ensures, c.fits-t (get_or c.args.s.now (c.args.at + c.loop-k.k) 0)))
    (λ h. rw (← c.from-d.ensures) at (entry_small c.requires.0 (omega (arith, c.type_inv.s (c.args.at + c.loop-k.k))) (rw c.from-d.ensures at h)))
    (λ h. ap digit_of (part_byte c.args.s.now 8 c.args.at c.requires.1 c.loop-k-test.true)
    ∙ entry_digit c.requires.0 (omega (arith, c.type_inv.s (c.args.at + c.loop-k.k))) (rw c.from-d.ensures at h) ∙ sym c.from-d.ensures)

pub returns : goal.returns
returns c = eight_done _ (part_long c.args.s.now 8 c.args.at c.requires.1) c.loop-k.invariant c.loop-k-test.false (omega arith)
