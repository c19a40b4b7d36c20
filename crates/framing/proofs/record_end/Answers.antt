-- `record_end` meets its contract, by where the stated size lies. Assumes nothing.
use Rattle.framing.proofs.Endings.{record_ends, record_open}
use native.Mathlib.Omega.{arith}
use Rattle.framing.proofs.record_end.Goals.{then-size-held-via-then-size-held, then-size-held-via-else-size-held+then-part-from}
use Rattle.framing.proofs.record_end.Goals as goal

pub returns-then-size-held : goal.returns-then-size-held
returns-then-size-held c =
    elim c.then-size-held.branch [
      | then-size-held-via-then-size-held w ↦ record_open c.args.part.now c.args.from c.args.held.now c.requires (λ k a b e. omega (arith, w.if-size-held.true, c.open_size-size.ensures, e))
      | then-size-held-via-else-size-held+then-part-from w ↦ record_open c.args.part.now c.args.from c.args.held.now c.requires (λ k a b e. omega (arith, w.if-size-held.false, w.if-part-from.true, c.open_size-size.ensures, e))
    ]

pub returns : goal.returns
returns c =
    record_ends c.args.part.now c.args.from c.args.held.now c.requires _ (omega (arith, c.if-size-held.false, c.open_size-size.ensures)) (omega (arith, c.if-size-held.false)) (omega (arith, c.if-part-from.false))
