-- `batch::parse_each` meets its contract: packet after packet, what is left to answer is the batch of the rest. Assumes nothing.
use Rattle.batch.proofs.Batches.{cut_is, through_end, through_lent}
use borrow.Author.Rules.{rules}
use lib.ListN.{length, get_or}
use native.Mathlib.Omega.{arith}
use Rattle.batch.proofs.parse_each.Goals as goal

pub loop-k-preserved : goal.loop-k-preserved
loop-k-preserved c =
    let t = c.loop-k.invariant.1 in (
      c.loop-k.invariant.0,
      through_lent c.args.book.now c.args.kinds.now c.args.counts.now c.args.dwords.now c.args.places.now c.args.codes.now t
          (omega (arith, c.loop-k.invariant.0, c.loop-k-test.true))
          (cut_is c.loop-k.from (get_or c.args.counts.now c.loop-k.k 0) (length c.args.dwords.now) t.dwords_up c.min-in-loop-k.ensures)
          (cut_is c.loop-k.at (get_or c.args.counts.now c.loop-k.k 0) (length c.loop-k.places) (omega (arith, t.places_up, t.places_kept)) c.min-in-loop-k-2.ensures) c.parse_one.ensures,
    )

pub returns : goal.returns
returns c = through_end c.args.book.now c.args.kinds.now c.args.counts.now c.args.dwords.now c.args.places.now c.args.codes.now c.loop-k.invariant.1 c.min-n.result c.loop-k.invariant.0 (search rules)
