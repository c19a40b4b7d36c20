-- `batch::parse_all` meets its contract: one check, then packet after packet. Assumes nothing.
use Rattle.batch.proofs.Batches.{refused_batch, refused_20}
use Rattle.refusal.specs.Told.{told}
use mathlib.Core.Path.{sym, ap, ◌∙◌}
use Rattle.batch.proofs.parse_all.Goals as goal

pub parse_each-requires : goal.parse_each-requires
parse_each-requires c = sym c.check.ensures ∙ ap told c.in-Ok.is

pub returns-in-Ok : goal.returns-in-Ok
returns-in-Ok c = c.parse_each.ensures

pub returns-in-Err : goal.returns-in-Err
returns-in-Err c = refused_batch c.args.book.now (refused_20 c.args.book.now (sym c.check.ensures ∙ ap told c.in-Err.is)) c.args.kinds.now c.args.counts.now c.args.dwords.now c.args.places.now c.args.codes.now c.refuse_each.ensures
