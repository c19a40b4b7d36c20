-- `packet::parse` meets its contract: 20, or what the checked form says. Assumes nothing.
use Rattle.refusal.specs.Told.{told}
use Rattle.refusal.proofs.Told.{passed_on}
use Rattle.packet.proofs.Packets.{parsed_20}
use mathlib.Core.Path.{sym, ap, ◌∙◌}
use Rattle.packet.proofs.parse.Goals as goal

pub returns-in_err-check : goal.returns-in_err-check
returns-in_err-check c = rw (passed_on c.from_residual.result c.from_residual.ensures.1) (parsed_20 c.args.kind c.args.book.now c.args.dwords.now c.args.places.now (sym c.check.ensures ∙ ap told c.in_err-check.was))
