-- `packet::steps::describe` meets its contract: the control table, then by the header. Assumes nothing.
use Rattle.std.specs.Prelude.{None, ◌≡◌}
use Rattle.packet.proofs.Clearing.{zeros_by}
use Rattle.packet.proofs.Packets.{control_filled, described_at, described_none}
use Rattle.packet.specs.Steps.{entry_of, filled}
use Rattle.packet.specs.declared.fill.Pick.TheVariants.{Any}
use mathlib.Core.List.{[]}
use mathlib.Core.Path.{ap, ◌∙◌}
use native.Mathlib.Omega.{arith}
use Rattle.packet.proofs.steps.describe.Goals as goal

pub returns : goal.returns
returns c = described_at c.args.book.now c.args.dwords.now (c.fill-2.ensures ∙ ap (filled (entry_of Any [] c.args.book.now c.args.tables.control)) (zeros_by _ c.args.places.now c.fill.ensures.len c.fill.ensures.clones_before_last c.fill.ensures.last) ∙ control_filled c.args.book.now c.args.tables.control c.args.dwords.now c.args.places.now c.requires.2) c.in_ok-header.was c.describe_xdomain.ensures

pub returns-in_err-header : goal.returns-in_err-header
returns-in_err-header c =
    let gone : c.from_residual.result ≡ None = grind arith in
    rw gone (described_none c.args.book.now c.args.dwords.now (c.fill-2.ensures ∙ ap (filled (entry_of Any [] c.args.book.now c.args.tables.control)) (zeros_by _ c.args.places.now c.fill.ensures.len c.fill.ensures.clones_before_last c.fill.ensures.last) ∙ control_filled c.args.book.now c.args.tables.control c.args.dwords.now c.args.places.now c.requires.2) c.in_err-header.was)
