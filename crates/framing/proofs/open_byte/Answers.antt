-- `open_byte` meets its contract: what is held comes before the part. Assumes nothing.
use Rattle.framing.proofs.Endings.{held_byte, part_byte}
use mathlib.Core.Path.{◌∙◌}
use Rattle.framing.proofs.open_byte.Goals as goal

pub returns-then-i-held : goal.returns-then-i-held
returns-then-i-held c = held_byte c.args.part.now c.args.from c.args.held.now c.requires.0 c.args.i c.if-i-held.true

pub returns : goal.returns
returns c = c.byte_at.ensures ∙ part_byte c.args.part.now c.args.from c.args.held.now c.requires.0 c.args.i c.if-i-held.false
