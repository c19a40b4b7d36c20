-- `record_end` meets its contract: by the length that the record says. Assumes nothing.
use Rattle.units.proofs.Counting.{record_open, record_whole}
use Rattle.units.specs.declared.Framing.TheVariants.{Lines}
use Rattle.units.proofs.ending.record_end.Goals as goal

pub returns-then-s-from : goal.returns-then-s-from
returns-then-s-from c = record_open Lines _ _ c.requires _ c.stated-size.ensures.0 c.if-s-from.true

pub returns : goal.returns
returns c = record_whole Lines _ _ c.requires _ c.stated-size.ensures.0 c.if-s-from.false
