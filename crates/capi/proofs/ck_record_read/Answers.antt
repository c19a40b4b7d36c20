-- `ck_record_read` meets its contract: the record reader's answer handed on. Assumes nothing.
use mathlib.Core.Path.{◌∙◌}
use Rattle.capi.proofs.Calling.{handed_on}
use Rattle.intake.proofs.Taking.{same_slots}
use Rattle.capi.proofs.ck_record_read.Goals as goal

pub returns : goal.returns
returns c = handed_on c.into.ensures c.read.ensures.answer (c.read.ensures.slots_left ∙ same_slots _ _ _)
