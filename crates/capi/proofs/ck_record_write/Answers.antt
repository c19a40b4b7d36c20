-- `ck_record_write` meets its contract: the writer's answer handed on, or 37. Assumes nothing.
use Rattle.capi.proofs.Calling.{wrote_entry, wrote_nothing}
use Rattle.capi.proofs.ck_record_write.Goals as goal

pub returns-in-Some : goal.returns-in-Some
returns-in-Some c = wrote_entry _ _ _ _ c.raise.ensures c.in-Some.is c.write.ensures c.into.ensures

pub returns-in-None : goal.returns-in-None
returns-in-None c = wrote_nothing _ _ _ _ c.raise.ensures c.in-None.is c.from.ensures
