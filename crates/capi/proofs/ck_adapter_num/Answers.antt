-- `ck_adapter_num` meets its contract: the question over the entry of the numbers. Assumes nothing.
use Rattle.c_entry.specs.Flat.{entry_of}
use Rattle.c_entry.proofs.Flats.{flat_byte_is}
use Rattle.capi.proofs.Calling.{flat_byte_told}
use Rattle.capi.specs.Told.{flat_told}
use Rattle.entry.specs.Entry.{adapter_of}
use Rattle.entry.specs.declared.Entry.{Entry}
use mathlib.Core.Path.{◌∙◌, ap}
use Rattle.capi.proofs.ck_adapter_num.Goals as goal

pub returns : goal.returns
unfolding entry_of
returns c = flat_byte_is _ c.or_absent.ensures ∙ flat_byte_told _ ∙ ap flat_told (c.adapter_num.ensures ∙ ap (λ (e : Entry). adapter_of e.code e.port) c.entry.ensures)
