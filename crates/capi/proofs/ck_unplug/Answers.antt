-- `ck_unplug` meets its contract: the question over the entry of the numbers. Assumes nothing.
use Rattle.c_entry.specs.Flat.{entry_of}
use Rattle.c_entry.proofs.Flats.{flat_flag_is}
use Rattle.capi.proofs.Calling.{flat_flag_told}
use Rattle.capi.specs.Told.{as_number, flat_told}
use Rattle.entry.specs.Entry.{unplug_of}
use Rattle.entry.specs.declared.Entry.{Entry}
use Rattle.text.specs.Told.{Told}
use mathlib.Core.Bool.{Bool}
use mathlib.Core.Path.{◌∙◌, ap}
use Rattle.capi.proofs.ck_unplug.Goals as goal

pub returns : goal.returns
unfolding entry_of
returns c = flat_flag_is _ c.or_absent.ensures ∙ flat_flag_told _ ∙ ap (λ (t : Told Bool). flat_told (as_number t)) (c.unplug.ensures ∙ ap (λ (e : Entry). unplug_of e.unplug) c.entry.ensures)
