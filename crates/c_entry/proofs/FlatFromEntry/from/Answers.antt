-- `from` meets its contract, field by field. Assumes nothing.
use Rattle.c_entry.specs.Flat.{flat_of}
use Rattle.c_entry.proofs.Flats.{flat_byte_is as byte, flat_word_is as word, dropped_is}
use Rattle.c_entry.proofs.FlatFromEntry.from.Goals as goal

pub returns : goal.returns
unfolding flat_of
returns c = rw (dropped_is _ c.into.ensures, word _ c.or_absent.ensures, byte _ c.or_absent-2.ensures, word _ c.or_absent-3.ensures, byte _ c.or_absent-4.ensures, byte _ c.or_absent-5.ensures, byte _ c.or_absent-6.ensures, byte _ c.or_absent-7.ensures)
