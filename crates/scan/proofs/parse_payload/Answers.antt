-- `parse_payload` meets its contract: the literal is the table of the byte classes, by computation. Assumes nothing.
use Rattle.text.specs.Class.{between, is_letter, is_digit, is_word, is_blank}
use Rattle.text.specs.Number.{digit_of}
use Rattle.text.specs.Table.{entry_of, entries, table}
use mathlib.Core.Path.{refl}
use Rattle.scan.proofs.parse_payload.Goals as goal

pub read_payload-requires : goal.read_payload-requires
unfolding table entries entry_of between is_letter is_digit is_word is_blank digit_of
read_payload-requires c = (c.requires.0, c.requires.1, refl)

pub returns : goal.returns
returns c = c.read_payload.ensures
