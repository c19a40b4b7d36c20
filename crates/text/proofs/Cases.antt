-- Case P9 of document 01: hex of 16 bits reads `ffff` and not `10000`, by computation. Assumes nothing.
use Rattle.std.specs.Prelude.{Err, Ok}
use Rattle.text.specs.declared.number.BadNumber.TheVariants as BadNumber
use mathlib.Core.Path.{◌≡◌, refl}
use Rattle.text.specs.Class.{between, is_digit}
use Rattle.text.specs.Place.{first_of, first_in, found_below, first_place}
use Rattle.text.specs.Number.{digit_of, value, bad_first, value_within, reading_of, digits_from, hex_of}
use Rattle.text.specs.Quote.{bytes}

pub record P9 : Type 0 where
  pub widest : hex_of 0xffff (bytes "ffff") ≡ Ok 0xffff
  pub too_wide : hex_of 0xffff (bytes "10000") ≡ (Err BadNumber.TooWide)

pub case_P9 : P9
unfolding between is_digit first_of first_in found_below first_place digit_of value bad_first value_within reading_of digits_from hex_of
case_P9 = record { widest = refl; too_wide = refl }
