-- The cases of documents 01 and 02 k) that are about pairs and data, by computation. Assumes nothing.
use Rattle.std.specs.Prelude.{None, Some}
use mathlib.Core.Path.{◌≡◌, refl}
use mathlib.Core.List.{[], ◌∷◌}
use Rattle.text.specs.Class.{between, is_digit, is_letter, is_word, in_class}
use Rattle.text.specs.Number.{digit_of, value, all_digits, number_of, bad_first, value_within, reading_of, digits_from, hex_of}
use Rattle.text.specs.Place.{first_of, first_in, found_below, first_place}
use Rattle.text.specs.Quote.{bytes}
use Rattle.text.specs.Run.{run_end}
use Rattle.pairs.specs.Pair.{bracket_end, value_end, with_value, pair_with, pair_at, is_hit, pair_from, next_pair, followed, pairs_within, pairs_from, newer, last_in, last_pair, decimal_in, decimal_of, span}
use Rattle.pairs.specs.Data.{ahead, cut, piece_of, taken, dwords_in, dwords_of, inside_of, data_in, data_of}
use Rattle.pairs.specs.Table.{keys, key_after, unknown, key_named}
use Rattle.pairs.proofs.PairLists.{placed}

-- what an example has to compute with
computes : Unit {0}
unfolding between is_digit is_letter is_word in_class digit_of value all_digits number_of bad_first value_within reading_of digits_from hex_of first_of first_in found_below first_place run_end bracket_end value_end with_value pair_with pair_at is_hit pair_from next_pair followed pairs_within pairs_from newer last_in last_pair decimal_in decimal_of ahead cut piece_of taken dwords_in dwords_of inside_of data_in data_of
computes = tt

-- `a=b=c`: one pair, a to b
pub case_P4 : pairs_from (bytes "a=b=c") 0 ≡ placed 0 1 3 ∷ []
unfolding computes
case_P4 = refl

-- `size=1 size=2`: 2
pub case_P5 : decimal_of (bytes "size=1 size=2") (bytes "size") 0xffff ≡ Some 2
unfolding computes
case_P5 = refl

-- the last pair counts, readable or not: `size=z size=1` is 1, `size=1 size=z` no number
pub record LastCounts : Type 0 where
  pub good_last : decimal_of (bytes "size=z size=1") (bytes "size") 0xffff ≡ Some 1
  pub bad_last : decimal_of (bytes "size=1 size=z") (bytes "size") 0xffff ≡ None

pub last_counts : LastCounts
unfolding computes
last_counts = record { good_last = refl; bad_last = refl }

-- keys compare by all their bytes: `seq` is row 10, and what only starts or ends like it is no row's
pub record WholeNames : Type 0 where
  pub whole : (key_named (bytes "seq")).row ≡ 10
  pub longer : key_named (bytes "seqs") ≡ unknown
  pub shorter : key_named (bytes "se") ≡ unknown
  pub before : key_named (bytes "aseq") ≡ unknown
  pub capital : key_named (bytes "Seq") ≡ unknown

pub whole_names : WholeNames
unfolding computes keys key_after unknown key_named
whole_names = record { whole = refl; longer = refl; shorter = refl; before = refl; capital = refl }

-- `data=[0x1, zz, 0x2]`: 1, 2
pub record P6 : Type 0 where
  pub value_at : last_pair (bytes "data=[0x1, zz, 0x2]") (bytes "data") ≡ span 5 19
  pub dwords : data_of (bytes "[0x1, zz, 0x2]") ≡ Some (1 ∷ 2 ∷ [])

pub case_P6 : P6
unfolding computes
case_P6 = record { value_at = refl; dwords = refl }

-- `data=[0x1,0x2]`: no dwords; accepted in lenient
pub record P7 : Type 0 where
  pub value_at : last_pair (bytes "data=[0x1,0x2]") (bytes "data") ≡ span 5 14
  pub dwords : data_of (bytes "[0x1,0x2]") ≡ Some []

pub case_P7 : P7
unfolding computes
case_P7 = record { value_at = refl; dwords = refl }

-- `data=[]`: no pair, so no data
pub case_P8 : last_pair (bytes "data=[]") (bytes "data") ≡ None
unfolding computes
case_P8 = refl

-- `x=[size=4` with no `]` behind it is no pair, and the search goes on one byte after the try's start; `x=[size=4]` hides the inner pair
pub record Resumes : Type 0 where
  pub unclosed : last_pair (bytes "x=[size=4") (bytes "size") ≡ span 8 9
  pub hidden : last_pair (bytes "x=[size=4]") (bytes "size") ≡ None

pub resumes : Resumes
unfolding computes
resumes = record { unclosed = refl; hidden = refl }
