-- How document 02's sentences on reasons are read, by small lines and computation. None of these lines has a header, so the line
-- reader refuses each: the reasons are told all the same. Assumes nothing.
use Rattle.std.specs.Prelude.{Err, Ok, Result}
use Rattle.text.specs.declared.number.BadNumber.{BadNumber}
use Rattle.text.specs.declared.number.BadNumber.TheVariants as BadNumber
use Prim.Native.Nat.{ℕ}
use mathlib.Core.Path.{◌≡◌, refl}
use mathlib.Core.List.{◌∷◌}
use Rattle.text.specs.Told.{Told, is, absent, refused}
use Rattle.text.specs.Quote.{bytes}
use Rattle.pairs.specs.Data.{comma_space, piece_end, nth_piece}
use Rattle.scan.proofs.Cases.{computes}
use Rattle.reasons.specs.declared.Key.TheVariants.{Route, Offset, Error, Config, Unplug}
use Rattle.reasons.specs.declared.HexText.{HexText}
use Rattle.reasons.specs.Reasons.{payload_from, payload_place, said_at, moved, brackets_at, data_span, piece_at, key_in, piece_in, key_answer, piece_answer}

-- a text from a place of the line up to another, and what it reads as
abbrev says : ℕ → ℕ → Result ℕ BadNumber → Told HexText
says a b r = is (record { from = a; to = b; reading = r })

pub record Cases : Type 0 where
  -- a bad digit's place is counted in the value, its `0x` too
  pub behind_prefix : key_answer (bytes ":offset=0xg") Offset ≡ says 8 11 (Err (BadNumber.BadDigit 2))
  -- brackets are bytes of the value
  pub brackets : key_answer (bytes ":offset=[1]") Offset ≡ says 8 11 (Err (BadNumber.BadDigit 0))
  -- empty is a bare `0x`, and of a piece nothing too; nothing else is
  pub bare_prefix : key_answer (bytes ":offset=0x") Offset ≡ says 8 10 (Err BadNumber.Empty)
  pub empty_piece : piece_answer (bytes ":data=[0x1, ]") 1 ≡ says 12 12 (Err BadNumber.Empty)
  pub bare_piece : piece_answer (bytes ":data=[0x, 1]") 0 ≡ says 7 9 (Err BadNumber.Empty)
  -- `0x` stands at most once, in small letters, and its `0` is needed
  pub prefix_twice : key_answer (bytes ":route=0x0x1") Route ≡ says 7 12 (Err (BadNumber.BadDigit 3))
  pub capital_prefix : key_answer (bytes ":error=0X1") Error ≡ says 7 10 (Err (BadNumber.BadDigit 1))
  pub half_prefix : key_answer (bytes ":config=x1") Config ≡ says 8 10 (Err (BadNumber.BadDigit 0))
  -- the first bad digit goes before width, however late it stands
  pub bad_before_wide : key_answer (bytes ":offset=0x1ffffz") Offset ≡ says 8 16 (Err (BadNumber.BadDigit 7))
  -- too wide is a value past the limit; the limit itself and leading zeros are not
  pub too_wide : key_answer (bytes ":offset=0x1ffff") Offset ≡ says 8 15 (Err BadNumber.TooWide)
  pub widest : key_answer (bytes ":offset=ffff") Offset ≡ says 8 12 (Ok 0xffff)
  pub leading_zeros : key_answer (bytes ":unplug=000000001") Unplug ≡ says 8 17 (Ok 1)
  -- an absent key gives no reason, and a bracket that is not closed makes no pair
  pub absent_key : key_answer (bytes ":error=1") Offset ≡ absent
  pub unclosed : key_answer (bytes ":unplug=[1") Unplug ≡ absent
  -- a line without a payload gives its number
  pub no_payload : key_answer (bytes "x") Route ≡ refused 4
  -- the last pair of a key is asked, in the stripped payload
  pub last_pair : key_answer (bytes ": offset=1 offset=z") Offset ≡ says 18 19 (Err (BadNumber.BadDigit 0))
  -- a piece behind the last, and pieces where `data` is not in brackets, are absent
  pub behind_last : piece_answer (bytes ":data=[1]") 1 ≡ absent
  pub no_brackets : piece_answer (bytes ":data=1") 0 ≡ absent
  -- 18 does not say which piece is bad, these do: the second of P6, and the one piece of P7
  pub piece_of_P6 : piece_answer (bytes ":data=[0x1, zz, 0x2]") 1 ≡ says 12 14 (Err (BadNumber.BadDigit 0))
  pub piece_of_P7 : piece_answer (bytes ":data=[0x1,0x2]") 0 ≡ says 7 14 (Err (BadNumber.BadDigit 3))
  -- a text that starts with A1 is no line
  pub a_record : key_answer (0xa1 ∷ bytes ":route=0") Route ≡ refused 3

pub cases : Cases
unfolding computes comma_space piece_end nth_piece payload_from payload_place said_at moved brackets_at data_span piece_at key_in piece_in key_answer piece_answer
cases =
    record {
      behind_prefix = refl;
      brackets = refl;
      bare_prefix = refl;
      empty_piece = refl;
      bare_piece = refl;
      prefix_twice = refl;
      capital_prefix = refl;
      half_prefix = refl;
      bad_before_wide = refl;
      too_wide = refl;
      widest = refl;
      leading_zeros = refl;
      absent_key = refl;
      unclosed = refl;
      no_payload = refl;
      last_pair = refl;
      behind_last = refl;
      no_brackets = refl;
      piece_of_P6 = refl;
      piece_of_P7 = refl;
      a_record = refl;
    }
