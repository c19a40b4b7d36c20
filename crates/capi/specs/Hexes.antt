-- Why a hex number of a line could not be read, as a plain struct.
use Rattle.text.specs.declared.number.BadNumber.{BadNumber}
use Rattle.text.specs.declared.number.BadNumber.TheVariants as BadNumber
use Rattle.reasons.specs.declared.Key.{Key}
use Rattle.std.specs.Prelude.{ℕ, ◌-◌, ◌≤◌, ◌≡◌, cond, List, eqb, Err, None, Ok, Option, Result, Some}
use Rattle.text.specs.Told.{Told, is, absent, refused, and_then}
use Rattle.reasons.specs.declared.Key.TheVariants as K
use Rattle.reasons.specs.declared.HexText.{HexText}
use Rattle.reasons.specs.Reasons.{payload_place, key_answer}
use Rattle.capi.specs.declared.hexes.HexAnswer.{HexAnswer}

-- what a text reads as, as a number
abbrev pub word_of : Result ℕ BadNumber → ℕ
word_of (Ok v) = 1
word_of (Err BadNumber.Empty) = 2
word_of (Err (BadNumber.BadDigit place)) = 3
word_of (Err BadNumber.TooWide) = 4

-- the value, 0 if there is none
abbrev pub value_in : Result ℕ BadNumber → ℕ
value_in (Ok v) = v
value_in (Err BadNumber.Empty) = 0
value_in (Err (BadNumber.BadDigit place)) = 0
value_in (Err BadNumber.TooWide) = 0

-- the place of the first bad digit in the text, 0 if there is none
abbrev pub bad_in : Result ℕ BadNumber → ℕ
bad_in (Ok v) = 0
bad_in (Err BadNumber.Empty) = 0
bad_in (Err (BadNumber.BadDigit place)) = place
bad_in (Err BadNumber.TooWide) = 0

-- a text: what it reads as, and where it stands in the line
abbrev pub text_by : HexText → HexAnswer
text_by text =
    record {
      number = 0;
      what = word_of text.reading;
      value = value_in text.reading;
      bad = bad_in text.reading;
      at = text.from;
      len = text.to - text.from;
    }

-- no text, and a number
abbrev pub bare_by : ℕ → HexAnswer
bare_by k = record { number = k; what = 0; value = 0; bad = 0; at = 0; len = 0 }

-- what is told of a key or a piece: the text; absent; or the number that refuses the line
unfoldable pub hex_by : Told HexText → HexAnswer
hex_by (is text) = text_by text
hex_by absent = bare_by 0
hex_by (refused k) = bare_by k

-- the key of a number
unfoldable pub key_numbered : ℕ → Option Key
key_numbered n =
    cond (eqb n 1) (Some K.Route)
    (cond (eqb n 2) (Some K.Offset)
    (cond (eqb n 3) (Some K.Error) (cond (eqb n 4) (Some K.Config) (cond (eqb n 5) (Some K.Unplug) None))))

-- another key is absent on every line that has a payload
unfoldable pub other_key : List ℕ → Told HexText
other_key t = and_then (payload_place t) (λ place. absent)

-- for a line and what a number names
unfoldable pub key_told : List ℕ → Option Key → Told HexText
key_told t (Some key) = key_answer t key
key_told t None = other_key t

-- a text that is told starts where it ends or before
abbrev pub Upright : Told HexText → Type 0
Upright told = (text : HexText) → told ≡ is text → text.from ≤ text.to
