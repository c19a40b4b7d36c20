-- Decimal and hex numbers, for any base up to 16 and any limit: what is meant, why a text is no hex number, and the one answer.
use Rattle.text.specs.declared.number.BadNumber.{BadNumber}
use Rattle.std.specs.Prelude.{ℕ, ◌+◌, ◌*◌, ◌-◌, ◌≤◌, ◌<◌, ◌≡◌, Bool, true, cond, ◌&&◌, List, [], ◌∷◌, ltb, leb, length, get_or, take, drop, Err, None, Ok, Option, Result, Some}
use Rattle.std.specs.Result.{result_ok}
use Rattle.text.specs.Class.{between, is_digit}
use Rattle.text.specs.Place.{First, first_place, is_at}
use Rattle.text.specs.Run.{run_end}

-- the value of a digit of either case, 16 for a byte that is none
unfoldable pub digit_of : ℕ → ℕ
digit_of b = cond (is_digit b) (b - 48) (cond (between 97 102 b) (b - 87) (cond (between 65 70 b) (b - 55) 16))

-- the value of a digit of the base, none for a byte that is none
unfoldable pub digit_in : ℕ → ℕ → Option ℕ
digit_in base b = cond (ltb (digit_of b) base) (Some (digit_of b)) None

-- v followed by the digits of s
unfoldable pub value : ℕ → ℕ → List ℕ → ℕ
value base v [] = v
value base v (b ∷ s) = value base (v * base + digit_of b) s

-- s is one or more digits of the base, its value is v, and v is within the limit
pub record Reads (base limit : ℕ) (s : List ℕ) (v : ℕ) : Type 0 where
  pub some : 0 < length s
  pub digits : (k : ℕ) → k < length s → digit_of (get_or s k 0) < base
  pub is : value base 0 s ≡ v
  pub within : v ≤ limit

-- decimal: digits only, value within the width
abbrev pub Decimal : ℕ → List ℕ → ℕ → Type 0
Decimal limit s v = Reads 10 limit s v

-- hex: `0x` at most once, then one or more digits of either case, value within the width
pub data HexNumber (limit : ℕ) (s : List ℕ) (v : ℕ) : Type 0 where
  plain : Reads 16 limit s v → HexNumber limit s v
  prefixed : (t : List ℕ) → s ≡ 48 ∷ 120 ∷ t → Reads 16 limit t v → HexNumber limit s v

-- ---- what each answer to a hex text means

-- a byte that is no digit of the base stands at place k
abbrev pub bad_at : ℕ → List ℕ → ℕ → Bool
bad_at base s k = leb base (digit_of (get_or s k 0))

-- where the digits of a hex text start: behind a leading `0x`, else at its start
pub data DigitsFrom (s : List ℕ) (from : ℕ) : Type 0 where
  behind : (t : List ℕ) → s ≡ 48 ∷ 120 ∷ t → from ≡ 2 → DigitsFrom s from
  start : ((t : List ℕ) → s ≡ 48 ∷ 120 ∷ t → ⊥) → from ≡ 0 → DigitsFrom s from

-- empty: nothing stands there, or a bare `0x`
pub data EmptyHex (s : List ℕ) : Type 0 where
  nothing : s ≡ [] → EmptyHex s
  bare : s ≡ 48 ∷ 120 ∷ [] → EmptyHex s

-- a bad digit at a place: it is the first byte from the start of the digits on that is no hex digit; a leading `0x` is counted
pub record BadHex (s : List ℕ) (place : ℕ) : Type 0 where
  pub from : ℕ
  pub digits : DigitsFrom s from
  pub first : First (bad_at 16 s) from (length s) place

-- too wide: a hex number but for the width, and its value is past the limit
pub record WideHex (limit : ℕ) (s : List ℕ) : Type 0 where
  pub value : ℕ
  pub number : HexNumber value s value
  pub over : limit < value

-- what each case of the hex reader's answer means of the text
abbrev pub Means : ℕ → List ℕ → Result ℕ BadNumber → Type 0
Means limit s (Ok v) = HexNumber limit s v
Means limit s (Err BadNumber.Empty) = EmptyHex s
Means limit s (Err (BadNumber.BadDigit place)) = BadHex s place
Means limit s (Err BadNumber.TooWide) = WideHex limit s

-- ---- the one answer

-- every byte is a digit of the base
unfoldable pub all_digits : ℕ → List ℕ → Bool
all_digits base [] = true
all_digits base (b ∷ s) = ltb (digit_of b) base && all_digits base s

-- the number that s is
unfoldable pub number_of : ℕ → ℕ → List ℕ → Option ℕ
number_of base limit s =
    cond (ltb 0 (length s) && all_digits base s && leb (value base 0 s) limit)
    (Some (value base 0 s))
    None

-- the number that the whole digit run of s from a place on is
abbrev pub leading_of : ℕ → List ℕ → ℕ → Option ℕ
leading_of limit s from = number_of 10 limit (take (run_end is_digit s from - from) (drop from s))

-- a bad digit that was found goes before whatever else is told
unfoldable pub bad_first : Option ℕ → Result ℕ BadNumber → Result ℕ BadNumber
bad_first (Some k) told = Err (BadNumber.BadDigit k)
bad_first None told = told

-- why digits from a place on are no number: there are none, or the first bad one, else their width
unfoldable pub reason_of : ℕ → ℕ → List ℕ → Result ℕ BadNumber
reason_of base from s = cond (ltb from (length s)) (bad_first (first_place (bad_at base s) (length s) from) (Err BadNumber.TooWide)) (Err BadNumber.Empty)

-- a value within the limit, or one past it
unfoldable pub value_within : ℕ → ℕ → Result ℕ BadNumber
value_within limit v = cond (leb v limit) (Ok v) (Err BadNumber.TooWide)

-- what the digits of s from a place on come to
unfoldable pub reading_of : ℕ → ℕ → ℕ → List ℕ → Result ℕ BadNumber
reading_of base limit from s =
    cond (ltb from (length s))
    (bad_first (first_place (bad_at base s) (length s) from) (value_within limit (value base 0 (drop from s))))
    (Err BadNumber.Empty)

-- where the digits of a hex text start
unfoldable pub digits_from : List ℕ → ℕ
digits_from s = cond (is_at 48 s 0 && is_at 120 s 1) 2 0

-- what a hex text is: a number, or why it is none
unfoldable pub hex_of : ℕ → List ℕ → Result ℕ BadNumber
hex_of limit s = reading_of 16 limit (digits_from s) s

-- the hex number that s is
abbrev pub hex_number_of : ℕ → List ℕ → Option ℕ
hex_number_of limit s = result_ok (hex_of limit s)
