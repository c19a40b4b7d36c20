-- What is kept of a value, and of the last pair of each key: the number that it says, or where it stands.
use Rattle.std.specs.Prelude.{ℕ, suc, ◌+◌, ◌≤◌, ◌<◌, ◌≡◌, cond, List, eqb, length, get_or, set, drop, IfSome, None, Option, Some}
use Rattle.text.specs.Number.{digit_of, value, number_of, hex_number_of, digits_from}
use Rattle.pairs.specs.declared.keys.Form.{Form}
use Rattle.pairs.specs.declared.keys.Form.TheVariants.{Text, Decimal, Hex, Dwords}
use Rattle.pairs.specs.declared.pair.Span.{Span}
use Rattle.walk.specs.declared.value.Digits.{Digits}
use Rattle.walk.specs.declared.last.LastPairs.{LastPairs}
use Rattle.walk.specs.declared.value.Kept.{Kept}
use Rattle.walk.specs.declared.value.Kept.TheVariants as K
use Rattle.walk.specs.declared.value.Value.{Value}
use Rattle.pairs.specs.Pair.{part, value_end, pair_at, last_pair, hit}
use Rattle.pairs.specs.Table.{Key, Row, keys, row_at, key_named}

-- a number, nothing where it is unreadable
unfoldable pub kept_number : Option ℕ → Option Kept
kept_number (Some v) = Some (K.Number v)
kept_number None = None

-- what is kept of the value from a to b: of a text and of dwords where it stands
unfoldable pub kept_in : Form → List ℕ → ℕ → ℕ → Option Kept
kept_in (Decimal limit) s a b = kept_number (number_of 10 limit (part s a b))
kept_in (Hex limit) s a b = kept_number (hex_number_of limit (part s a b))
kept_in Text s a b = Some (K.Part (record { from = a; to = b }))
kept_in Dwords s a b = Some (K.Part (record { from = a; to = b }))

-- what is kept of the value at a span
unfoldable pub kept_at : List ℕ → Form → Option Span → Option Kept
kept_at s form (Some w) = kept_in form s w.from w.to
kept_at s form None = None

-- what is kept of the last pair of a row's key
unfoldable pub kept_of : List ℕ → Row → Option Kept
kept_of s q = kept_at s q.form (last_pair s q.name)

-- an answer for each row of the table and one more: what is kept of the last pair of each row's key
pub record LastKept (s : List ℕ) (last : LastPairs) : Type 0 where
  pub size : length last.rows ≡ suc (length keys)
  pub each : (k : ℕ) → k < length keys → get_or last.rows k None ≡ kept_of s (row_at k)

-- the number that is kept, and the place
unfoldable pub number_in : Option Kept → Option ℕ
number_in (Some (K.Number v)) = Some v
number_in (Some (K.Part w)) = None
number_in None = None

unfoldable pub part_in : Option Kept → Option Span
part_in (Some (K.Number v)) = None
part_in (Some (K.Part w)) = Some w
part_in None = None

-- ---- one step of the walk, from the word byte at i to the place r

-- no pair starts from i up to r, and what was kept stays; or a pair starts at i and ends at r, and what is kept of it takes its row
pub data Stepped (s : List ℕ) (i : ℕ) (rows rows-after : List (Option Kept)) (r : ℕ) : Type 0 where
  passed : ((k : ℕ) → i ≤ k → k < r → pair_at s k ≡ None) → rows-after ≡ rows → Stepped s i rows rows-after r
  took : (m : ℕ) → pair_at s i ≡ hit i m r → {key : Key} → key ≡ key_named (part s i m) →
      rows-after ≡ set rows key.row (kept_in key.form s (m + 1) r) → Stepped s i rows rows-after r

-- the step ends behind i, and no further behind the text than one place
pub record Step (s : List ℕ) (i : ℕ) (rows rows-after : List (Option Kept)) (r : ℕ) : Type 0 where
  pub on : i < r
  pub within : r ≤ suc (length s)
  pub stepped : Stepped s i rows rows-after r

-- ---- one value

-- the value from v on by where it ends, with what is kept of it
unfoldable pub value_of : List ℕ → Form → ℕ → Option ℕ → Option Value
value_of s form v (Some e) = Some (record { end = e; kept = kept_in form s v e })
value_of s form v None = None

-- an answer is the value's, or none is given
abbrev pub Short : List ℕ → Form → ℕ → Option Value → Type 0
Short s form v r = IfSome r (λ value. Some value ≡ value_of s form v (value_end s v))

-- the base that a form is read in, 0 for a text and dwords
unfoldable pub base_of : Form → ℕ
base_of (Decimal limit) = 10
base_of (Hex limit) = 16
base_of Text = 0
base_of Dwords = 0

-- the largest number of a form
unfoldable pub limit_of : Form → ℕ
limit_of (Decimal limit) = limit
limit_of (Hex limit) = limit
limit_of Text = 0
limit_of Dwords = 0

-- where the digits of a value from v on start: behind a `0x` of a hex number
unfoldable pub digits_start : List ℕ → ℕ → ℕ → ℕ
digits_start s v base = cond (eqb base 16) (v + digits_from (drop v s)) v

-- digits of the base stand from a place up to the answer's end, and this is their value
pub record DigitsRead (s : List ℕ) (base from : ℕ) (r : Digits) : Type 0 where
  pub up : from ≤ r.end
  pub within : r.end ≤ length s
  pub digits : (k : ℕ) → from ≤ k → k < r.end → digit_of (get_or s k 0) < base
  pub is : r.value ≡ value base 0 (part s from r.end)
