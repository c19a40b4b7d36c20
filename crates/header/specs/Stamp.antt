-- The timestamp.
use Rattle.std.specs.Prelude.{ℕ, ◌+◌, ◌-◌, ◌<◌, ◌^◌, ◌≡◌, Bool, true, false, not, ◌&&◌, List, ltb, length, get_or, take, drop, None, Option, Some}
use Rattle.text.specs.Class.{is_digit, is_blank}
use Rattle.text.specs.Number.{Decimal, number_of}
use Rattle.text.specs.Place.{first_place, is_at, byte_before}
use Rattle.text.specs.Run.{Run, run_end}
use Rattle.header.specs.declared.stamp.Stamp.{Stamp}
use Rattle.header.specs.declared.stamp.Parts.{Parts}

-- a whole digit run from i to j, followed by `.`, a digit run up to k, `:` and a blank
pub record StampAt (h : List ℕ) (i j k : ℕ) : Type 0 where
  pub starts : is_digit (byte_before h i) ≡ false
  pub some : i < j
  pub whole : Run is_digit h i j
  pub dot : get_or h j 0 ≡ 46
  pub more : j + 1 < k
  pub digits : Run is_digit h (j + 1) k
  pub colon : get_or h k 0 ≡ 58
  pub blank : is_blank (get_or h (k + 1) 0) ≡ true

-- timestamp: the first such digit run; its second number is taken as microseconds as it stands
pub record Timestamp (h : List ℕ) (seconds microseconds : ℕ) : Type 0 where
  pub from : ℕ
  pub dot : ℕ
  pub colon : ℕ
  pub here : StampAt h from dot colon
  pub first : (i j k : ℕ) → i < from → StampAt h i j k → ⊥
  pub seconds_read : Decimal (2 ^ 63 - 1) (take (dot - from) (drop from h)) seconds
  pub microseconds_read : Decimal (2 ^ 63 - 1) (take (colon - (dot + 1)) (drop (dot + 1) h)) microseconds

-- `.`, a digit run, `:` and a blank from j on
unfoldable pub followed : List ℕ → ℕ → Bool
followed h j =
    let k : ℕ = run_end is_digit h (j + 1) in
    is_at 46 h j && ltb (j + 1) k && is_at 58 h k && is_blank (get_or h (k + 1) 0)

-- a whole digit run, so followed, starts here
unfoldable pub stamp_at : List ℕ → ℕ → Bool
stamp_at h i = not (is_digit (byte_before h i)) && ltb i (run_end is_digit h i) && followed h (run_end is_digit h i)

-- two readings together
unfoldable pub both_read : Option ℕ → Option ℕ → Option Stamp
both_read (Some s) (Some u) = Some (record { seconds = s; microseconds = u })
both_read (Some s) None = None
both_read None (Some u) = None
both_read None None = None

-- the two digit runs from i on, read
unfoldable pub read_stamp : List ℕ → ℕ → Option Stamp
read_stamp h i =
    let j : ℕ = run_end is_digit h i in
    let k : ℕ = run_end is_digit h (j + 1) in
    both_read (number_of 10 (2 ^ 63 - 1) (take (j - i) (drop i h))) (number_of 10 (2 ^ 63 - 1) (take (k - (j + 1)) (drop (j + 1) h)))

-- what stands at a place, if any
unfoldable pub stamp_from : List ℕ → Option ℕ → Option Stamp
stamp_from h (Some i) = read_stamp h i
stamp_from h None = None

-- the timestamp
unfoldable pub stamp_of : List ℕ → Option Stamp
stamp_of h = stamp_from h (first_place (stamp_at h) (length h) 0)

-- what is told of the colon at c: the two digit runs of the timestamp that it ends, or that it ends none
unfoldable pub PartsBefore : List ℕ → ℕ → Option Parts → Type 0
PartsBefore h c (Some parts) = StampAt h parts.from parts.dot c
PartsBefore h c None = (i j : ℕ) → StampAt h i j c → ⊥
