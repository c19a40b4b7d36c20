-- The one answer for a line and a hex key, and for a line and a piece of its data.
use Rattle.refusal.specs.declared.Refusal.{Refusal}
use Rattle.refusal.specs.Told.{told}
use Rattle.std.specs.Prelude.{ℕ, ◌+◌, ◌-◌, ◌^◌, ◌≤◌, ◌≡◌, List, length, drop, IfOk, IfSome, None, Option, Result, Some}
use Rattle.text.specs.Told.{Told, is, absent, refused, and_then}
use Rattle.text.specs.Class.{is_blank}
use Rattle.text.specs.Number.{hex_of}
use Rattle.text.specs.Quote.{bytes}
use Rattle.text.specs.Run.{run_end}
use Rattle.pairs.specs.declared.pair.Span.{Span}
use Rattle.pairs.specs.Pair.{part, last_pair, span}
use Rattle.pairs.specs.Data.{inside_of, nth_piece}
use Rattle.scan.specs.Frame.{frame_of}
use Rattle.scan.specs.Parse.{payload_of}
use Rattle.reasons.specs.declared.Key.{Key}
use Rattle.reasons.specs.declared.Key.TheVariants as K
use Rattle.reasons.specs.declared.HexText.{HexText}
use Rattle.reasons.specs.declared.payload.Place.{Place}

-- a key's name
abbrev pub name_of : Key → List ℕ
name_of K.Route = bytes "route"
name_of K.Offset = bytes "offset"
name_of K.Error = bytes "error"
name_of K.Config = bytes "config"
name_of K.Unplug = bytes "unplug"

-- the largest value of a key's width
abbrev pub limit_of : Key → ℕ
limit_of K.Route = 2 ^ 64 - 1
limit_of K.Offset = 2 ^ 16 - 1
limit_of K.Error = 2 ^ 8 - 1
limit_of K.Config = 2 ^ 8 - 1
limit_of K.Unplug = 2 ^ 8 - 1

-- where the payload of a line parted at a colon stands
unfoldable pub payload_from : List ℕ → ℕ → Place
payload_from t colon =
    let start : ℕ = colon + 1 + run_end is_blank (drop (colon + 1) t) 0 in
    record { from = start; to = start + length (payload_of t colon) }

-- numbers 1 to 4 in their order, or where the payload stands
unfoldable pub payload_place : List ℕ → Told Place
payload_place t = and_then (frame_of t) (λ colon. is (payload_from t colon))

-- what a span of a text that starts at a place of the line says in hex
unfoldable pub said_at : ℕ → ℕ → List ℕ → Option Span → Told HexText
said_at limit start s (Some w) = is (record { from = start + w.from; to = start + w.to; reading = hex_of limit (part s w.from w.to) })
said_at limit start s None = absent

-- a span of a part, as a span of the whole
unfoldable pub moved : ℕ → Option Span → Option Span
moved by (Some w) = span (by + w.from) (by + w.to)
moved by None = None

-- what stands between the brackets of a value at a span
unfoldable pub brackets_at : List ℕ → Option Span → Option Span
brackets_at p (Some w) = moved w.from (inside_of (part p w.from w.to))
brackets_at p None = None

-- what stands between the brackets of the last `data`
unfoldable pub data_span : List ℕ → Option Span
data_span p = brackets_at p (last_pair p (bytes "data"))

-- what the payload's last pair of the key says
unfoldable pub key_in : List ℕ → ℕ → Key → Told HexText
key_in p start key = said_at (limit_of key) start p (last_pair p (name_of key))

-- what the i-th piece of the data at a span says
unfoldable pub piece_at : List ℕ → ℕ → ℕ → Option Span → Told HexText
piece_at p start i (Some w) = said_at (2 ^ 32 - 1) (start + w.from) (part p w.from w.to) (nth_piece i (part p w.from w.to) 0)
piece_at p start i None = absent

-- what the i-th piece of its data says
unfoldable pub piece_in : List ℕ → ℕ → ℕ → Told HexText
piece_in p start i = piece_at p start i (data_span p)

-- for a line and a hex key
unfoldable pub key_answer : List ℕ → Key → Told HexText
key_answer t key = and_then (payload_place t) (λ p. key_in (part t p.from p.to) p.from key)

-- for a line and the number of a piece
unfoldable pub piece_answer : List ℕ → ℕ → Told HexText
piece_answer t i = and_then (payload_place t) (λ p. piece_in (part t p.from p.to) p.from i)

-- ---- what is promised between the calls

-- a span lies within the text
abbrev pub SpanWithin : List ℕ → Option Span → Type 0
SpanWithin s r = IfSome r (λ w. (w.from ≤ w.to) × (w.to ≤ length s))

-- a place is that of the payload behind the colon, and lies within the line
pub record PlacedAt (t : List ℕ) (colon : ℕ) (place : Place) : Type 0 where
  pub is : place ≡ payload_from t colon
  pub up : place.from ≤ place.to
  pub within : place.to ≤ length t

-- an answer is the payload's place, and lies within the line
pub record PayloadAt (t : List ℕ) (r : Result Place Refusal) : Type 0 where
  pub is : told r ≡ payload_place t
  pub within : IfOk r (λ place. (place.from ≤ place.to) × (place.to ≤ length t))

-- an answer is what stands between the brackets, and lies within the payload
pub record DataAt (p : List ℕ) (r : Option Span) : Type 0 where
  pub is : r ≡ data_span p
  pub within : SpanWithin p r
