-- The unreadable hex numbers of a line, in the order of their rows.
use Rattle.text.specs.declared.number.BadNumber.{BadNumber}
use Rattle.std.specs.Prelude.{ℕ, ◌+◌, ◌-◌, ◌^◌, ◌<◌, ◌≡◌, List, [], ◌∷◌, ◌++◌, Err, Ok, Result, None, Option, Some}
use Rattle.text.specs.Told.{Told, is, absent, refused}
use Rattle.text.specs.Number.{hex_of}
use Rattle.pairs.specs.declared.pair.Span.{Span}
use Rattle.pairs.specs.Pair.{part}
use Rattle.pairs.specs.Data.{cut}
use Rattle.reasons.specs.declared.Key.{Key}
use Rattle.reasons.specs.declared.Key.TheVariants as K
use Rattle.reasons.specs.declared.HexText.{HexText}
use Rattle.reasons.specs.declared.payload.Place.{Place}
use Rattle.reasons.specs.Reasons.{payload_place, key_in, data_span}
use Rattle.why_rows.specs.declared.What.{What}
use Rattle.why_rows.specs.declared.What.TheVariants as W

-- an unreadable number: which it is, its text, and why it is none
pub record Finding : Type 0 where
  pub what : What
  pub text : List ℕ
  pub reason : BadNumber

abbrev pub finding : What → List ℕ → BadNumber → Finding
finding w s y = record { what = w; text = s; reason = y }

-- what a text's reading leaves to tell: nothing of a number
unfoldable pub unread : What → List ℕ → Result ℕ BadNumber → List Finding
unread w s (Ok v) = []
unread w s (Err y) = finding w s y ∷ []

-- the same of an answer about a part of the text; nothing of one that is absent
unfoldable pub asked : What → List ℕ → Told HexText → List Finding
asked w s (is h) = unread w (part s h.from h.to) h.reading
asked w s absent = []
asked w s (refused k) = []

-- of the payload's last pair of a key
unfoldable pub key_found : List ℕ → Key → List Finding
key_found p key = asked (W.Key key) p (key_in p 0 key)

-- of pieces, which are numbered from i on
unfoldable pub pieces_found : ℕ → List (List ℕ) → List Finding
pieces_found i [] = []
pieces_found i (s ∷ ss) = unread (W.Piece i) s (hex_of (2 ^ 32 - 1) s) ++ pieces_found (i + 1) ss

-- of the pieces of the data at a span
unfoldable pub data_found : List ℕ → Option Span → List Finding
data_found p (Some w) = pieces_found 0 (cut (part p w.from w.to))
data_found p None = []

-- of a payload: each key's, then those of the pieces
unfoldable pub found_in : List ℕ → List Finding
found_in p =
    key_found p K.Route
    ++ (key_found p K.Offset
    ++ (key_found p K.Error ++ (key_found p K.Config ++ (key_found p K.Unplug ++ data_found p (data_span p)))))

-- of a line whose payload stands at a place; nothing of one that has no payload
unfoldable pub found_at : List ℕ → Told Place → List Finding
found_at t (is place) = found_in (part t place.from place.to)
found_at t absent = []
found_at t (refused k) = []

-- the unreadable numbers of a line
unfoldable pub findings : List ℕ → List Finding
findings t = found_at t (payload_place t)

-- ---- what is asked of callers

-- a bad digit is in a text of n bytes
abbrev pub ReadingWithin : Result ℕ BadNumber → ℕ → Type 0
ReadingWithin reading n = (k : ℕ) → reading ≡ Err (BadNumber.BadDigit k) → k < n
