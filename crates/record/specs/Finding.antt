-- A field of a text by its tag, and its number: the first field with the tag, from place 3 on.
-- Assumes nothing.
use Rattle.std.specs.Prelude.{ℕ, ◌-◌, Bool, true, false, cond, List, [], ◌∷◌, eqb, None, Option, Some}
use Rattle.std.specs.Option.{unwrap_or}
use Rattle.tlv.specs.Number.{number}
use Rattle.tlv.specs.Reading.{Part, parts}
use Rattle.record.specs.declared.find.Span.{Span}
use Rattle.record.specs.declared.find.Place.{Place}

-- the body of the first of some fields that has a tag
unfoldable pub span_among : ℕ → List Part → Option Span
span_among tag [] = None
span_among tag (p ∷ ps) = cond (eqb p.tag tag) (Some (record { from = p.from; to = p.to })) (span_among tag ps)

-- the body of the record's field with a tag
unfoldable pub span_of : List ℕ → ℕ → Option Span
span_of t tag = span_among tag (parts t 3)

-- the field is there
abbrev pub is_there : Option Span → Bool
is_there (Some s) = true
is_there None = false

-- a body's place and length
abbrev pub place_at : Option Span → Place
place_at (Some s) = record { from = s.from; len = s.to - s.from }
place_at None = record { from = 0; len = 0 }

-- the number of k bytes at a body's start, none without a body
abbrev pub number_at : ℕ → List ℕ → Option Span → Option ℕ
number_at k t (Some s) = Some (number k t s.from)
number_at k t None = None

-- place, number, optional byte and optional word of the field with a tag
unfoldable pub place_of : List ℕ → ℕ → Place
place_of t tag = place_at (span_of t tag)

unfoldable pub maybe_of : ℕ → List ℕ → ℕ → Option ℕ
maybe_of k t tag = number_at k t (span_of t tag)

unfoldable pub number_of : ℕ → List ℕ → ℕ → ℕ
number_of k t tag = unwrap_or (maybe_of k t tag) 0

unfoldable pub byte_of : List ℕ → ℕ → Option ℕ
byte_of t tag = maybe_of 1 t tag

unfoldable pub word_of : List ℕ → ℕ → Option ℕ
word_of t tag = maybe_of 2 t tag
