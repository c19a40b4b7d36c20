-- What the calls of `field` say of a field, over its description: its name, its bit ranges, the names of their values, and where they stand.
-- Assumes nothing.
use Rattle.std.specs.Prelude.{ℕ, ◌+◌, ◌≤◌, ◌≡◌, List, [], ◌∷◌, ◌++◌, ◌⊎◌, length, None, Option, Some}
use Rattle.book.specs.Grammar.{text_of, Value, Range, Table}
use Rattle.text.specs.Told.{Told, is, absent, refused}
use Rattle.tlv.specs.Reading.{between}
use Rattle.field.specs.declared.Field.{Field}
use Rattle.field.specs.declared.Span.{Span}
use Rattle.field.specs.declared.Range.{Range as RangeAnswer}
use Rattle.field.specs.Ranges.{field_name, range_count, nth_range, range_named, range_name, value_place, value_name}
use Rattle.meaning.specs.First.{NoneOf, First}
use Rattle.meaning.specs.Packet.{Description, ranges_of, value_of, ValueNumbered}
use Rattle.meaning.specs.Places.{RangeStands, ValueStands}

-- the name of a field, empty for none
abbrev pub NameOf : Option Description → List ℕ → Type 0
NameOf (Some d) name = name ≡ text_of d.entry.name
NameOf None name = name ≡ []

-- how many bit ranges it has
abbrev pub RangeCount : Option Description → ℕ → Type 0
RangeCount o n = n ≡ length (ranges_of o)

module _ (tables : List Table) (o : Option Description) (dword : ℕ) where
  -- a bit range of the field, behind those before it: its bits, its value in the field's dword, and its place
  pub record IsRange (ranges-before : List Range) (range : Range) (r : RangeAnswer) : Type 0 where
    pub description : Description
    pub description_is : o ≡ Some description
    pub low_is : r.low ≡ range.low
    pub high_is : r.high ≡ range.high
    pub value_is : r.value ≡ value_of range dword
    pub stands : RangeStands tables description ranges-before r.place.at

  -- the bit range with k before it
  pub record NthRange (k : ℕ) (r : RangeAnswer) : Type 0 where
    pub before : List Range
    pub range : Range
    pub behind : List Range
    pub among : ranges_of o ≡ before ++ (range ∷ behind)
    pub so_many : length before ≡ k
    pub is : IsRange before range r

  abbrev pub RangeAt : ℕ → Told RangeAnswer → Type 0
  RangeAt k (is r) = NthRange k r
  RangeAt k absent = length (ranges_of o) ≤ k
  RangeAt k (refused n) = ⊥

  -- the first bit range of a name
  pub record FirstNamed (name : List ℕ) (r : RangeAnswer) : Type 0 where
    pub range : Range
    pub first : First (λ q. q.name ≡ name) (ranges_of o) range
    pub is : IsRange first.before range r

  abbrev pub RangeOfName : List ℕ → Told RangeAnswer → Type 0
  RangeOfName name (is r) = FirstNamed name r
  RangeOfName name absent = NoneOf (λ q. q.name ≡ name) (ranges_of o)
  RangeOfName name (refused n) = ⊥

-- the place of a number among the values of a range
pub record NumberedAt (tables : List Table) (d : Description) (ranges-before : List Range) (range : Range) (number place : ℕ) : Type 0 where
  pub value : Value
  pub first : First (λ w. w.number ≡ number) range.values value
  pub stands : ValueStands tables d ranges-before range first.before place

-- 0 where it has none
abbrev pub NumberPlace : List Table → Description → List Range → Range → ℕ → ℕ → Type 0
NumberPlace tables d ranges-before range number place =
    NumberedAt tables d ranges-before range number place ⊎ (ValueNumbered range number None × (place ≡ 0))

-- the name of a number among the values of a range, empty where it has none
abbrev pub NumberName : Range → ℕ → List ℕ → Type 0
NumberName range number name =
    ((v : Value) × ValueNumbered range number (Some v) × (name ≡ v.name)) ⊎ (ValueNumbered range number None × (name ≡ []))

-- where a name stands, so many bytes behind the place of what it names: 8 behind that of an entry or a range (tag and length, offset or bits, tag
-- and length of the name), 7 behind that of a value (tag and length, number); at 0 with no byte for none
abbrev pub SpanOf : ℕ → ℕ → List ℕ → Span → Type 0
SpanOf behind place [] span = (span.at ≡ 0) × (span.len ≡ 0)
SpanOf behind place (b ∷ name) span = (span.at ≡ place + behind) × (span.len ≡ length (b ∷ name))

-- ---- the calls

-- of a field: its name, how many bit ranges it has, the k-th of them, and the first of a name
pub record FieldSays (s : List ℕ) (tables : List Table) (o : Option Description) (f : Field) : Type 0 where
  pub name_is : NameOf o (field_name s f)
  pub count_is : RangeCount o (range_count s f)
  pub nth_is : (k : ℕ) → RangeAt tables o f.value k (nth_range s f k)
  pub named_is : (name : List ℕ) → RangeOfName tables o f.value name (range_named s f name)

-- of a bit range that a field answered: its name, the name of its value, and the place of any number among its values
pub record RangeSays (s : List ℕ) (tables : List Table) (d : Description) (before : List Range) (range : Range) (r : RangeAnswer) : Type 0 where
  pub name_is : range_name s r ≡ range.name
  pub value_name_is : NumberName range r.value (value_name s r)
  pub value_place_is : (number : ℕ) → NumberPlace tables d before range number (value_place s r.place.at number)

-- of a place: where the name stands of the entry, range or value there, and that its bytes are the name
pub record NameSays (s : List ℕ) (behind place : ℕ) (name : List ℕ) (span : Span) : Type 0 where
  pub span_is : SpanOf behind place name span
  pub bytes_are : between s span.at (span.at + span.len) ≡ name
