-- The finders, as functions of places: a table, an entry, a range or a value is the place of its tag byte in the book.
-- Assumes nothing.
use Rattle.std.specs.Prelude.{IfSome, ◌≤◌, ℕ, zero, suc, ◌+◌, ◌<◌, ◌≡◌, cond, List, [], ◌∷◌, ◌++◌, map, eqb, length, get_or, take, drop, None, Option, Some}
use Rattle.text.specs.Part.{Slice, OwnText}
use Rattle.tlv.specs.Grammar.{Piece, fields_bytes, All}
use Rattle.tlv.specs.Reading.{Part, Stands, between, piece_of, field_at, parts}
use Rattle.book.specs.declared.Uuid.{Uuid}
use Rattle.book.specs.declared.seek.Want.{Want}
use Rattle.book.specs.declared.seek.Want.TheVariants as W
use Rattle.book.specs.Search.{at_field, after, name_at, type_at, first_wanted}

-- ---- what is meant

module _ (s : List ℕ) {X : Type 0} (piece : X → Piece) where
  -- the field of a value stands at a place of the text
  pub record StandsAt (x : X) (place : ℕ) : Type 0 where
    pub part : Part
    pub stands : Stands s part
    pub is : piece x ≡ piece_of s part
    pub here : part.at ≡ place

  -- of the values that a text ends with the first that is so: none before it is, and from the place on the text is made from it and those
  -- behind it
  pub record FirstSo (So : X → Type 0) (xs : List X) (place : ℕ) : Type 0 where
    pub before : List X
    pub value : X
    pub behind : List X
    pub among : xs ≡ before ++ (value ∷ behind)
    pub so : So value
    pub none_before : All (λ x. So x → ⊥) before
    pub rest : drop place s ≡ fields_bytes (map piece (value ∷ behind))

  -- an answer by place: 0 just where none is so, else the place of the first that is
  pub record Finds (So : X → Type 0) (xs : List X) (answer : ℕ) : Type 0 where
    pub none : answer ≡ 0 → All (λ x. So x → ⊥) xs
    pub first : 0 < answer → FirstSo So xs answer

-- ---- the one answer

-- a place for an answer, 0 for nothing
abbrev pub place_of : Option ℕ → ℕ
place_of (Some p) = p
place_of None = 0

-- what a finder answers: nothing where 0 is told, else the place that is told, which is not 0 and no place past the text
pub record Locates (n told : ℕ) (r : Option ℕ) : Type 0 where
  pub is : place_of r ≡ told
  pub stands : IfSome r (λ p. (0 < p) × (p ≤ n))

-- where the fields inside a body start: behind the kind byte, behind the UUID, behind name and type, behind the name
unfoldable pub inner_from : ℕ → List ℕ → ℕ → ℕ
inner_from tag s from =
    cond (eqb tag 1) (from + 1)
    (cond (eqb tag 2) (from + 16)
    (cond (eqb tag 3) (after 5 s (after 4 s (from + 2)))
    (cond (eqb tag 6) (after 4 s (from + 2))
    (length s))))

-- the first wanted field inside the field at a place
unfoldable pub seek_of : Want → List ℕ → List ℕ → ℕ → Option ℕ
seek_of want key s place =
    at_field (λ tag from to. first_wanted want key (take to s) (inner_from tag (take to s) from)) None (field_at s place)

-- how many fields stand inside the field at a place
unfoldable pub count_inside : List ℕ → ℕ → ℕ
count_inside s place =
    at_field (λ tag from to. length (parts (take to s) (inner_from tag (take to s) from))) 0 (field_at s place)

-- the place of the field with so many before it, 0 for none
abbrev pub nth_place : ℕ → List Part → ℕ
nth_place k [] = 0
nth_place zero (p ∷ l) = p.at
nth_place (suc k) (p ∷ l) = nth_place k l

-- the field with so many before it inside the field at a place
unfoldable pub nth_inside : List ℕ → ℕ → ℕ → ℕ
nth_inside s place k =
    at_field (λ tag from to. nth_place k (parts (take to s) (inner_from tag (take to s) from))) 0 (field_at s place)

-- the control table of a kind
abbrev pub control_table : List ℕ → ℕ → Option ℕ
control_table s kind = first_wanted (W.Kind kind) [] s 0

-- the table of a UUID; the all-zero UUID's is the header table
abbrev pub uuid_table : List ℕ → Uuid → Option ℕ
uuid_table s uuid = first_wanted (W.Uuid uuid) [] s 0

-- the first entry of an offset in a table
abbrev pub entry_of_offset : List ℕ → ℕ → ℕ → ℕ
entry_of_offset s table offset = place_of (seek_of (W.Offset offset) [] s table)

-- the first entry of an offset and a type in a table, where the empty type is no type
abbrev pub entry_of_type : List ℕ → ℕ → ℕ → List ℕ → ℕ
entry_of_type s table offset type = place_of (seek_of (W.Typed offset) type s table)

-- how many entries a table has, of every offset and type
abbrev pub entry_count : List ℕ → ℕ → ℕ
entry_count s table = count_inside s table

-- the bit range of an entry with so many before it
abbrev pub nth_range : List ℕ → ℕ → ℕ → ℕ
nth_range s entry k = nth_inside s entry k

-- the first bit range of a name in an entry
abbrev pub range_of_name : List ℕ → ℕ → List ℕ → ℕ
range_of_name s entry name = place_of (seek_of W.Range name s entry)

-- the value of a number in a bit range
abbrev pub value_of_number : List ℕ → ℕ → ℕ → ℕ
value_of_number s range n = place_of (seek_of (W.Value n) [] s range)

-- the name of an entry, a bit range or a value, empty where it has none
unfoldable pub name_of : List ℕ → ℕ → List ℕ
name_of s place =
    at_field (λ tag from to. cond (eqb tag 7) (between s (from + 4) to) (name_at (take to s) from)) [] (field_at s place)

-- the type of an entry, empty where it has none
unfoldable pub type_of : List ℕ → ℕ → List ℕ
type_of s place = at_field (λ tag from to. type_at (take to s) from) [] (field_at s place)

-- ---- where a name lies

-- the bytes before a name: of a value tag, length and number; of an entry or a bit range tag, length, offset or bits, and the name's own tag and
-- length
abbrev pub before_name : ℕ → ℕ
before_name tag = cond (eqb tag 7) 7 8

-- where the name of what stands at a place lies, if it has one
abbrev pub name_place : List ℕ → ℕ → ℕ
name_place s place = place + before_name (get_or s place 0)

-- that name, the caller's own bytes of the book
abbrev pub OwnName : Slice → ℕ → List ℕ → Slice → Type 0
OwnName book place name part = OwnText book (name_place book.now place) name part

-- where the type of an entry lies, if it has one: behind offset and name, and behind its own tag and length
unfoldable pub type_place : List ℕ → ℕ → ℕ
type_place s place = at_field (λ tag from to. after 4 (take to s) (from + 2) + 3) 0 (field_at s place)
