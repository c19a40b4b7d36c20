-- Fields, as what bytes are made from. Nothing here searches: a field stands at a place, and fields fill a text.
-- Assumes nothing.
use Rattle.std.specs.Prelude.{ℕ, ◌+◌, ◌*◌, ◌/◌, ◌%◌, ◌<◌, ◌≡◌, List, [], ◌∷◌, ◌++◌, map, length}

-- what a field is made from: a tag and a body
pub record Piece : Type 0 where
  pub tag : ℕ
  pub body : List ℕ

-- the tag is a byte, and the body's length fits two bytes
pub record Sized (p : Piece) : Type 0 where
  pub tag_fits : p.tag < 256
  pub body_fits : length p.body < 65536

-- the bytes of a field: tag byte, two-byte length of the body, low byte first, body
unfoldable pub field_bytes : ℕ → List ℕ → List ℕ
field_bytes tag body = tag ∷ length body % 256 ∷ length body / 256 ∷ body

-- a field stands at a place of a text: before it a front of that length, then tag, two-byte length, body, and whatever comes after
pub record FieldAt (s : List ℕ) (at tag from to : ℕ) : Type 0 where
  pub front : List ℕ
  pub low : ℕ
  pub high : ℕ
  pub body : List ℕ
  pub back : List ℕ
  pub text : s ≡ front ++ (tag ∷ low ∷ high ∷ (body ++ back))
  pub place : length front ≡ at
  pub size : length body ≡ low + 256 * high
  pub start : from ≡ at + 3
  pub end : to ≡ from + length body

-- number 31: the text goes on at a place where no field stands, since one would run past the end, its tag and length included
pub record RunsPast (s : List ℕ) (at : ℕ) : Type 0 where
  pub goes_on : at < length s
  pub no_field : (tag from to : ℕ) → FieldAt s at tag from to → ⊥

-- the bytes of fields, one after the other
unfoldable pub fields_bytes : List Piece → List ℕ
fields_bytes [] = []
fields_bytes (p ∷ ps) = field_bytes p.tag p.body ++ fields_bytes ps

-- P holds of each element
abbrev pub All : {A : Type 0} → (A → Type 0) → List A → Type 0
All P [] = Unit {0}
All P (x ∷ l) = P x × All P l

-- R holds between no element and a later one: nothing stands twice
abbrev pub Apart : {A : Type 0} → (A → A → Type 0) → List A → Type 0
Apart R [] = Unit {0}
Apart R (x ∷ l) = All (λ y. R x y → ⊥) l × Apart R l

-- the fields of a text fill it exactly: it is the bytes of some pieces, and of nothing else
pub record Filled (text : List ℕ) : Type 0 where
  pub pieces : List Piece
  pub sized : All Sized pieces
  pub bytes : text ≡ fields_bytes pieces

module _ {X : Type 0} (piece : X → Piece) (Good : X → Type 0) where
  -- a piece is made from a value that is Good, where `piece` says what a value's field is made from
  pub record FromValue (p : Piece) : Type 0 where
    pub value : X
    pub good : Good value
    pub is : piece value ≡ p

  -- the fields of a text fill it exactly, and each is made from a value that is Good. In a text of bytes each tag and length fits by itself
  pub record Made (text : List ℕ) : Type 0 where
    pub values : List X
    pub good : All Good values
    pub bytes : text ≡ fields_bytes (map piece values)
