-- Fields, as they are read: what stands at a place of a text, and the walk from field to field.
-- Assumes nothing.
use Rattle.std.specs.Prelude.{ℕ, zero, suc, ◌+◌, ◌*◌, ◌≡◌, Bool, true, false, cond, not, ◌&&◌, ◌||◌, List, [], ◌∷◌, leb, length, take, drop}
use Rattle.tlv.specs.declared.Step.{Step}
use Rattle.tlv.specs.declared.Step.TheVariants.{Field, Stray, Overrun, End}
use Rattle.tlv.specs.Grammar.{Piece}

-- what stands at the start of what is left of a text: nothing, a stray byte or two, or tag and length with a body that fits or does not
unfoldable pub step_from : ℕ → List ℕ → Step
step_from at [] = End
step_from at (tag ∷ []) = Stray
step_from at (tag ∷ low ∷ []) = Stray
step_from at (tag ∷ low ∷ high ∷ rest) =
    cond (leb (low + 256 * high) (length rest)) (Field tag (at + 3) (at + 3 + (low + 256 * high))) Overrun

-- what stands at a place of a text
unfoldable pub field_at : List ℕ → ℕ → Step
field_at s at = step_from at (drop at s)

-- the paper's number for what stands at a place: 31 where a field, its tag and length included, runs past the end; else 0, for none
abbrev pub refusal_of : Step → ℕ
refusal_of (Field tag from to) = 0
refusal_of Stray = 31
refusal_of Overrun = 31
refusal_of End = 0

-- a field of a text by its places: of its tag byte, of its body's start, and after its body
pub record Part : Type 0 where
  pub at : ℕ
  pub tag : ℕ
  pub from : ℕ
  pub to : ℕ

-- the part that starts at a place, with so many bytes of body
abbrev pub part_at : ℕ → ℕ → ℕ → Part
part_at at tag size = record { at = at; tag = tag; from = at + 3; to = at + 3 + size }

-- a part stands in a text: it is what the text has at its place
abbrev pub Stands : List ℕ → Part → Type 0
Stands s p = field_at s p.at ≡ Field p.tag p.from p.to

-- the bytes of a text from one place to another
abbrev pub between : List ℕ → ℕ → ℕ → List ℕ
between s from to = drop from (take to s)

-- what a part is made from
abbrev pub piece_of : List ℕ → Part → Piece
piece_of s p = record { tag = p.tag; body = between s p.from p.to }

module _ {A : Type 0} (each : Part → A → A) (end cut : A) where
  -- the walk over what is left of a text, with `skip` bytes of a body still to pass
  unfoldable pub walk_from : ℕ → ℕ → List ℕ → A
  walk_from zero at [] = end
  walk_from zero at (tag ∷ []) = cut
  walk_from zero at (tag ∷ low ∷ []) = cut
  walk_from zero at (tag ∷ low ∷ high ∷ rest) =
      cond (leb (low + 256 * high) (length rest))
      (each (part_at at tag (low + 256 * high)) (walk_from (low + 256 * high) (at + 3) rest))
      cut
  walk_from (suc skip) at [] = cut
  walk_from (suc skip) at (byte ∷ rest) = walk_from skip (suc at) rest

  -- the walk over the fields of a text from a place on: `each` joins a field to the answer for the rest; the answer for no field is `end`
  -- where the text ends, and `cut` where a field runs past its end
  unfoldable pub walk : List ℕ → ℕ → A
  walk s at = walk_from 0 at (drop at s)

-- the fields of a text from a place on, up to the first that is not whole
unfoldable pub parts : List ℕ → ℕ → List Part
parts = walk ◌∷◌ [] []

-- the fields from a place on fill the rest of the text exactly, and each passes a test
unfoldable pub filled : (Part → Bool) → List ℕ → ℕ → Bool
filled ok = walk (λ p rest. ok p && rest) true false

-- the fields from a place on fill the rest of the text exactly
abbrev pub fills : List ℕ → ℕ → Bool
fills = filled (λ p. true)

-- each element passes a test
abbrev pub all : {A : Type 0} → (A → Bool) → List A → Bool
all ok [] = true
all ok (x ∷ l) = ok x && all ok l

-- one of the elements passes a test
abbrev pub has : {A : Type 0} → (A → Bool) → List A → Bool
has ok [] = false
has ok (x ∷ l) = ok x || has ok l

-- no element is the same as a later one: nothing stands twice
abbrev pub once : {A : Type 0} → (A → A → Bool) → List A → Bool
once same [] = true
once same (x ∷ l) = not (has (same x) l) && once same l

-- the parts of pieces laid one after the other from a place on
unfoldable pub places : ℕ → List Piece → List Part
places at [] = []
places at (p ∷ ps) = part_at at p.tag (length p.body) ∷ places (at + 3 + length p.body) ps
