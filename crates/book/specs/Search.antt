-- What a search is for, and its one answer: the first field of a text that is wanted.
-- Assumes nothing.
use Rattle.std.specs.Prelude.{ℕ, ◌+◌, Bool, cond, ◌&&◌, List, [], eqb, get_or, take, None, Option, Some}
use Rattle.text.specs.Same.{same_text}
use Rattle.tlv.specs.declared.Step.{Step}
use Rattle.tlv.specs.declared.Step.TheVariants.{Field, Stray, Overrun, End}
use Rattle.tlv.specs.Number.{number}
use Rattle.tlv.specs.Reading.{Part, between, field_at, walk, parts, has}
use Rattle.book.specs.declared.Uuid.{Uuid}
use Rattle.book.specs.declared.seek.Want.{Want}
use Rattle.book.specs.declared.seek.Want.TheVariants as W

-- what is told of a field by its tag and its body's places, and what is told where none stands
abbrev pub at_field : {A : Type 0} → (ℕ → ℕ → ℕ → A) → A → Step → A
at_field told other (Field tag from to) = told tag from to
at_field told other Stray = other
at_field told other Overrun = other
at_field told other End = other

-- what is told of a field of a given tag, and what is told where another stands or none
abbrev pub of_tag : {A : Type 0} → ℕ → (ℕ → ℕ → A) → A → Step → A
of_tag tag told other = at_field (λ t from to. cond (eqb t tag) (told from to) other) other

-- the body of the field of that tag at a place, empty where none stands there
unfoldable pub body_at : ℕ → List ℕ → ℕ → List ℕ
body_at tag s at = of_tag tag (between s) [] (field_at s at)

-- the place behind the field of that tag at a place, the place itself where none stands there
unfoldable pub after : ℕ → List ℕ → ℕ → ℕ
after tag s at = of_tag tag (λ from to. to) at (field_at s at)

-- the name of an entry or a range whose body starts at a place, empty where it has none
unfoldable pub name_at : List ℕ → ℕ → List ℕ
name_at s from = body_at 4 s (from + 2)

-- the type of an entry whose body starts at a place, empty where it has none
unfoldable pub type_at : List ℕ → ℕ → List ℕ
type_at s from = body_at 5 s (after 4 s (from + 2))

-- the four dwords of a UUID from a place on
abbrev pub uuid_at : List ℕ → ℕ → Uuid
uuid_at s from =
    record {
      first = number 4 s from;
      second = number 4 s (from + 4);
      third = number 4 s (from + 8);
      fourth = number 4 s (from + 12);
    }

-- the same four dwords
unfoldable pub same_uuid : Uuid → Uuid → Bool
same_uuid u v =
    eqb u.first v.first && (eqb u.second v.second && (eqb u.third v.third && eqb u.fourth v.fourth))

-- the tag of what is wanted
abbrev pub tag_of : Want → ℕ
tag_of (W.Kind k) = 1
tag_of (W.Uuid u) = 2
tag_of (W.Offset o) = 3
tag_of (W.Typed o) = 3
tag_of W.Range = 6
tag_of (W.Value v) = 7

-- a field of that tag is what is wanted, by its body, which starts at a place and ends with the text
unfoldable pub fits : Want → List ℕ → List ℕ → ℕ → Bool
fits (W.Kind k) key s from = eqb (get_or s from 0) k
fits (W.Uuid u) key s from = same_uuid (uuid_at s from) u
fits (W.Offset o) key s from = eqb (number 2 s from) o
fits (W.Typed o) key s from = eqb (number 2 s from) o && same_text (type_at s from) key
fits W.Range key s from = same_text (name_at s from) key
fits (W.Value v) key s from = eqb (number 4 s from) v

-- a field is wanted
unfoldable pub wanted : Want → List ℕ → List ℕ → Part → Bool
wanted want key s p = eqb p.tag (tag_of want) && fits want key (take p.to s) p.from

-- the first field from a place on that passes a test, by the place of its tag byte
unfoldable pub first_part : (Part → Bool) → List ℕ → ℕ → Option ℕ
first_part ok = walk (λ p later. cond (ok p) (Some p.at) later) None None

-- the first field from a place on that is wanted
unfoldable pub first_wanted : Want → List ℕ → List ℕ → ℕ → Option ℕ
first_wanted want key s at = first_part (wanted want key s) s at

-- one of the fields from a place on is wanted
unfoldable pub has_wanted : Want → List ℕ → List ℕ → ℕ → Bool
has_wanted want key s at = has (wanted want key s) (parts s at)

-- whose table a field is: of a kind by tag 1, else of a UUID
unfoldable pub table_want : List ℕ → ℕ → ℕ → Want
table_want s tag from = cond (eqb tag 1) (W.Kind (get_or s from 0)) (W.Uuid (uuid_at s from))
