-- What the book says of one dword. An entry, a bit range or a value is the place of its tag byte in the book, and 0 is none.
-- Assumes nothing.
use Rattle.std.specs.Prelude.{ℕ, zero, suc, ◌+◌, Bool, true, false, not, ◌&&◌, List, [], ◌∷◌, eqb, get_or}
use Rattle.text.specs.Same.{same_text}
use Rattle.bits.specs.Range.{range_of}
use Rattle.book.specs.Finders.{name_of, range_of_name, value_of_number}
use Rattle.packet.specs.declared.field.Ask.{Ask}
use Rattle.packet.specs.declared.field.Ask.TheVariants.{Named, Holds}

-- the first of two places, unless it is none; then the second
abbrev pub or_else : ℕ → ℕ → ℕ
or_else zero q = q
or_else (suc p) q = suc p

-- what is found inside a place, and nothing inside none
abbrev pub inside : (ℕ → ℕ) → ℕ → ℕ
inside find zero = 0
inside find (suc p) = find (suc p)

-- the name of what stands at a place, empty for none
abbrev pub name_in : List ℕ → ℕ → List ℕ
name_in s zero = []
name_in s (suc p) = name_of s (suc p)

-- the first bit range of a name in an entry
unfoldable pub range_in : List ℕ → List ℕ → ℕ → ℕ
range_in s name entry = inside (λ e. range_of_name s e name) entry

-- a range's value: the dword shifted down by the low bit, cut to high - low + 1 bits
unfoldable pub value_in : List ℕ → ℕ → ℕ → ℕ
value_in s range dword = range_of dword (get_or s (range + 3) 0) (get_or s (range + 4) 0)

-- the value of a bit range in a dword, where the book names it
unfoldable pub named_in : List ℕ → ℕ → ℕ → ℕ
named_in s range dword = inside (λ r. value_of_number s r (value_in s r dword)) range

-- the name is one: it has a byte
abbrev pub some_byte : List ℕ → Bool
some_byte [] = false
some_byte (b ∷ name) = true

-- an entry has that name, or holds a bit range of that name
unfoldable pub asks : Ask → List ℕ → List ℕ → ℕ → Bool
asks Named s name entry = some_byte name && same_text (name_in s entry) name
asks Holds s name entry = not (eqb (range_in s name entry) 0)
