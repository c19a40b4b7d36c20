-- The thirteen keys of a payload in one table.
use Rattle.std.specs.Prelude.{ℕ, suc, ◌-◌, ◌^◌, Bool, true, false, cond, List, [], ◌∷◌, length, get_or}
use Rattle.text.specs.Quote.{bytes}
use Rattle.text.specs.Same.{same_text}
use Rattle.pairs.specs.declared.keys.Form.{Form}
use Rattle.pairs.specs.declared.keys.Form.TheVariants.{Text, Decimal, Hex, Dwords}

-- a row: the key's name, what its value is read as, and whether a line must have it
pub record Row : Type 0 where
  pub name : List ℕ
  pub form : Form
  pub required : Bool

-- a key that a line must have, and one that it may have
abbrev pub must : List ℕ → Form → Row
must name form = record { name = name; form = form; required = true }

abbrev pub may : List ℕ → Form → Row
may name form = record { name = name; form = form; required = false }

-- the table: first the keys that a line must have, by the numbers 11 to 15 of a line without them
unfoldable pub keys : List Row
keys =
    must (bytes "type") Text
    ∷ must (bytes "size") (Decimal (2 ^ 16 - 1))
    ∷ must (bytes "domain") (Decimal (2 ^ 32 - 1))
    ∷ must (bytes "route") (Hex (2 ^ 64 - 1))
    ∷ must (bytes "data") Dwords
    ∷ may (bytes "offset") (Hex (2 ^ 16 - 1))
    ∷ may (bytes "error") (Hex (2 ^ 8 - 1))
    ∷ may (bytes "len") (Decimal (2 ^ 16 - 1))
    ∷ may (bytes "port") (Decimal (2 ^ 8 - 1))
    ∷ may (bytes "config") (Hex (2 ^ 8 - 1))
    ∷ may (bytes "seq") (Decimal (2 ^ 8 - 1))
    ∷ may (bytes "unplug") (Hex (2 ^ 8 - 1))
    ∷ may (bytes "dropped") (Decimal (2 ^ 8 - 1))
    ∷ []

-- a row of a table by its place; behind the last nothing is asked
abbrev pub row_in : List Row → ℕ → Row
row_in qs k = get_or qs k (may [] Text)

-- a row of the table
unfoldable pub row_at : ℕ → Row
row_at k = row_in keys k

-- what a name is: its key's row, and what the key's value is read as
pub record Key : Type 0 where
  pub row : ℕ
  pub form : Form

-- a row takes the name that is its own; any other stays what it is
abbrev pub row_takes : List ℕ → List ℕ → Key → Key → Key
row_takes name own key other = cond (same_text name own) key other

-- what a name is behind these rows, which are numbered from k on
unfoldable pub key_after : List ℕ → ℕ → List Row → Key → Key
key_after name k [] key = key
key_after name k (q ∷ qs) key = key_after name (suc k) qs (row_takes name q.name (record { row = k; form = q.form }) key)

-- a name that no row has stands behind the last
unfoldable pub unknown : Key
unknown = record { row = length keys; form = Text }

-- what a name is in the table
unfoldable pub key_named : List ℕ → Key
key_named name = key_after name 0 keys unknown
