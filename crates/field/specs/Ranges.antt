-- What the book says of a field: its name, its bit ranges, and the names of their values. A text is empty for none.
-- Assumes nothing.
use Rattle.std.specs.Prelude.{ℕ, zero, suc, ◌+◌, List, get_or}
use Rattle.text.specs.Told.{Told, is, absent}
use Rattle.book.specs.Finders as finders
use Rattle.packet.specs.Field as dword
use Rattle.field.specs.declared.Field.{Field}
use Rattle.field.specs.declared.Range.{Range}
use Rattle.field.specs.Source.{entry_of}

-- the name of a field
unfoldable pub field_name : List ℕ → Field → List ℕ
field_name s field = dword.name_in s (entry_of field)

-- how many bit ranges a field has
unfoldable pub range_count : List ℕ → Field → ℕ
range_count s field = dword.inside (finders.count_inside s) (entry_of field)

-- the bit range at a place: low bit, high bit, and the value of the dword between them; none at place 0
unfoldable pub range_at : List ℕ → ℕ → ℕ → Told Range
range_at s zero value = absent
range_at s (suc p) value =
    is
    (record {
      low = get_or s (suc p + 3) 0;
      high = get_or s (suc p + 4) 0;
      value = dword.value_in s (suc p) value;
      place = record { at = suc p };
    })

-- the bit range with so many before it
unfoldable pub nth_range : List ℕ → Field → ℕ → Told Range
nth_range s field k = range_at s (dword.inside (λ e. finders.nth_range s e k) (entry_of field)) field.value

-- of one name the first counts
unfoldable pub range_named : List ℕ → Field → List ℕ → Told Range
range_named s field name = range_at s (dword.range_in s name (entry_of field)) field.value

-- the name of a bit range
unfoldable pub range_name : List ℕ → Range → List ℕ
range_name s range = dword.name_in s range.place.at

-- the place of a number among the values of a bit range, 0 for none
unfoldable pub value_place : List ℕ → ℕ → ℕ → ℕ
value_place s range number = dword.inside (λ r. finders.value_of_number s r number) range

-- the name of a bit range's value
unfoldable pub value_name : List ℕ → Range → List ℕ
value_name s range = dword.name_in s (value_place s range.place.at range.value)
