-- The rows of the record as the code holds them, and the size of the record.
-- Assumes nothing.
use Rattle.std.specs.Prelude.{ℕ, ◌+◌, ◌*◌, ◌/◌, ◌%◌, ◌<◌, List, [], ◌∷◌, ◌++◌, length, IfSome, None, Option, Some}
use Rattle.std.specs.Option.{option_map}
use Rattle.tlv.specs.Number.{number_bytes}
use Rattle.tlv.specs.Grammar.{field_bytes}
use Rattle.entry.specs.declared.Entry.{Entry}
use Rattle.record.specs.Grammar.{dwords_bytes}
use Rattle.record.specs.Grammar as Grammar
use Rattle.record.specs.Rule.{bytes_of}
use Rattle.writer.specs.declared.item.Item.{Item}
use Rattle.writer.specs.declared.item.Item.TheVariants as I
use Rattle.writer.specs.declared.item.Row.{Row}

-- what a body is
abbrev pub body_of : Item → List ℕ
body_of (I.Text s) = s.now
body_of (I.Number width n) = number_bytes (bytes_of width) n
body_of (I.Dwords ds) = dwords_bytes ds.now

-- a row of the record's grammar
abbrev pub row_of : Row → Grammar.Row
row_of r = record { tag = r.tag; body = option_map body_of r.item }

-- a row's body, where there is one, has a length that fits two bytes
abbrev pub Short : Grammar.Row → Type 0
Short r = IfSome r.body (λ body. length body < 65536)

-- tag and length of a field
unfoldable pub head_bytes : ℕ → ℕ → List ℕ
head_bytes tag size = tag ∷ size % 256 ∷ size / 256 ∷ []

-- a field's bytes, none where it is absent
abbrev pub field_for : ℕ → Option (List ℕ) → List ℕ
field_for tag None = []
field_for tag (Some body) = field_bytes tag body

unfoldable pub row_bytes : Grammar.Row → List ℕ
row_bytes r = field_for r.tag r.body

-- the bytes of rows, one behind the other
unfoldable pub rows_bytes : List Grammar.Row → List ℕ
rows_bytes [] = []
rows_bytes (r ∷ rs) = row_bytes r ++ rows_bytes rs

-- the size of an optional field
abbrev pub optional_size : {A : Type 0} → Option A → ℕ → ℕ
optional_size (Some a) size = size
optional_size None size = 0

-- the size of the record
unfoldable pub record_size : Entry → ℕ
record_size e =
    77 + e.task_len + e.function_len + 4 * e.dwords
    + (optional_size e.offset 5 + optional_size e.len 5)
    + (optional_size e.code 4 + optional_size e.port 4 + optional_size e.config 4)
    + (optional_size e.seq 4 + optional_size e.unplug 4)
