-- The check of a book as one computed answer: level by level, fields fill a text exactly, each passes its level's test, and none stands twice.
-- Assumes nothing.
use Rattle.std.specs.Prelude.{ℕ, ◌+◌, Bool, true, cond, ◌&&◌, List, [], eqb, leb, length, get_or, take, drop}
use Rattle.text.specs.Told.{Told, is, refused}
use Rattle.tlv.specs.Number.{number}
use Rattle.tlv.specs.Reading.{Part, between, field_at, parts, filled, all, once}
use Rattle.book.specs.declared.seek.Want.TheVariants as W
use Rattle.book.specs.Search.{of_tag, body_at, after, type_at, wanted, table_want}

-- 1 to 255 bytes below 128
unfoldable pub is_name : List ℕ → Bool
is_name n = leb 1 (length n) && (leb (length n) 255 && all (λ b. leb b 127) n)

-- where a field of that tag stands at a place, its body is a name
unfoldable pub optional_name : ℕ → List ℕ → ℕ → Bool
optional_name tag s at = of_tag tag (λ from to. is_name (between s from to)) true (field_at s at)

-- a field of that tag whose body passes a test; a body is given by the text up to its end, and the place of its start
abbrev pub field_ok : ℕ → (List ℕ → ℕ → Bool) → List ℕ → Part → Bool
field_ok tag body s p = eqb p.tag tag && body (take p.to s) p.from

-- four-byte value, then its name
unfoldable pub value_body : List ℕ → ℕ → Bool
value_body s from = leb (from + 4) (length s) && is_name (drop (from + 4) s)

-- the same value
unfoldable pub same_value : List ℕ → Part → Part → Bool
same_value s p = wanted (W.Value (number 4 (take p.to s) p.from)) [] s

-- 7s fill the text from a place on, no value twice
unfoldable pub values_fill : List ℕ → ℕ → Bool
values_fill s at = filled (field_ok 7 value_body s) s at && once (same_value s) (parts s at)

-- low byte and high byte, low ≤ high ≤ 31, one 4, then 7s
unfoldable pub range_body : List ℕ → ℕ → Bool
range_body s from =
    leb (from + 2) (length s)
    && (leb (get_or s from 0) (get_or s (from + 1) 0)
    && (leb (get_or s (from + 1) 0) 31
    && (is_name (body_at 4 s (from + 2)) && values_fill s (after 4 s (from + 2)))))

-- 6s fill the text from a place on
unfoldable pub ranges_fill : List ℕ → ℕ → Bool
ranges_fill s at = filled (field_ok 6 range_body s) s at

-- two-byte offset, then at most one 4, at most one 5, then 6s
unfoldable pub entry_body : List ℕ → ℕ → Bool
entry_body s from =
    let name : ℕ = from + 2 in
    let type : ℕ = after 4 s name in
    leb name (length s) && (optional_name 4 s name && (optional_name 5 s type && ranges_fill s (after 5 s type)))

-- the same offset and type
unfoldable pub same_entry : List ℕ → Part → Part → Bool
same_entry s p = wanted (W.Typed (number 2 (take p.to s) p.from)) (type_at (take p.to s) p.from) s

-- 3s fill the text from a place on, no offset and type twice
unfoldable pub entries_fill : List ℕ → ℕ → Bool
entries_fill s at = filled (field_ok 3 entry_body s) s at && once (same_entry s) (parts s at)

-- kind byte 1 to 12, then entries
unfoldable pub control_body : List ℕ → ℕ → Bool
control_body s from =
    leb (from + 1) (length s) && (leb 1 (get_or s from 0) && (leb (get_or s from 0) 12 && entries_fill s (from + 1)))

-- four dwords of a UUID, then entries
unfoldable pub uuid_body : List ℕ → ℕ → Bool
uuid_body s from = leb (from + 16) (length s) && entries_fill s (from + 16)

-- tag 1: control table; tag 2: a UUID's table
unfoldable pub table_body : ℕ → List ℕ → ℕ → Bool
table_body tag s from = cond (eqb tag 1) (control_body s from) (eqb tag 2 && uuid_body s from)

abbrev pub table_ok : List ℕ → Part → Bool
table_ok s p = table_body p.tag (take p.to s) p.from

-- the same kind's or the same UUID's table
unfoldable pub same_table : List ℕ → Part → Part → Bool
same_table s p = wanted (table_want (take p.to s) p.tag p.from) [] s

-- tables fill the text, no kind's and no UUID's twice
unfoldable pub tables_fill : List ℕ → ℕ → Bool
tables_fill s at = filled (table_ok s) s at && once (same_table s) (parts s at)

-- accepted: there is no more to tell
abbrev pub accepted : Told (Unit {0})
accepted = is tt

-- accepted, or number 20
unfoldable pub check_of : List ℕ → Told (Unit {0})
check_of s = cond (leb (length s) 65535 && tables_fill s 0) accepted (refused 20)
