-- One reading: bytes that were made from a value at any level are read as that value, so two values of the same bytes are one. Assumes nothing.
use Prim.Native.Nat.{ℕ, ◌+◌}
use mathlib.Core.Path.{◌≡◌, ◌∙◌, sym, ap, refl}
use mathlib.Core.List.{List, ◌++◌, map}
use lib.ListN.{drop}
use Rattle.tlv.specs.Number.{number_bytes}
use Rattle.tlv.specs.Grammar.{Piece, fields_bytes, All, Made}
use Rattle.tlv.proofs.Numbers.{number_made}
use Rattle.tlv.proofs.Pieces.{one_reading}
use Rattle.book.specs.Grammar.{
  Value,
  GoodValue,
  value_piece,
  Range,
  GoodRange,
  range_piece,
  Entry,
  GoodEntry,
  entry_piece,
  Owner,
  owner_bytes,
  Table,
  GoodTable,
  table_piece,
  IsBook,
}
use Rattle.book.proofs.Inside.{number_back}
use Rattle.book.proofs.Ranges.{ReadRange, range_reads}
use Rattle.book.proofs.Entries.{ReadEntry, entry_reads, same_option, behind_offset}
use Rattle.book.proofs.Tables.{owner_size, owner_reads, one_owner, owner_back}

-- values that are told apart by their pieces are told apart in a row
one_row : {X : Type 0} (piece : X → Piece) (Good : X → Type 0)
    → ((x y : X) → Good x → Good y → piece x ≡ piece y → x ≡ y)
    → (xs ys : List X) → All Good xs → All Good ys → fields_bytes (map piece xs) ≡ fields_bytes (map piece ys) → xs ≡ ys
one_row {X} piece Good apart xs ys g h e =
    let m : Made piece Good (fields_bytes (map piece xs)) = record { values = xs; good = g; bytes = refl } in
    let n : Made piece Good (fields_bytes (map piece xs)) = record { values = ys; good = h; bytes = e } in
    one_reading piece Good apart m n

same_body : {p q : Piece} → p ≡ q → p.body ≡ q.body
same_body e = ap (λ (r : Piece). r.body) e

one_value : (v w : Value) → GoodValue v → GoodValue w → value_piece v ≡ value_piece w → v ≡ w
one_value v w g h e =
    let u : List ℕ = (value_piece v).body in
    let made : u ≡ number_bytes 4 w.number ++ w.name = same_body e in
    let numbers : v.number ≡ w.number =
    sym (number_made 4 v.number u 0 v.name g.number_fits refl) ∙ number_made 4 w.number u 0 w.name h.number_fits made in
    let names : v.name ≡ w.name = sym (number_back u 4 0 v.number v.name refl) ∙ number_back u 4 0 w.number w.name made in
    λ i. record { number = numbers i; name = names i }

one_range : (r q : Range) → GoodRange r → GoodRange q → range_piece r ≡ range_piece q → r ≡ q
one_range r q g h e =
    let u : List ℕ = (range_piece r).body in
    let a : ReadRange u 0 r = range_reads r u 0 refl in
    let b : ReadRange u 0 q = range_reads q u 0 (same_body e) in
    let values : r.values ≡ q.values =
    one_row value_piece GoodValue one_value r.values q.values g.values_good h.values_good (sym a.values_made ∙ b.values_made) in
    λ i. record {
      low = (sym a.low_is ∙ b.low_is) i;
      high = (sym a.high_is ∙ b.high_is) i;
      name = (sym a.name_is ∙ b.name_is) i;
      values = values i;
    }

one_entry : (d f : Entry) → GoodEntry d → GoodEntry f → entry_piece d ≡ entry_piece f → d ≡ f
one_entry d f g h e =
    let u : List ℕ = (entry_piece d).body in
    let made : u ≡ number_bytes 2 f.offset ++ behind_offset f = same_body e in
    let a : ReadEntry u 0 d = entry_reads d u 0 g refl in
    let b : ReadEntry u 0 f = entry_reads f u 0 h made in
    let offset : d.offset ≡ f.offset =
    sym (number_made 2 d.offset u 0 (behind_offset d) g.offset_fits refl)
    ∙ number_made 2 f.offset u 0 (behind_offset f) h.offset_fits made in
    let name : d.name ≡ f.name =
    same_option d.name f.name g.name_good h.name_good (sym a.name_read.text ∙ b.name_read.text) in
    let type : d.type ≡ f.type =
    same_option d.type f.type g.type_good h.type_good (sym a.type_read.text ∙ b.type_read.text) in
    let ranges : d.ranges ≡ f.ranges =
    one_row range_piece GoodRange one_range d.ranges f.ranges g.ranges_good h.ranges_good
    (sym a.type_read.rest ∙ b.type_read.rest) in
    λ i. record { offset = offset i; name = name i; type = type i; ranges = ranges i }

one_table : (t v : Table) → GoodTable t → GoodTable v → table_piece t ≡ table_piece v → t ≡ v
one_table t v g h e =
    let u : List ℕ = (table_piece t).body in
    let back : List ℕ = fields_bytes (map entry_piece t.entries) in
    let back' : List ℕ = fields_bytes (map entry_piece v.entries) in
    let made : u ≡ owner_bytes v.owner back' = same_body e in
    let owner : t.owner ≡ v.owner =
    one_owner t.owner v.owner (table_piece t).tag u 0
    (owner_reads t.owner (table_piece t).tag u 0 back g.owner_good refl refl)
    (owner_reads v.owner (table_piece t).tag u 0 back' h.owner_good (ap (λ (p : Piece). p.tag) e) made) in
    let entries : t.entries ≡ v.entries =
    one_row entry_piece GoodEntry one_entry t.entries v.entries g.entries_good h.entries_good
    (sym (owner_back t.owner u 0 back refl)
    ∙ ap (λ (o : Owner). drop (0 + owner_size o) u) owner
    ∙ owner_back v.owner u 0 back' made) in
    λ i. record { owner = owner i; entries = entries i }

-- one reading: a book is made from one list of tables
pub one_book : {s : List ℕ} (b c : IsBook s) → b.tables ≡ c.tables
one_book b c =
    one_row table_piece GoodTable one_table b.tables c.tables b.tables_good c.tables_good (sym b.bytes ∙ c.bytes)
