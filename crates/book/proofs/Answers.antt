-- The finders on a book of the grammar: each answers the first table, entry, range or value that document 01 names, and what it reads there is
-- the value's own. The field at a place is the value's, what stands inside it is made from the values inside, and a search finds the first.
-- Assumes nothing.
use Rattle.std.specs.Prelude.{None, Option, Some}
use Prim.Native.Nat.{ℕ, zero, suc, ◌+◌, ◌≤◌, ◌<◌}
use mathlib.Core.Path.{◌≡◌, ◌∙◌, sym, ap, subst, refl}
use mathlib.Core.Bool.{Bool, true, false, cond, ◌&&◌}
use mathlib.Core.List.{List, [], ◌∷◌, ◌++◌, map}
use native.Mathlib.Nat.{add-zero}
use native.Mathlib.Omega.{arith}
use borrow.Author.Tests.{eqb-true, eq-eqb}
use lib.Dec.{eqb}
use lib.ListN.{length, get_or, take, drop, length-take}
use lib.Seq.{get_or-take}
use Rattle.text.specs.Same.{same_text}
use Rattle.text.proofs.Texts.{same_refl, same_true}
use Rattle.tlv.specs.declared.Step.{Step}
use Rattle.tlv.specs.declared.Step.TheVariants.{Field, Stray, Overrun, End}
use Rattle.tlv.specs.Number.{number}
use Rattle.tlv.specs.Grammar.{Piece, fields_bytes, All}
use Rattle.tlv.specs.Reading.{Part, part_at, Stands, field_at, parts, places}
use Rattle.tlv.proofs.Fields.{Found as FieldFound, field_found}
use Rattle.tlv.proofs.Places.{made_number}
use Rattle.tlv.proofs.Pieces.{both_true, rest_empty, made_field, made_back, made_parts}
use Rattle.tlv.proofs.Walks.{parts_end, parts_field}
use Rattle.tlv.proofs.Twice.{PartOf}
use Rattle.book.specs.declared.Uuid.{Uuid}
use Rattle.book.specs.declared.seek.Want.{Want}
use Rattle.book.specs.declared.seek.Want.TheVariants as W
use Rattle.book.specs.Grammar.{
  Name,
  Optional,
  text_of,
  Value,
  GoodValue,
  value_piece,
  Range,
  GoodRange,
  range_piece,
  Entry,
  GoodEntry,
  entry_piece,
  Owner,
  kind,
  uuid,
  owner_tag,
  Table,
  GoodTable,
  table_piece,
  IsBook,
}
use Rattle.book.specs.Search.{of_tag, after, name_at, type_at, fits, wanted, first_wanted}
use Rattle.book.specs.Finders.{
  StandsAt,
  FirstSo,
  Finds,
  place_of,
  inner_from,
  seek_of,
  count_inside,
  entry_count,
  nth_range,
  nth_place,
  nth_inside,
  control_table,
  uuid_table,
  entry_of_offset,
  entry_of_type,
  range_of_name,
  value_of_number,
  name_of,
  type_of,
}
use Rattle.book.proofs.Inside.{number_back}
use Rattle.book.proofs.Values.{value_tag, value_number}
use Rattle.book.proofs.Ranges.{ReadRange, range_reads}
use Rattle.book.proofs.Entries.{behind_offset, ReadEntry, entry_reads, entry_tag, entry_offset, entry_type, same_option}
use Rattle.book.proofs.Tables.{owner_want, owner_size, owner_back, table_told, table_wanted}
use Rattle.book.proofs.Finding.{Says, search_is, finds_is}

-- ---- tables

module _ (s : List ℕ) (b : IsBook s) where
  table_search : (w : Owner) → Says table_piece GoodTable s (wanted (owner_want w) [] s) (λ t. t.owner ≡ w) b.tables (first_wanted (owner_want w) [] s 0)
  unfolding first_wanted
  table_search w =
      search_is table_piece GoodTable s (wanted (owner_want w) [] s) (λ t. t.owner ≡ w)
      (λ p t o h. table_told s p t o w h)
      (λ p t o h. table_wanted s p t o w h)
      0 (record { values = b.tables; good = b.tables_good; bytes = b.bytes })

  -- the table of a kind or a UUID: the first of the book's tables that belongs to it (no two do), or there is none
  pub table_is : (w : Owner) (place : ℕ) → first_wanted (owner_want w) [] s 0 ≡ Some place → FirstSo s table_piece (λ t. t.owner ≡ w) b.tables place
  table_is w place e = subst (Says table_piece GoodTable s (wanted (owner_want w) [] s) (λ t. t.owner ≡ w) b.tables) e (table_search w)

  pub table_none : (w : Owner) → first_wanted (owner_want w) [] s 0 ≡ None → All (λ t. t.owner ≡ w → ⊥) b.tables
  table_none w e = subst (Says table_piece GoodTable s (wanted (owner_want w) [] s) (λ t. t.owner ≡ w) b.tables) e (table_search w)

  pub control_table_is : (k place : ℕ) → control_table s k ≡ Some place → FirstSo s table_piece (λ t. t.owner ≡ kind k) b.tables place
  control_table_is k = table_is (kind k)

  pub control_table_none : (k : ℕ) → control_table s k ≡ None → All (λ t. t.owner ≡ kind k → ⊥) b.tables
  control_table_none k = table_none (kind k)

  pub uuid_table_is : (u : Uuid) (place : ℕ) → uuid_table s u ≡ Some place → FirstSo s table_piece (λ t. t.owner ≡ uuid u) b.tables place
  uuid_table_is u = table_is (uuid u)

  pub uuid_table_none : (u : Uuid) → uuid_table s u ≡ None → All (λ t. t.owner ≡ uuid u → ⊥) b.tables
  uuid_table_none u = table_none (uuid u)

-- what was found is good if all are
pub first_good : {X : Type 0} {s : List ℕ} {piece : X → Piece} {So : X → Type 0} (Good : X → Type 0) {xs : List X} {place : ℕ}
    (f : FirstSo s piece So xs place) → All Good xs → Good f.value
first_good {X} Good f g = among f.before (subst (All Good) f.among g)
  where
    among : (l : List X) → All Good (l ++ (f.value ∷ f.behind)) → Good f.value
    among [] a = a.0
    among (x ∷ l) a = among l a.1

-- ---- inside a field

-- the place behind a field is not before the field
pub after_up : (tag : ℕ) (u : List ℕ) (at : ℕ) → at ≤ after tag u at
unfolding after
after_up tag u at = by (field_at u at) refl
  where
    by : (r : Step) → field_at u at ≡ r → at ≤ of_tag tag (λ from to. to) at r
    by (Field t from to) e =
        either (eqb t tag)
      where
        either : (b : Bool) → at ≤ cond b to at
        either true = let f : FieldFound u at t from to = field_found u at e in omega arith
        either false = omega arith
    by Stray e = omega arith
    by Overrun e = omega arith
    by End e = omega arith

-- what stands inside a body does not start before it
pub inner_up : (tag : ℕ) (u : List ℕ) (from : ℕ) → from ≤ length u → from ≤ inner_from tag u from
unfolding inner_from
inner_up tag u from h = by (eqb tag 1) (eqb tag 2) (eqb tag 3) (eqb tag 6)
  where
    by : (a b c d : Bool)
        → from ≤ cond a (from + 1) (cond b (from + 16) (cond c (after 5 u (after 4 u (from + 2))) (cond d (after 4 u (from + 2)) (length u))))
    by true b c d = omega arith
    by false true c d = omega arith
    by false false true d =
        let one : from + 2 ≤ after 4 u (from + 2) = after_up 4 u (from + 2) in
        let two : after 4 u (from + 2) ≤ after 5 u (after 4 u (from + 2)) = after_up 5 u (after 4 u (from + 2)) in
        omega arith
    by false false false true = let one : from + 2 ≤ after 4 u (from + 2) = after_up 4 u (from + 2) in omega arith
    by false false false false = h

-- fields made from values, by their number
module _ {Y : Type 0} (piece : Y → Piece) (u : List ℕ) where
  nth_made : (before : List Y) (y : Y) (behind : List Y) (at : ℕ) → drop at u ≡ fields_bytes (map piece (before ++ (y ∷ behind)))
      → drop (nth_place (length before) (parts u at)) u ≡ fields_bytes (map piece (y ∷ behind))
  unfolding fields_bytes
  nth_made [] y behind at made =
      let q : Part = part_at at (piece y).tag (length (piece y).body) in
      let stands : Stands u q = made_field u at (piece y).tag (piece y).body (fields_bytes (map piece behind)) made in
      rw (parts_field u q stands) made
  nth_made (x ∷ before) y behind at made =
      let back : List ℕ = fields_bytes (map piece (before ++ (y ∷ behind))) in
      let q : Part = part_at at (piece x).tag (length (piece x).body) in
      let stands : Stands u q = made_field u at (piece x).tag (piece x).body back made in
      rw (parts_field u q stands) (nth_made before y behind q.to (made_back u at (piece x).tag (piece x).body back made))

  nth_past : (xs : List Y) (k at : ℕ) → length xs ≤ k → drop at u ≡ fields_bytes (map piece xs) → nth_place k (parts u at) ≡ 0
  unfolding fields_bytes
  nth_past [] k at h made = rw (parts_end u at (rest_empty u at made))
  nth_past (x ∷ xs) zero at h made = absurd (omega arith)
  nth_past (x ∷ xs) (suc k) at h made =
      let back : List ℕ = fields_bytes (map piece xs) in
      let q : Part = part_at at (piece x).tag (length (piece x).body) in
      let stands : Stands u q = made_field u at (piece x).tag (piece x).body back made in
      rw (parts_field u q stands)
      (nth_past xs k q.to (omega arith) (made_back u at (piece x).tag (piece x).body back made))

module _ {X : Type 0} (piece : X → Piece) (s : List ℕ) (x : X) (place : ℕ) (a : StandsAt s piece x place) where
  -- the field of a value, with the text up to its end
  body : List ℕ
  body = take a.part.to s

  body_is : drop a.part.from body ≡ (piece x).body
  unfolding body
  body_is = ap (λ (q : Piece). q.body) (sym a.is)

  tag_is : a.part.tag ≡ (piece x).tag
  tag_is = ap (λ (q : Piece). q.tag) (sym a.is)

  field_there : field_at s place ≡ Field (piece x).tag a.part.from a.part.to
  field_there =
      ap (field_at s) (sym a.here) ∙ a.stands ∙ ap (λ (t : ℕ). Field t a.part.from a.part.to) tag_is

  from_is : a.part.from ≡ place + 3
  from_is =
      let f : FieldFound s a.part.at a.part.tag a.part.from a.part.to = field_found s a.part.at a.stands in
      omega (arith, a.here)

  module _ {Y : Type 0} (piece' : Y → Piece) (Good' : Y → Type 0) (ys : List Y) (good : All Good' ys)
      (start : ℕ) (some : 0 < start) (starts : inner_from (piece x).tag body a.part.from ≡ start)
      (made : drop start body ≡ fields_bytes (map piece' ys)) where
    -- a search inside it finds the first of the values inside that is so
    seek_finds : (want : Want) (key : List ℕ) (So : Y → Type 0)
        → ((p : Part) (y : Y) → PartOf piece' Good' body p y → wanted want key body p ≡ true → So y)
        → ((p : Part) (y : Y) → PartOf piece' Good' body p y → So y → wanted want key body p ≡ true)
        → Finds body piece' So ys (place_of (seek_of want key s place))
    unfolding seek_of first_wanted body
    seek_finds want key So told wants =
        rw (field_there, starts)
        (finds_is piece' Good' body (wanted want key body) So ys start some
        (search_is piece' Good' body (wanted want key body) So told wants start (record { values = ys; good = good; bytes = made })))

    -- the field inside with so many before it is that of the value with so many before it
    nth_is : (before : List Y) (y : Y) (behind : List Y) → ys ≡ before ++ (y ∷ behind)
        → drop (nth_inside s place (length before)) body ≡ fields_bytes (map piece' (y ∷ behind))
    unfolding nth_inside body
    nth_is before y behind e =
        rw (field_there, starts) (nth_made piece' body before y behind start (made ∙ ap (λ (l : List Y). fields_bytes (map piece' l)) e))

    -- behind the last there is none
    nth_none : (k : ℕ) → length ys ≤ k → nth_inside s place k ≡ 0
    unfolding nth_inside body
    nth_none k h = rw (field_there, starts) (nth_past piece' body ys k start h made)

    -- as many fields stand inside as there are values
    count_is : count_inside s place ≡ length ys
    unfolding count_inside body places
    count_is = rw (field_there, starts, made_parts body (map piece' ys) start made) (as_many ys start)
      where
        as_many : (l : List Y) (at : ℕ) → length (places at (map piece' l)) ≡ length l
        as_many [] at = refl
        as_many (y ∷ l) at = ap suc (as_many l (at + 3 + length (piece' y).body))

-- ---- inside a table

inner_table : (o : Owner) (u : List ℕ) (from : ℕ) → inner_from (owner_tag o) u from ≡ from + owner_size o
unfolding inner_from
inner_table (kind k) u from = refl
inner_table (uuid x) u from = refl

module _ (s : List ℕ) (t : Table) (place : ℕ) (good : GoodTable t) (a : StandsAt s table_piece t place) where
  entries_start : ℕ
  entries_start = a.part.from + owner_size t.owner

  entries_some : 0 < entries_start
  unfolding entries_start
  entries_some = omega (arith, from_is table_piece s t place a)

  entries_made : drop entries_start (body table_piece s t place a) ≡ fields_bytes (map entry_piece t.entries)
  unfolding entries_start
  entries_made =
      owner_back t.owner (body table_piece s t place a) a.part.from (fields_bytes (map entry_piece t.entries))
      (body_is table_piece s t place a)

  -- the first entry of an offset, whatever its type
  pub entry_of_offset_is : (o : ℕ) → Finds (take a.part.to s) entry_piece (λ e. e.offset ≡ o) t.entries (entry_of_offset s place o)
  unfolding wanted fits entries_start body
  entry_of_offset_is o =
      seek_finds table_piece s t place a entry_piece GoodEntry t.entries good.entries_good entries_start entries_some
      (inner_table t.owner (body table_piece s t place a) a.part.from) entries_made (W.Offset o) [] (λ e. e.offset ≡ o)
      (λ p e q h.
      let u : List ℕ = body table_piece s t place a in
      let w = both_true (eqb p.tag 3) (eqb (number 2 (take p.to u) p.from) o) h in
      sym (entry_offset u p e q) ∙ eqb-true (number 2 (take p.to u) p.from) o w.1)
      (λ p e q h.
      let u : List ℕ = body table_piece s t place a in
      rw (eq-eqb p.tag 3 (entry_tag u p e q)) (eq-eqb (number 2 (take p.to u) p.from) o (entry_offset u p e q ∙ h)))

  -- the first entry of an offset and a type, or of an offset and no type; the text asked for is empty for no type
  pub entry_of_type_is : (o : ℕ) (type : Option (List ℕ)) → Optional Name type
      → Finds (take a.part.to s) entry_piece (λ e. (e.offset ≡ o) × (e.type ≡ type)) t.entries (entry_of_type s place o (text_of type))
  unfolding wanted fits entries_start body
  entry_of_type_is o type named =
      seek_finds table_piece s t place a entry_piece GoodEntry t.entries good.entries_good entries_start entries_some
      (inner_table t.owner (body table_piece s t place a) a.part.from) entries_made (W.Typed o) (text_of type)
      (λ e. (e.offset ≡ o) × (e.type ≡ type))
      (λ p e q h.
      let u : List ℕ = body table_piece s t place a in
      let number-test : Bool = eqb (number 2 (take p.to u) p.from) o in
      let text-test : Bool = same_text (type_at (take p.to u) p.from) (text_of type) in
      let w = both_true (eqb p.tag 3) (number-test && text-test) h in
      let v = both_true number-test text-test w.1 in (
        sym (entry_offset u p e q) ∙ eqb-true (number 2 (take p.to u) p.from) o v.0,
        same_option e.type type q.good.type_good named
            (sym (entry_type u p e q) ∙ same_true (type_at (take p.to u) p.from) (text_of type) v.1),
      ))
      (λ p e q h.
      let u : List ℕ = body table_piece s t place a in
      let text : type_at (take p.to u) p.from ≡ text_of type = entry_type u p e q ∙ ap text_of h.1 in
      rw (
        eq-eqb p.tag 3 (entry_tag u p e q),
        eq-eqb (number 2 (take p.to u) p.from) o (entry_offset u p e q ∙ h.0),
        text,
      )
      (same_refl (text_of type)))

  -- the number of a table's entries, of every offset and type
  pub count_entries_is : entry_count s place ≡ length t.entries
  unfolding entries_start
  count_entries_is =
      count_is table_piece s t place a entry_piece GoodEntry t.entries good.entries_good entries_start entries_some
      (inner_table t.owner (body table_piece s t place a) a.part.from) entries_made

-- ---- inside an entry

module _ (s : List ℕ) (e : Entry) (place : ℕ) (good : GoodEntry e) (a : StandsAt s entry_piece e place) where
  entry_read : ReadEntry (body entry_piece s e place a) a.part.from e
  entry_read = entry_reads e (body entry_piece s e place a) a.part.from good (body_is entry_piece s e place a)

  ranges_start : ℕ
  ranges_start =
      after 5 (body entry_piece s e place a) (after 4 (body entry_piece s e place a) (a.part.from + 2))

  ranges_some : 0 < ranges_start
  unfolding ranges_start
  ranges_some =
      let u : List ℕ = body entry_piece s e place a in
      omega (arith, after_up 5 u (after 4 u (a.part.from + 2)), after_up 4 u (a.part.from + 2))

  ranges_inner : inner_from 3 (body entry_piece s e place a) a.part.from ≡ ranges_start
  unfolding inner_from ranges_start
  ranges_inner = refl

  ranges_made : drop ranges_start (body entry_piece s e place a) ≡ fields_bytes (map range_piece e.ranges)
  unfolding ranges_start
  ranges_made = entry_read.type_read.rest

  -- its offset, its name and its type; an empty text is none
  pub entry_offset_is : number 2 s (place + 3) ≡ e.offset
  unfolding body
  entry_offset_is =
      ap (number 2 s) (sym (from_is entry_piece s e place a))
      ∙ (made_number s 2 e.offset a.part.from a.part.to (behind_offset e) good.offset_fits (body_is entry_piece s e place a)).0

  pub entry_name_is : name_of s place ≡ text_of e.name
  unfolding name_of name_at body
  entry_name_is = rw (field_there entry_piece s e place a) entry_read.name_read.text

  pub entry_type_is : type_of s place ≡ text_of e.type
  unfolding type_of type_at body
  entry_type_is = rw (field_there entry_piece s e place a) entry_read.type_read.text

  -- the first bit range of a name
  pub range_of_name_is : (name : List ℕ) → Finds (take a.part.to s) range_piece (λ r. r.name ≡ name) e.ranges (range_of_name s place name)
  unfolding wanted fits name_at body
  range_of_name_is name =
      seek_finds entry_piece s e place a range_piece GoodRange e.ranges good.ranges_good ranges_start ranges_some
      ranges_inner ranges_made W.Range name (λ r. r.name ≡ name)
      (λ p r q h.
      let u : List ℕ = take p.to (body entry_piece s e place a) in
      let w = both_true (eqb p.tag 6) (same_text (name_at u p.from) name) h in
      sym (range_reads r u p.from (ap (λ (x : Piece). x.body) (sym q.is))).name_is ∙ same_true (name_at u p.from) name w.1)
      (λ p r q h.
      let u : List ℕ = take p.to (body entry_piece s e place a) in
      let is : name_at u p.from ≡ name = (range_reads r u p.from (ap (λ (x : Piece). x.body) (sym q.is))).name_is ∙ h in
      rw (eq-eqb p.tag 6 (ap (λ (x : Piece). x.tag) (sym q.is)), is) (same_refl name))

  -- how many bit ranges it has
  pub count_ranges_is : count_inside s place ≡ length e.ranges
  count_ranges_is =
      count_is entry_piece s e place a range_piece GoodRange e.ranges good.ranges_good ranges_start ranges_some ranges_inner ranges_made

  -- its bit ranges by their number
  pub nth_range_is : (before : List Range) (r : Range) (behind : List Range) → e.ranges ≡ before ++ (r ∷ behind)
      → drop (nth_range s place (length before)) (take a.part.to s) ≡ fields_bytes (map range_piece (r ∷ behind))
  unfolding body
  nth_range_is =
      nth_is entry_piece s e place a range_piece GoodRange e.ranges good.ranges_good ranges_start ranges_some
      ranges_inner ranges_made

  pub nth_range_none : (k : ℕ) → length e.ranges ≤ k → nth_range s place k ≡ 0
  nth_range_none =
      nth_none entry_piece s e place a range_piece GoodRange e.ranges good.ranges_good ranges_start ranges_some
      ranges_inner ranges_made

-- ---- inside a bit range

module _ (s : List ℕ) (r : Range) (place : ℕ) (good : GoodRange r) (a : StandsAt s range_piece r place) where
  range_read : ReadRange (body range_piece s r place a) a.part.from r
  range_read = range_reads r (body range_piece s r place a) a.part.from (body_is range_piece s r place a)

  values_start : ℕ
  values_start = after 4 (body range_piece s r place a) (a.part.from + 2)

  values_some : 0 < values_start
  unfolding values_start
  values_some = omega (arith, after_up 4 (body range_piece s r place a) (a.part.from + 2))

  values_inner : inner_from 6 (body range_piece s r place a) a.part.from ≡ values_start
  unfolding inner_from values_start
  values_inner = refl

  values_made : drop values_start (body range_piece s r place a) ≡ fields_bytes (map value_piece r.values)
  unfolding values_start
  values_made = range_read.values_made

  -- its low bit, its high bit and its name
  range_byte : (i : ℕ) → i < 2 → get_or (body range_piece s r place a) (a.part.from + i) 0 ≡ get_or s (place + (3 + i)) 0
  unfolding body
  range_byte i h =
      let f : FieldFound s a.part.at a.part.tag a.part.from a.part.to = field_found s a.part.at a.stands in
      let room : a.part.from + 2 ≤ length (take a.part.to s) = range_read.room in
      let there : a.part.from + i ≡ place + (3 + i) = omega (arith, a.here) in
      get_or-take a.part.to s (a.part.from + i) 0 (omega (arith, length-take a.part.to s)) ∙ ap (λ (n : ℕ). get_or s n 0) there

  pub range_low_is : get_or s (place + 3) 0 ≡ r.low
  range_low_is =
      sym (range_byte 0 (omega arith)) ∙ ap (λ (n : ℕ). get_or (body range_piece s r place a) n 0) (add-zero a.part.from) ∙ range_read.low_is

  pub range_high_is : get_or s (place + 4) 0 ≡ r.high
  range_high_is = sym (range_byte 1 (omega arith)) ∙ range_read.high_is

  pub range_name_is : name_of s place ≡ r.name
  unfolding name_of name_at body
  range_name_is = rw (field_there range_piece s r place a) range_read.name_is

  -- the value of a number
  pub value_of_number_is : (n : ℕ) → Finds (take a.part.to s) value_piece (λ v. v.number ≡ n) r.values (value_of_number s place n)
  unfolding wanted fits body
  value_of_number_is n =
      seek_finds range_piece s r place a value_piece GoodValue r.values good.values_good values_start values_some
      values_inner values_made (W.Value n) [] (λ v. v.number ≡ n)
      (λ p v q h.
      let u : List ℕ = body range_piece s r place a in
      let w = both_true (eqb p.tag 7) (eqb (number 4 (take p.to u) p.from) n) h in
      sym (value_number u p v q) ∙ eqb-true (number 4 (take p.to u) p.from) n w.1)
      (λ p v q h.
      let u : List ℕ = body range_piece s r place a in
      rw (eq-eqb p.tag 7 (value_tag u p v q)) (eq-eqb (number 4 (take p.to u) p.from) n (value_number u p v q ∙ h)))

-- ---- a value

module _ (s : List ℕ) (v : Value) (place : ℕ) (a : StandsAt s value_piece v place) where
  -- its number and its name
  pub value_number_is : GoodValue v → number 4 s (place + 3) ≡ v.number
  unfolding body
  value_number_is good =
      ap (number 4 s) (sym (from_is value_piece s v place a))
      ∙ (made_number s 4 v.number a.part.from a.part.to v.name good.number_fits (body_is value_piece s v place a)).0

  pub value_name_is : name_of s place ≡ v.name
  unfolding name_of body
  value_name_is =
      rw (field_there value_piece s v place a)
      (number_back (body value_piece s v place a) 4 a.part.from v.number v.name (body_is value_piece s v place a))
