-- What stands where the relation says is read there: level by level, the bytes from a place on are those of the entry, range or value.
-- Assumes nothing.
use Prim.Native.Nat.{ℕ, ◌+◌}
use mathlib.Core.Path.{◌≡◌, refl, sym, ap, subst, ◌∙◌}
use mathlib.Core.List.{List, [], ◌∷◌, ◌++◌, map, append_assoc}
use native.Mathlib.Omega.{arith}
use lib.Seq.{drop-drop, drop-append_seam}
use lib.ListN.{length, take, drop}
use Rattle.tlv.specs.Number.{number_bytes}
use Rattle.tlv.specs.Grammar.{Piece, All, field_bytes, fields_bytes}
use Rattle.tlv.proofs.Fields.{Found as FieldFound, field_found}
use Rattle.book.specs.Grammar.{optional_bytes, Value, GoodValue, value_piece, Range, GoodRange, range_piece, Entry, GoodEntry, entry_piece, Owner, kind, uuid, owner_bytes, GoodTable, table_piece, IsBook}
use Rattle.book.specs.Finders.{StandsAt}
use Rattle.book.proofs.Finding.{first_stands, stands_whole}
use Rattle.meaning.specs.Packet.{Description}
use Rattle.meaning.specs.Places.{Stands, entry_up_to, RangeStands, ValueStands}
use Rattle.meaning.proofs.One.{among_all}
use Rattle.meaning.proofs.Bridge.{Stood, Located, fields_both}

-- ---- one law for all levels

-- of a text that ends with fields, what it ends with from one of them on
rest_from : {Y : Type 0} (piece : Y → Piece) (u head : List ℕ) (from : ℕ) (ys before back : List Y) → ys ≡ before ++ back
    → drop from u ≡ head ++ fields_bytes (map piece ys)
    → drop (from + length (head ++ fields_bytes (map piece before))) u ≡ fields_bytes (map piece back)
rest_from piece u head from ys before back among made =
    let front : List ℕ = head ++ fields_bytes (map piece before) in
    let all : drop from u ≡ front ++ fields_bytes (map piece back) =
    made
    ∙ ap (λ (l : List ℕ). head ++ l) (ap (λ l. fields_bytes (map piece l)) among ∙ fields_both piece before back)
    ∙ sym (append_assoc head (fields_bytes (map piece before)) (fields_bytes (map piece back))) in
    sym (drop-drop (length front) from u) ∙ ap (drop (length front)) all ∙ drop-append_seam front (fields_bytes (map piece back))

-- what a text ends with from a place on stands there
ends_stands : {Y : Type 0} (piece : Y → Piece) (u : List ℕ) (y : Y) (behind : List Y) (q : ℕ) → drop q u ≡ fields_bytes (map piece (y ∷ behind))
    → StandsAt u piece y q
ends_stands piece u y behind q rest =
    first_stands {So = λ z. Unit {0}} {xs = y ∷ behind}
    (record { before = []; value = y; behind = behind; among = refl; so = tt; none_before = tt; rest = rest })

-- inside a field that stands: its body is a head and fields
module _ {X Y : Type 0} (outer : X → Piece) (piece : Y → Piece) (s : List ℕ) (x : X) (place : ℕ) (a : StandsAt s outer x place)
    (ys : List Y) (head : List ℕ) (made : (outer x).body ≡ head ++ fields_bytes (map piece ys)) where
  inside_stands : (before : List Y) (y : Y) (behind : List Y) → ys ≡ before ++ (y ∷ behind)
      → StandsAt s piece y (place + 3 + length (head ++ fields_bytes (map piece before)))
  inside_stands before y behind among =
      let u : List ℕ = take a.part.to s in
      let f : FieldFound s a.part.at a.part.tag a.part.from a.part.to = field_found s a.part.at a.stands in
      let start : a.part.from ≡ place + 3 = omega (arith, a.here) in
      let body : drop a.part.from u ≡ head ++ fields_bytes (map piece ys) = ap (λ (p : Piece). p.body) (sym a.is) ∙ made in
      stands_whole s a.part.to
      (ends_stands piece u y behind (place + 3 + length (head ++ fields_bytes (map piece before)))
      (ap (λ (n : ℕ). drop (n + length (head ++ fields_bytes (map piece before))) u) (sym start)
      ∙ rest_from piece u head a.part.from ys before (y ∷ behind) among body))

-- ---- the heads: what a body has before its fields

owner_made : (o : Owner) (l : List ℕ) → owner_bytes o l ≡ owner_bytes o [] ++ l
owner_made (kind k) l = refl
owner_made (uuid u) l =
    let A : List ℕ = number_bytes 4 u.first in
    let B : List ℕ = number_bytes 4 u.second in
    let C : List ℕ = number_bytes 4 u.third in
    let D : List ℕ = number_bytes 4 u.fourth in
    sym
    (append_assoc A (B ++ (C ++ (D ++ []))) l
    ∙ ap (λ (x : List ℕ). A ++ x) (append_assoc B (C ++ (D ++ [])) l)
    ∙ ap (λ (x : List ℕ). A ++ (B ++ x)) (append_assoc C (D ++ []) l)
    ∙ ap (λ (x : List ℕ). A ++ (B ++ (C ++ x))) (append_assoc D [] l))

entry_head : Entry → List ℕ
entry_head e = number_bytes 2 e.offset ++ (optional_bytes 4 e.name ++ optional_bytes 5 e.type)

entry_made : (e : Entry) (ranges : List Range)
    → (entry_piece (record { offset = e.offset; name = e.name; type = e.type; ranges = ranges })).body
    ≡ entry_head e ++ fields_bytes (map range_piece ranges)
unfolding entry_head
entry_made e ranges =
    let A : List ℕ = number_bytes 2 e.offset in
    let B : List ℕ = optional_bytes 4 e.name in
    let C : List ℕ = optional_bytes 5 e.type in
    let l : List ℕ = fields_bytes (map range_piece ranges) in
    sym (append_assoc A (B ++ C) l ∙ ap (λ (x : List ℕ). A ++ x) (append_assoc B C l))

range_head : Range → List ℕ
range_head r = r.low ∷ r.high ∷ field_bytes 4 r.name

range_made : (r : Range) (values : List Value)
    → (range_piece (record { low = r.low; high = r.high; name = r.name; values = values })).body
    ≡ range_head r ++ fields_bytes (map value_piece values)
unfolding range_head
range_made r values = refl

-- what the entry's text ends with from one of its ranges on
pub range_rest : (s : List ℕ) (e : Entry) (place : ℕ) (a : StandsAt s entry_piece e place) (before : List Range) (r : Range) (behind : List Range)
    → e.ranges ≡ before ++ (r ∷ behind)
    → drop (place + 3 + entry_up_to e before) (take a.part.to s) ≡ fields_bytes (map range_piece (r ∷ behind))
range_rest s e place a before r behind among =
    let u : List ℕ = take a.part.to s in
    let f : FieldFound s a.part.at a.part.tag a.part.from a.part.to = field_found s a.part.at a.stands in
    let start : place + 3 ≡ a.part.from = omega (arith, a.here) in
    let body : drop a.part.from u ≡ entry_head e ++ fields_bytes (map range_piece e.ranges) =
    ap (λ (p : Piece). p.body) (sym a.is) ∙ entry_made e e.ranges in
    ap (λ (n : ℕ). drop (n + entry_up_to e before) u) start
    ∙ ap (λ (l : List ℕ). drop (a.part.from + length l) u) (entry_made e before)
    ∙ rest_from range_piece u (entry_head e) a.part.from e.ranges before (r ∷ behind) among body

-- ---- the levels

module _ (s : List ℕ) (b : IsBook s) where
  -- an entry, where its description stands
  pub entry_stood : (d : Description) (p : ℕ) → Stands b.tables d p → Stood entry_piece GoodEntry s d.entry p
  entry_stood d p f =
      let q : ℕ = length (fields_bytes (map table_piece f.before)) in
      let zero-on : q ≡ 0 + length ([] ++ fields_bytes (map table_piece f.before)) = omega arith in
      let rest : drop q s ≡ fields_bytes (map table_piece (f.table ∷ f.behind)) =
      ap (λ (n : ℕ). drop n s) zero-on ∙ rest_from table_piece s [] 0 b.tables f.before (f.table ∷ f.behind) f.among b.bytes in
      let table : StandsAt s table_piece f.table q = ends_stands table_piece s f.table f.behind q rest in
      let good : GoodTable f.table = among_all GoodTable f.before f.table f.behind (subst (All GoodTable) f.among b.tables_good) in
      let front : List ℕ = fields_bytes (map entry_piece f.entries_before) in
      let stands : StandsAt s entry_piece d.entry (q + 3 + length (owner_bytes f.table.owner [] ++ front)) =
      inside_stands table_piece entry_piece s f.table q table f.table.entries (owner_bytes f.table.owner [])
      (owner_made f.table.owner (fields_bytes (map entry_piece f.table.entries))) f.entries_before d.entry f.entries_behind f.entry_among in
      let here : q + 3 + length (owner_bytes f.table.owner [] ++ front) ≡ p =
      ap (λ (l : List ℕ). q + 3 + length l) (sym (owner_made f.table.owner front)) ∙ sym f.place_is in
      record {
        some_place = omega (arith, f.place_is);
        stands = subst (StandsAt s entry_piece d.entry) here stands;
        good = among_all GoodEntry f.entries_before d.entry f.entries_behind (subst (All GoodEntry) f.entry_among good.entries_good);
      }

  pub located : (d : Description) (p : ℕ) → Stands b.tables d p → Located b.tables s d p
  located d p f = record { stood = entry_stood d p f; stands = f }

  -- a range behind those before it
  pub range_stood : (d : Description) (before : List Range) (r : Range) (behind : List Range) → d.entry.ranges ≡ before ++ (r ∷ behind)
      → (p : ℕ) → RangeStands b.tables d before p → Stood range_piece GoodRange s r p
  range_stood d before r behind among p f =
      let entry = entry_stood d f.entry_place f.entry_stands in
      let here : f.entry_place + 3 + length (entry_head d.entry ++ fields_bytes (map range_piece before)) ≡ p =
      ap (λ (l : List ℕ). f.entry_place + 3 + length l) (sym (entry_made d.entry before)) ∙ sym f.place_is in
      record {
        some_place = omega (arith, f.place_is);
        stands =
            subst (StandsAt s range_piece r) here
            (inside_stands entry_piece range_piece s d.entry f.entry_place entry.stands d.entry.ranges (entry_head d.entry)
            (entry_made d.entry d.entry.ranges) before r behind among);
        good = among_all GoodRange before r behind (subst (All GoodRange) among entry.good.ranges_good);
      }

  -- a value behind those before it
  pub value_stood : (d : Description) (ranges : List Range) (r : Range) (others : List Range) → d.entry.ranges ≡ ranges ++ (r ∷ others)
      → (before : List Value) (v : Value) (behind : List Value) → r.values ≡ before ++ (v ∷ behind)
      → (p : ℕ) → ValueStands b.tables d ranges r before p → Stood value_piece GoodValue s v p
  value_stood d ranges r others among before v behind within p f =
      let range = range_stood d ranges r others among f.range_place f.range_stands in
      let here : f.range_place + 3 + length (range_head r ++ fields_bytes (map value_piece before)) ≡ p =
      ap (λ (l : List ℕ). f.range_place + 3 + length l) (sym (range_made r before)) ∙ sym f.place_is in
      record {
        some_place = omega (arith, f.place_is);
        stands =
            subst (StandsAt s value_piece v) here
            (inside_stands range_piece value_piece s r f.range_place range.stands r.values (range_head r) (range_made r r.values) before v behind within);
        good = among_all GoodValue before v behind (subst (All GoodValue) within range.good.values_good);
      }
