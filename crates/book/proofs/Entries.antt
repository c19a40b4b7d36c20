-- Entries: a body passes the test just where it is made from a good entry, and two stand twice just where offset and type are equal.
-- Assumes nothing.
use Rattle.std.specs.Prelude.{None, Option, Some}
use Prim.Native.Nat.{ℕ, ◌+◌, ◌≤◌}
use mathlib.Core.Path.{◌≡◌, ◌∙◌, sym, ap, refl}
use mathlib.Core.Bool.{Bool, true, ◌&&◌}
use mathlib.Core.List.{List, [], ◌∷◌, ◌++◌, map}
use native.Mathlib.Omega.{arith}
use borrow.Author.Tests.{eqb-true, eq-eqb, leb-true, le-leb}
use lib.Dec.{eqb, leb}
use lib.ListN.{length, get_or, take, drop}
use Rattle.text.specs.Same.{same_text}
use Rattle.text.proofs.Texts.{same_refl, same_true}
use Rattle.tlv.specs.Number.{Bytes, number, number_bytes}
use Rattle.tlv.specs.Grammar.{Piece, field_bytes, fields_bytes, Apart, FromValue, Made}
use Rattle.tlv.specs.Reading.{Part, parts, filled, once}
use Rattle.tlv.proofs.Numbers.{number_below, number_made}
use Rattle.tlv.proofs.Pieces.{both_true}
use Rattle.tlv.proofs.Twice.{PartOf, once-apart, apart-once}
use Rattle.book.specs.Grammar.{
  Name,
  Optional,
  text_of,
  optional_bytes,
  Range,
  range_piece,
  Entry,
  GoodEntry,
  entry_piece,
  SameEntry,
}
use Rattle.book.specs.Search.{after, type_at, fits, wanted}
use Rattle.book.specs.Reading.{field_ok, optional_name, ranges_fill, entry_body, same_entry, entries_fill}
use Rattle.book.proofs.Inside.{
  row_is,
  row_all,
  number_first,
  number_back,
  number_room,
  FromOptional,
  optional_is,
  ReadOptional,
  optional_all,
}
use Rattle.book.proofs.Ranges.{ranges_is, ranges_all}

abbrev entry_test : ℕ → List ℕ → ℕ → Bool
entry_test tag u from = eqb tag 3 && entry_body u from

-- the bytes of an entry behind its offset, its name, and its type
abbrev pub ranges_bytes : Entry → List ℕ
ranges_bytes e = fields_bytes (map range_piece e.ranges)

abbrev pub behind_name : Entry → List ℕ
behind_name e = optional_bytes 5 e.type ++ ranges_bytes e

abbrev pub behind_offset : Entry → List ℕ
behind_offset e = optional_bytes 4 e.name ++ behind_name e

entry_is : (tag : ℕ) (u : List ℕ) (from : ℕ) → Bytes u → entry_test tag u from ≡ true
    → FromValue entry_piece GoodEntry (record { tag = tag; body = drop from u })
unfolding entry_body
entry_is tag u from bytes h =
    let type : ℕ = after 4 u (from + 2) in
    let ranges : ℕ = after 5 u type in
    let w = both_true (eqb tag 3) (entry_body u from) h in
    let a =
    both_true (leb (from + 2) (length u)) (optional_name 4 u (from + 2) && (optional_name 5 u type && ranges_fill u ranges)) w.1 in
    let b = both_true (optional_name 4 u (from + 2)) (optional_name 5 u type && ranges_fill u ranges) a.1 in
    let c = both_true (optional_name 5 u type) (ranges_fill u ranges) b.1 in
    let n : FromOptional 4 u (from + 2) = optional_is 4 u (from + 2) bytes b.0 in
    let t : FromOptional 5 u type = optional_is 5 u type bytes c.0 in
    let m = ranges_is u bytes ranges c.1 in
    let body : drop from u
    ≡ number_bytes 2 (number 2 u from)
    ++ (optional_bytes 4 n.value ++ (optional_bytes 5 t.value ++ fields_bytes (map range_piece m.values))) =
    number_first u 2 from bytes (leb-true (from + 2) (length u) a.0)
    ∙ ap (λ (l : List ℕ). number_bytes 2 (number 2 u from) ++ l)
    (n.made
    ∙ ap (λ (l : List ℕ). optional_bytes 4 n.value ++ l)
    (t.made ∙ ap (λ (l : List ℕ). optional_bytes 5 t.value ++ l) m.bytes)) in
    record {
      value = record { offset = number 2 u from; name = n.value; type = t.value; ranges = m.values };
      good =
          record {
            offset_fits = number_below 2 u bytes from;
            name_good = n.good;
            type_good = t.good;
            ranges_good = m.good;
          };
      is = λ i. record { tag = sym (eqb-true tag 3 w.0) i; body = sym body i };
    }

-- ranges start with a 6, or there are none
ranges_start : (tag : ℕ) → (tag ≡ 0 → ⊥) → (tag ≡ 6 → ⊥) → (rs : List Range) → get_or (fields_bytes (map range_piece rs)) 0 0 ≡ tag → ⊥
unfolding fields_bytes field_bytes
ranges_start tag a b [] h = a (sym h)
ranges_start tag a b (r ∷ rs) h = b (sym h)

-- a type starts with a 5
type_start : (t : Option (List ℕ)) (rs : List Range)
    → get_or (optional_bytes 5 t ++ fields_bytes (map range_piece rs)) 0 0 ≡ 4 → ⊥
unfolding field_bytes
type_start (Some n) rs h = omega arith
type_start None rs h = ranges_start 4 (λ e. omega arith) (λ e. omega arith) rs h

-- what a body made from an entry reads as
pub record ReadEntry (u : List ℕ) (from : ℕ) (e : Entry) : Type 0 where
  pub room : from + 2 ≤ length u
  pub name_read : ReadOptional 4 u (from + 2) e.name (behind_name e)
  pub type_read : ReadOptional 5 u (after 4 u (from + 2)) e.type (ranges_bytes e)

pub entry_reads : (e : Entry) (u : List ℕ) (from : ℕ) → GoodEntry e → drop from u ≡ (entry_piece e).body → ReadEntry u from e
entry_reads e u from g made =
    let n : ReadOptional 4 u (from + 2) e.name (behind_name e) =
    optional_all 4 u (from + 2) e.name (behind_name e) g.name_good
    (number_back u 2 from e.offset (behind_offset e) made)
    (type_start e.type e.ranges) in
    record {
      room = number_room u 2 from e.offset (behind_offset e) made (omega arith);
      name_read = n;
      type_read =
          optional_all 5 u (after 4 u (from + 2)) e.type (ranges_bytes e) g.type_good n.rest
          (ranges_start 5 (λ e. omega arith) (λ e. omega arith) e.ranges);
    }

entry_all : (e : Entry) (u : List ℕ) (from : ℕ) → GoodEntry e → drop from u ≡ (entry_piece e).body → entry_test 3 u from ≡ true
unfolding entry_body
entry_all e u from g made =
    let r : ReadEntry u from e = entry_reads e u from g made in
    rw (le-leb (from + 2) (length u) r.room, r.name_read.passes, r.type_read.passes)
    (ranges_all u (after 5 u (after 4 u (from + 2)))
    (record { values = e.ranges; good = g.ranges_good; bytes = r.type_read.rest }))

-- names have a byte, so a text tells them from none
pub same_option : (a b : Option (List ℕ)) → Optional Name a → Optional Name b → text_of a ≡ text_of b → a ≡ b
same_option (Some m) (Some n) g h e = ap Some e
same_option (Some m) None g h e = absurd (omega (arith, g.some_byte, ap length e))
same_option None (Some n) g h e = absurd (omega (arith, h.some_byte, ap length e))
same_option None None g h e = refl

module _ (s : List ℕ) where
  -- what an entry's part reads as
  module _ (p : Part) (e : Entry) (o : PartOf entry_piece GoodEntry s p e) where
    entry_body_lem : drop p.from (take p.to s) ≡ (entry_piece e).body
    entry_body_lem = ap (λ (q : Piece). q.body) (sym o.is)

    pub entry_tag : p.tag ≡ 3
    entry_tag = ap (λ (q : Piece). q.tag) (sym o.is)

    pub entry_offset : number 2 (take p.to s) p.from ≡ e.offset
    entry_offset = number_made 2 e.offset (take p.to s) p.from (behind_offset e) o.good.offset_fits entry_body_lem

    pub entry_type : type_at (take p.to s) p.from ≡ text_of e.type
    unfolding type_at
    entry_type = (entry_reads e (take p.to s) p.from o.good entry_body_lem).type_read.text

  module _ (p q : Part) (e f : Entry) (o : PartOf entry_piece GoodEntry s p e) (r : PartOf entry_piece GoodEntry s q f) where
    entry_clashing : SameEntry e f → same_entry s p q ≡ true
    unfolding same_entry wanted fits
    entry_clashing h =
        let offsets : number 2 (take q.to s) q.from ≡ number 2 (take p.to s) p.from =
        entry_offset q f r ∙ sym h.same_offset ∙ sym (entry_offset p e o) in
        let types : type_at (take q.to s) q.from ≡ type_at (take p.to s) p.from =
        entry_type q f r ∙ ap text_of (sym h.same_type) ∙ sym (entry_type p e o) in
        rw (eq-eqb q.tag 3 (entry_tag q f r), eq-eqb (number 2 (take q.to s) q.from) (number 2 (take p.to s) p.from) offsets, types)
        (same_refl (type_at (take p.to s) p.from))

    entry_telling : same_entry s p q ≡ true → SameEntry e f
    unfolding same_entry wanted fits
    entry_telling h =
        let offset : Bool = eqb (number 2 (take q.to s) q.from) (number 2 (take p.to s) p.from) in
        let text : Bool = same_text (type_at (take q.to s) q.from) (type_at (take p.to s) p.from) in
        let w = both_true (eqb q.tag 3) (offset && text) h in
        let v = both_true offset text w.1 in
        record {
          same_offset =
              sym (entry_offset p e o)
              ∙ sym (eqb-true (number 2 (take q.to s) q.from) (number 2 (take p.to s) p.from) v.0)
              ∙ entry_offset q f r;
          same_type =
              same_option e.type f.type o.good.type_good r.good.type_good
              (sym (entry_type p e o)
              ∙ sym (same_true (type_at (take q.to s) q.from) (type_at (take p.to s) p.from) v.1)
              ∙ entry_type q f r);
        }

  -- entries that fill a body: each good, none twice
  pub record FromEntries (at : ℕ) : Type 0 where
    pub made : Made entry_piece GoodEntry (drop at s)
    pub apart : Apart SameEntry made.values

  -- sound
  pub entries_is : Bytes s → (at : ℕ) → entries_fill s at ≡ true → FromEntries at
  unfolding entries_fill
  entries_is bytes at h =
      let w = both_true (filled (field_ok 3 entry_body s) s at) (once (same_entry s) (parts s at)) h in
      let m = row_is entry_piece GoodEntry entry_test s entry_is bytes at w.0 in
      record { made = m; apart = once-apart entry_piece GoodEntry s (same_entry s) SameEntry entry_clashing at m w.1 }

  -- complete
  pub entries_all : (at : ℕ) → FromEntries at → entries_fill s at ≡ true
  unfolding entries_fill
  entries_all at f =
      rw (row_all entry_piece GoodEntry entry_test s entry_all at f.made)
      (apart-once entry_piece GoodEntry s (same_entry s) SameEntry entry_telling at f.made f.apart)
