-- Tables: a body passes the test just where it is made from a good table, and two stand twice just where they belong to the same kind or UUID.
-- Assumes nothing.
use Prim.Native.Nat.{ℕ, ◌+◌, ◌≤◌}
use mathlib.Core.Path.{◌≡◌, ◌∙◌, sym, ap, refl}
use mathlib.Core.Bool.{Bool, true, false, cond, ◌&&◌}
use mathlib.Core.List.{List, [], ◌∷◌, ◌++◌, map}
use native.Mathlib.Omega.{arith}
use borrow.Author.Tests.{eqb-true, eq-eqb, ne_eqb, leb-true, le-leb}
use lib.Dec.{eqb, leb}
use lib.ListN.{length, get_or, take, drop, length-drop}
use Rattle.tlv.specs.Number.{Bytes, number, number_bytes}
use Rattle.tlv.specs.Grammar.{Piece, fields_bytes, Apart, FromValue, Made}
use Rattle.tlv.specs.Reading.{Part, parts, filled, once}
use Rattle.tlv.proofs.Numbers.{number_below, number_made, drop_next}
use Rattle.tlv.proofs.Fields.{drop_first}
use Rattle.tlv.proofs.Pieces.{both_true}
use Rattle.tlv.proofs.Twice.{PartOf, once-apart, apart-once}
use Rattle.book.specs.declared.Uuid.{Uuid}
use Rattle.book.specs.declared.seek.Want.{Want}
use Rattle.book.specs.declared.seek.Want.TheVariants as W
use Rattle.book.specs.Grammar.{
  Owner,
  kind,
  uuid,
  GoodOwner,
  owner_tag,
  uuid_bytes,
  owner_bytes,
  entry_piece,
  Table,
  GoodTable,
  table_piece,
}
use Rattle.book.specs.Search.{uuid_at, same_uuid, fits, wanted, table_want}
use Rattle.book.specs.Reading.{entries_fill, control_body, uuid_body, table_body, table_ok, same_table, tables_fill}
use Rattle.book.proofs.Inside.{row_is, row_all, number_first, number_back, number_room}
use Rattle.book.proofs.Entries.{FromEntries, entries_is, entries_all}

-- ---- four dwords

-- of bytes, the four dwords are dwords
abbrev GoodUuid : Uuid → Type 0
GoodUuid u = GoodOwner (uuid u)

module _ (u : List ℕ) (from : ℕ) where
  -- sound: a body with 16 bytes starts with the UUID that they make
  uuid_first : Bytes u → from + 16 ≤ length u → drop from u ≡ uuid_bytes (uuid_at u from) (drop (from + 16) u)
  uuid_first bytes h =
      let a : from + 4 + 4 ≡ from + 8 = omega arith in
      let b : from + 8 + 4 ≡ from + 12 = omega arith in
      let c : from + 12 + 4 ≡ from + 16 = omega arith in
      number_first u 4 from bytes (omega arith)
      ∙ ap (λ (l : List ℕ). number_bytes 4 (number 4 u from) ++ l)
      (number_first u 4 (from + 4) bytes (omega arith)
      ∙ rw a
      (ap (λ (l : List ℕ). number_bytes 4 (number 4 u (from + 4)) ++ l)
      (number_first u 4 (from + 8) bytes (omega arith)
      ∙ rw b
      (ap (λ (l : List ℕ). number_bytes 4 (number 4 u (from + 8)) ++ l)
      (number_first u 4 (from + 12) bytes (omega arith) ∙ rw c)))))

  uuid_good : Bytes u → GoodUuid (uuid_at u from)
  uuid_good bytes =
      (number_below 4 u bytes from, number_below 4 u bytes (from + 4), number_below 4 u bytes (from + 8), number_below 4 u bytes (from + 12))

  -- complete: a body made from a UUID and something behind it is read so
  module _ (x : Uuid) (back : List ℕ) (made : drop from u ≡ uuid_bytes x back) where
    behind_first : drop (from + 4) u ≡ number_bytes 4 x.second ++ (number_bytes 4 x.third ++ (number_bytes 4 x.fourth ++ back))
    behind_first = number_back u 4 from x.first _ made

    behind_second : drop (from + 8) u ≡ number_bytes 4 x.third ++ (number_bytes 4 x.fourth ++ back)
    behind_second =
        let e : from + 4 + 4 ≡ from + 8 = omega arith in
        rw e at (number_back u 4 (from + 4) x.second _ behind_first)

    behind_third : drop (from + 12) u ≡ number_bytes 4 x.fourth ++ back
    behind_third =
        let e : from + 8 + 4 ≡ from + 12 = omega arith in
        rw e at (number_back u 4 (from + 8) x.third _ behind_second)

    pub uuid_back : drop (from + 16) u ≡ back
    uuid_back =
        let e : from + 12 + 4 ≡ from + 16 = omega arith in
        rw e at (number_back u 4 (from + 12) x.fourth back behind_third)

    uuid_room : from + 16 ≤ length u
    uuid_room = omega (arith, number_room u 4 (from + 12) x.fourth back behind_third (omega arith))

    uuid_reads : GoodUuid x → uuid_at u from ≡ x
    uuid_reads g =
        λ i. record {
          first = number_made 4 x.first u from _ g.0 made i;
          second = number_made 4 x.second u (from + 4) _ g.1 behind_first i;
          third = number_made 4 x.third u (from + 8) _ g.2 behind_second i;
          fourth = number_made 4 x.fourth u (from + 12) back g.3 behind_third i;
        }

-- ---- a table

control_is : (u : List ℕ) (from : ℕ) → Bytes u → control_body u from ≡ true
    → FromValue table_piece GoodTable (record { tag = 1; body = drop from u })
unfolding control_body
control_is u from bytes h =
    let k : ℕ = get_or u from 0 in
    let a = both_true (leb (from + 1) (length u)) (leb 1 k && (leb k 12 && entries_fill u (from + 1))) h in
    let b = both_true (leb 1 k) (leb k 12 && entries_fill u (from + 1)) a.1 in
    let c = both_true (leb k 12) (entries_fill u (from + 1)) b.1 in
    let f : FromEntries u (from + 1) = entries_is u bytes (from + 1) c.1 in
    let body : drop from u ≡ k ∷ fields_bytes (map entry_piece f.made.values) =
    drop_first u from (omega (arith, leb-true (from + 1) (length u) a.0)) ∙ ap (λ (l : List ℕ). k ∷ l) f.made.bytes in
    record {
      value = record { owner = kind k; entries = f.made.values };
      good =
          record {
            owner_good = (leb-true 1 k b.0, leb-true k 12 c.0);
            entries_good = f.made.good;
            entries_apart = f.apart;
          };
      is = λ i. record { tag = 1; body = sym body i };
    }

uuid_is : (u : List ℕ) (from : ℕ) → Bytes u → uuid_body u from ≡ true
    → FromValue table_piece GoodTable (record { tag = 2; body = drop from u })
unfolding uuid_body
uuid_is u from bytes h =
    let a = both_true (leb (from + 16) (length u)) (entries_fill u (from + 16)) h in
    let f : FromEntries u (from + 16) = entries_is u bytes (from + 16) a.1 in
    let body : drop from u ≡ uuid_bytes (uuid_at u from) (fields_bytes (map entry_piece f.made.values)) =
    uuid_first u from bytes (leb-true (from + 16) (length u) a.0) ∙ ap (uuid_bytes (uuid_at u from)) f.made.bytes in
    record {
      value = record { owner = uuid (uuid_at u from); entries = f.made.values };
      good = record { owner_good = uuid_good u from bytes; entries_good = f.made.good; entries_apart = f.apart };
      is = λ i. record { tag = 2; body = sym body i };
    }

table_is : (tag : ℕ) (u : List ℕ) (from : ℕ) → Bytes u → table_body tag u from ≡ true
    → FromValue table_piece GoodTable (record { tag = tag; body = drop from u })
unfolding table_body
table_is tag u from bytes h = by (eqb tag 1) refl h
  where
    at_tag : (n : ℕ) → tag ≡ n → FromValue table_piece GoodTable (record { tag = n; body = drop from u })
        → FromValue table_piece GoodTable (record { tag = tag; body = drop from u })
    at_tag n e v = record { value = v.value; good = v.good; is = v.is ∙ λ i. record { tag = sym e i; body = drop from u } }

    by : (b : Bool) → eqb tag 1 ≡ b → cond b (control_body u from) (eqb tag 2 && uuid_body u from) ≡ true
        → FromValue table_piece GoodTable (record { tag = tag; body = drop from u })
    by true e k = at_tag 1 (eqb-true tag 1 e) (control_is u from bytes k)
    by false e k =
        let w = both_true (eqb tag 2) (uuid_body u from) k in
        at_tag 2 (eqb-true tag 2 w.0) (uuid_is u from bytes w.1)

table_all : (t : Table) (u : List ℕ) (from : ℕ) → GoodTable t → drop from u ≡ (table_piece t).body
    → table_body (table_piece t).tag u from ≡ true
unfolding table_body control_body uuid_body
table_all t u from g made = by t.owner g.owner_good made
  where
    rows : (at : ℕ) → drop at u ≡ fields_bytes (map entry_piece t.entries) → entries_fill u at ≡ true
    rows at e =
        entries_all u at
        (record {
          made = record { values = t.entries; good = g.entries_good; bytes = e };
          apart = g.entries_apart;
        })

    by : (o : Owner) → GoodOwner o → drop from u ≡ owner_bytes o (fields_bytes (map entry_piece t.entries))
        → table_body (owner_tag o) u from ≡ true
    by (kind k) h e =
        let first = drop_next u from e in
        let least : 1 ≤ k = h.0 in
        let most : k ≤ 12 = h.1 in
        let room : from + 1 ≤ length u = omega (arith, ap length e, length-drop from u) in
        rw (le-leb (from + 1) (length u) room, first.0, le-leb 1 k least, le-leb k 12 most) (rows (from + 1) first.1)
    by (uuid x) h e =
        let back : List ℕ = fields_bytes (map entry_piece t.entries) in
        rw (le-leb (from + 16) (length u) (uuid_room u from x back e)) (rows (from + 16) (uuid_back u from x back e))

-- ---- whose table it is

same_uuid_is : (u v : Uuid) → same_uuid u v ≡ true → u ≡ v
unfolding same_uuid
same_uuid_is u v h =
    let a = both_true (eqb u.first v.first) _ h in
    let b = both_true (eqb u.second v.second) _ a.1 in
    let c = both_true (eqb u.third v.third) (eqb u.fourth v.fourth) b.1 in
    λ i. record {
      first = eqb-true u.first v.first a.0 i;
      second = eqb-true u.second v.second b.0 i;
      third = eqb-true u.third v.third c.0 i;
      fourth = eqb-true u.fourth v.fourth c.1 i;
    }

same_uuid_all : (u : Uuid) → same_uuid u u ≡ true
unfolding same_uuid
same_uuid_all u =
    rw (
      eq-eqb u.first u.first refl,
      eq-eqb u.second u.second refl,
      eq-eqb u.third u.third refl,
      eq-eqb u.fourth u.fourth refl,
    )

-- the search for what a table belongs to
abbrev pub owner_want : Owner → Want
owner_want (kind k) = W.Kind k
owner_want (uuid u) = W.Uuid u

-- what a body reads as, by what it belongs to
abbrev pub OwnerReads : ℕ → List ℕ → ℕ → Owner → Type 0
OwnerReads tag u from (kind k) = (tag ≡ 1) × (get_or u from 0 ≡ k)
OwnerReads tag u from (uuid x) = (tag ≡ 2) × (uuid_at u from ≡ x)

pub owner_reads : (o : Owner) (tag : ℕ) (u : List ℕ) (from : ℕ) (back : List ℕ) → GoodOwner o → tag ≡ owner_tag o
    → drop from u ≡ owner_bytes o back → OwnerReads tag u from o
owner_reads (kind k) tag u from back g t made = (t, (drop_next u from made).0)
owner_reads (uuid x) tag u from back g t made = (t, uuid_reads u from x back made g)

-- a body belongs to one kind or UUID
pub one_owner : (o w : Owner) (tag : ℕ) (u : List ℕ) (from : ℕ) → OwnerReads tag u from o → OwnerReads tag u from w → o ≡ w
one_owner (kind k) (kind l) tag u from r q = ap kind (sym r.1 ∙ q.1)
one_owner (kind k) (uuid y) tag u from r q = absurd (omega (arith, r.0, q.0))
one_owner (uuid x) (kind l) tag u from r q = absurd (omega (arith, r.0, q.0))
one_owner (uuid x) (uuid y) tag u from r q = ap uuid (sym r.1 ∙ q.1)

-- behind it come the entries
abbrev pub owner_size : Owner → ℕ
owner_size (kind k) = 1
owner_size (uuid u) = 16

pub owner_back : (o : Owner) (u : List ℕ) (from : ℕ) (back : List ℕ) → drop from u ≡ owner_bytes o back → drop (from + owner_size o) u ≡ back
owner_back (kind k) u from back made = (drop_next u from made).1
owner_back (uuid x) u from back made = uuid_back u from x back made

want_is : (o : Owner) (tag : ℕ) (u : List ℕ) (from : ℕ) → OwnerReads tag u from o → table_want u tag from ≡ owner_want o
unfolding table_want
want_is (kind k) tag u from r = rw (eq-eqb tag 1 r.0) (ap W.Kind r.1)
want_is (uuid x) tag u from r = rw (ne_eqb tag 1 (λ h. omega (arith, r.0))) (ap W.Uuid r.1)

module _ (s : List ℕ) (p : Part) where
  owner_told : (o w : Owner) → OwnerReads p.tag (take p.to s) p.from o → wanted (owner_want w) [] s p ≡ true → o ≡ w
  unfolding wanted fits
  owner_told (kind k) (kind l) r h =
      let e = both_true (eqb p.tag 1) (eqb (get_or (take p.to s) p.from 0) l) h in
      ap kind (sym r.1 ∙ eqb-true (get_or (take p.to s) p.from 0) l e.1)
  owner_told (kind k) (uuid y) r h =
      let e = both_true (eqb p.tag 2) _ h in
      absurd (omega (arith, r.0, eqb-true p.tag 2 e.0))
  owner_told (uuid x) (kind l) r h =
      let e = both_true (eqb p.tag 1) _ h in
      absurd (omega (arith, r.0, eqb-true p.tag 1 e.0))
  owner_told (uuid x) (uuid y) r h =
      let e = both_true (eqb p.tag 2) (same_uuid (uuid_at (take p.to s) p.from) y) h in
      ap uuid (sym r.1 ∙ same_uuid_is (uuid_at (take p.to s) p.from) y e.1)

  owner_wanted : (o : Owner) → OwnerReads p.tag (take p.to s) p.from o → wanted (owner_want o) [] s p ≡ true
  unfolding wanted fits
  owner_wanted (kind k) r = rw (eq-eqb p.tag 1 r.0) (eq-eqb (get_or (take p.to s) p.from 0) k r.1)
  owner_wanted (uuid x) r =
      rw (eq-eqb p.tag 2 r.0) (ap (λ (u : Uuid). same_uuid u x) r.1 ∙ same_uuid_all x)

  module _ (t : Table) (o : PartOf table_piece GoodTable s p t) where
    table_reads : OwnerReads p.tag (take p.to s) p.from t.owner
    table_reads =
        owner_reads t.owner p.tag (take p.to s) p.from (fields_bytes (map entry_piece t.entries)) o.good.owner_good
        (ap (λ (q : Piece). q.tag) (sym o.is))
        (ap (λ (q : Piece). q.body) (sym o.is))

    -- a search for a kind or a UUID wants a table just where the table belongs to it
    pub table_told : (w : Owner) → wanted (owner_want w) [] s p ≡ true → t.owner ≡ w
    table_told w h = owner_told t.owner w table_reads h

    pub table_wanted : (w : Owner) → t.owner ≡ w → wanted (owner_want w) [] s p ≡ true
    table_wanted w e = ap (λ (v : Owner). wanted (owner_want v) [] s p) (sym e) ∙ owner_wanted t.owner table_reads

    table_want_lem : table_want (take p.to s) p.tag p.from ≡ owner_want t.owner
    table_want_lem = want_is t.owner p.tag (take p.to s) p.from table_reads

module _ (s : List ℕ) where
  module _ (p q : Part) (t v : Table) (o : PartOf table_piece GoodTable s p t) (r : PartOf table_piece GoodTable s q v) where
    table_clashing : t.owner ≡ v.owner → same_table s p q ≡ true
    unfolding same_table
    table_clashing h = rw (table_want_lem s p t o) (table_wanted s q v r t.owner (sym h))

    table_telling : same_table s p q ≡ true → t.owner ≡ v.owner
    unfolding same_table
    table_telling h = sym (table_told s q v r t.owner (rw (table_want_lem s p t o) at h))

  -- tables that fill a text: each good, none twice
  pub record FromTables (at : ℕ) : Type 0 where
    pub made : Made table_piece GoodTable (drop at s)
    pub apart : Apart (λ t v. t.owner ≡ v.owner) made.values

  -- sound
  pub tables_is : Bytes s → (at : ℕ) → tables_fill s at ≡ true → FromTables at
  unfolding tables_fill
  tables_is bytes at h =
      let w = both_true (filled (table_ok s) s at) (once (same_table s) (parts s at)) h in
      let m = row_is table_piece GoodTable table_body s table_is bytes at w.0 in
      record { made = m; apart = once-apart table_piece GoodTable s (same_table s) (λ t v. t.owner ≡ v.owner) table_clashing at m w.1 }

  -- complete
  pub tables_all : (at : ℕ) → FromTables at → tables_fill s at ≡ true
  unfolding tables_fill
  tables_all at f =
      rw (row_all table_piece GoodTable table_body s table_all at f.made)
      (apart-once table_piece GoodTable s (same_table s) (λ t v. t.owner ≡ v.owner) table_telling at f.made f.apart)
