-- Bit ranges: a body passes the test just where it is made from a good range. Assumes nothing.
use Prim.Native.Nat.{ℕ, ◌+◌, ◌≤◌}
use mathlib.Core.Path.{◌≡◌, ◌∙◌, sym, ap}
use mathlib.Core.Bool.{Bool, true, ◌&&◌, false≢true}
use mathlib.Core.List.{List, ◌∷◌, ◌++◌, map}
use mathlib.Core.Logic.{⊎_elim}
use native.Mathlib.Omega.{arith}
use borrow.Author.Tests.{eqb-true, leb-true, le-leb}
use lib.Dec.{eqb, leb}
use lib.ListN.{length, get_or, drop, length-drop}
use Rattle.tlv.specs.Number.{Bytes}
use Rattle.tlv.specs.Grammar.{field_bytes, fields_bytes, FromValue, Made}
use Rattle.tlv.proofs.Numbers.{drop_next}
use Rattle.tlv.proofs.Fields.{drop_first}
use Rattle.tlv.proofs.Pieces.{both_true}
use Rattle.book.specs.Grammar.{Range, GoodRange, range_piece, value_piece}
use Rattle.book.specs.Search.{body_at, after}
use Rattle.book.specs.Reading.{is_name, values_fill, range_body, ranges_fill}
use Rattle.book.proofs.Names.{name_empty, name_is, name_all}
use Rattle.book.proofs.Inside.{row_is, row_all, Present, Absent, present_or_absent, Read, made_present}
use Rattle.book.proofs.Values.{FromValues, values_is, values_all}

abbrev range_test : ℕ → List ℕ → ℕ → Bool
range_test tag u from = eqb tag 6 && range_body u from

-- a name that must be there: its field stands at the place
named_is : (u : List ℕ) → Bytes u → (at : ℕ) → is_name (body_at 4 u at) ≡ true
    → drop at u ≡ field_bytes 4 (body_at 4 u at) ++ drop (after 4 u at) u
named_is u bytes at h =
    ⊎_elim
    (λ (w : Present 4 u at). w.made)
    (λ (w : Absent 4 u at). absurd (false≢true (sym (name_empty (body_at 4 u at) (ap length w.empty)) ∙ h)))
    (present_or_absent 4 u at bytes)

-- the tests of a body, one by one
record Passed (u : List ℕ) (from : ℕ) : Type 0 where
  room : from + 2 ≤ length u
  low_high : get_or u from 0 ≤ get_or u (from + 1) 0
  high_most : get_or u (from + 1) 0 ≤ 31
  name : is_name (body_at 4 u (from + 2)) ≡ true
  values : values_fill u (after 4 u (from + 2)) ≡ true

passed : (u : List ℕ) (from : ℕ) → range_body u from ≡ true → Passed u from
unfolding range_body
passed u from h =
    let low : ℕ = get_or u from 0 in
    let high : ℕ = get_or u (from + 1) 0 in
    let last : Bool = values_fill u (after 4 u (from + 2)) in
    let name : Bool = is_name (body_at 4 u (from + 2)) in
    let a = both_true (leb (from + 2) (length u)) (leb low high && (leb high 31 && (name && last))) h in
    let b = both_true (leb low high) (leb high 31 && (name && last)) a.1 in
    let c = both_true (leb high 31) (name && last) b.1 in
    let d = both_true name last c.1 in
    record {
      room = leb-true (from + 2) (length u) a.0;
      low_high = leb-true low high b.0;
      high_most = leb-true high 31 c.0;
      name = d.0;
      values = d.1;
    }

range_is : (tag : ℕ) (u : List ℕ) (from : ℕ) → Bytes u → range_test tag u from ≡ true
    → FromValue range_piece GoodRange (record { tag = tag; body = drop from u })
range_is tag u from bytes h =
    let w = both_true (eqb tag 6) (range_body u from) h in
    let p : Passed u from = passed u from w.1 in
    let f : FromValues u (after 4 u (from + 2)) = values_is u bytes (after 4 u (from + 2)) p.values in
    let room : from + 2 ≤ length u = p.room in
    let next : from + 1 + 1 ≡ from + 2 = omega arith in
    let body : drop from u
    ≡ get_or u from 0 ∷ get_or u (from + 1) 0
    ∷ (field_bytes 4 (body_at 4 u (from + 2)) ++ fields_bytes (map value_piece f.made.values)) =
    rw (drop_first u from (omega arith), drop_first u (from + 1) (omega arith), next)
    (ap (λ (l : List ℕ). get_or u from 0 ∷ get_or u (from + 1) 0 ∷ l)
    (named_is u bytes (from + 2) p.name
    ∙ ap (λ (l : List ℕ). field_bytes 4 (body_at 4 u (from + 2)) ++ l) f.made.bytes)) in
    record {
      value =
          record {
            low = get_or u from 0;
            high = get_or u (from + 1) 0;
            name = body_at 4 u (from + 2);
            values = f.made.values;
          };
      good =
          record {
            low_high = p.low_high;
            high_most = p.high_most;
            name_good = name_is (body_at 4 u (from + 2)) p.name;
            values_good = f.made.good;
            values_apart = f.apart;
          };
      is = λ i. record { tag = sym (eqb-true tag 6 w.0) i; body = sym body i };
    }

-- what a body made from a range reads as
pub record ReadRange (u : List ℕ) (from : ℕ) (r : Range) : Type 0 where
  pub room : from + 2 ≤ length u
  pub low_is : get_or u from 0 ≡ r.low
  pub high_is : get_or u (from + 1) 0 ≡ r.high
  pub name_is : body_at 4 u (from + 2) ≡ r.name
  pub values_made : drop (after 4 u (from + 2)) u ≡ fields_bytes (map value_piece r.values)

pub range_reads : (r : Range) (u : List ℕ) (from : ℕ) → drop from u ≡ (range_piece r).body → ReadRange u from r
range_reads r u from made =
    let first = drop_next u from made in
    let second = drop_next u (from + 1) first.1 in
    let next : from + 1 + 1 ≡ from + 2 = omega arith in
    let n : Read 4 u (from + 2) r.name (fields_bytes (map value_piece r.values)) =
    made_present 4 u (from + 2) r.name (fields_bytes (map value_piece r.values)) (ap (λ (k : ℕ). drop k u) (sym next) ∙ second.1) in
    record {
      room = omega (arith, ap length made, length-drop from u);
      low_is = first.0;
      high_is = second.0;
      name_is = n.text;
      values_made = n.rest;
    }

range_all : (r : Range) (u : List ℕ) (from : ℕ) → GoodRange r → drop from u ≡ (range_piece r).body → range_test 6 u from ≡ true
unfolding range_body
range_all r u from g made =
    let w : ReadRange u from r = range_reads r u from made in
    let low_high : r.low ≤ r.high = g.low_high in
    let high_most : r.high ≤ 31 = g.high_most in
    let named : is_name (body_at 4 u (from + 2)) ≡ true = ap is_name w.name_is ∙ name_all r.name g.name_good in
    rw (
      le-leb (from + 2) (length u) w.room,
      w.low_is,
      w.high_is,
      le-leb r.low r.high low_high,
      le-leb r.high 31 high_most,
      named,
    )
    (values_all u (after 4 u (from + 2))
    (record {
      made = record { values = r.values; good = g.values_good; bytes = w.values_made };
      apart = g.values_apart;
    }))

module _ (s : List ℕ) where
  -- sound
  pub ranges_is : Bytes s → (at : ℕ) → ranges_fill s at ≡ true → Made range_piece GoodRange (drop at s)
  unfolding ranges_fill
  ranges_is bytes at h = row_is range_piece GoodRange range_test s range_is bytes at h

  -- complete
  pub ranges_all : (at : ℕ) → Made range_piece GoodRange (drop at s) → ranges_fill s at ≡ true
  unfolding ranges_fill
  ranges_all at m = row_all range_piece GoodRange range_test s range_all at m
