-- Values of a bit range: a body passes the test just where it is made from a good value, and two stand twice just where their numbers are equal.
-- Assumes nothing.
use Prim.Native.Nat.{ℕ, ◌+◌, ◌≤◌}
use mathlib.Core.Path.{◌≡◌, ◌∙◌, sym, ap}
use mathlib.Core.Bool.{Bool, true, ◌&&◌}
use mathlib.Core.List.{List}
use native.Mathlib.Omega.{arith}
use borrow.Author.Tests.{eqb-true, eq-eqb, leb-true, le-leb}
use lib.Dec.{eqb, leb}
use lib.ListN.{length, take, drop}
use Rattle.tlv.specs.Number.{Bytes, number}
use Rattle.tlv.specs.Grammar.{Piece, Apart, FromValue, Made}
use Rattle.tlv.specs.Reading.{Part, parts, filled, once}
use Rattle.tlv.proofs.Numbers.{number_below, number_made}
use Rattle.tlv.proofs.Pieces.{both_true}
use Rattle.tlv.proofs.Twice.{PartOf, once-apart, apart-once}
use Rattle.book.specs.Grammar.{Value, GoodValue, value_piece}
use Rattle.book.specs.Search.{fits, wanted}
use Rattle.book.specs.Reading.{is_name, field_ok, value_body, same_value, values_fill}
use Rattle.book.proofs.Names.{name_is, name_all}
use Rattle.book.proofs.Inside.{row_is, row_all, number_first, number_back, number_room}

abbrev value_test : ℕ → List ℕ → ℕ → Bool
value_test tag u from = eqb tag 7 && value_body u from

value_is : (tag : ℕ) (u : List ℕ) (from : ℕ) → Bytes u → value_test tag u from ≡ true
    → FromValue value_piece GoodValue (record { tag = tag; body = drop from u })
unfolding value_body
value_is tag u from bytes h =
    let w = both_true (eqb tag 7) (value_body u from) h in
    let v = both_true (leb (from + 4) (length u)) (is_name (drop (from + 4) u)) w.1 in
    let body = number_first u 4 from bytes (leb-true (from + 4) (length u) v.0) in
    record {
      value = record { number = number 4 u from; name = drop (from + 4) u };
      good = record { number_fits = number_below 4 u bytes from; name_good = name_is (drop (from + 4) u) v.1 };
      is = λ i. record { tag = sym (eqb-true tag 7 w.0) i; body = sym body i };
    }

value_all : (v : Value) (u : List ℕ) (from : ℕ) → GoodValue v → drop from u ≡ (value_piece v).body → value_test 7 u from ≡ true
unfolding value_body
value_all v u from g made =
    let back : drop (from + 4) u ≡ v.name = number_back u 4 from v.number v.name made in
    let room : from + 4 ≤ length u = number_room u 4 from v.number v.name made (omega arith) in
    rw (le-leb (from + 4) (length u) room, back) (name_all v.name g.name_good)

module _ (s : List ℕ) where
  -- the number of a value's part is the value's
  module _ (p : Part) (v : Value) (o : PartOf value_piece GoodValue s p v) where
    pub value_number : number 4 (take p.to s) p.from ≡ v.number
    value_number =
        number_made 4 v.number (take p.to s) p.from v.name o.good.number_fits (ap (λ (q : Piece). q.body) (sym o.is))

    pub value_tag : p.tag ≡ 7
    value_tag = ap (λ (q : Piece). q.tag) (sym o.is)

  module _ (p q : Part) (v w : Value) (o : PartOf value_piece GoodValue s p v) (r : PartOf value_piece GoodValue s q w) where
    value_clashing : v.number ≡ w.number → same_value s p q ≡ true
    unfolding same_value wanted fits
    value_clashing h =
        rw (eq-eqb q.tag 7 (value_tag q w r))
        (eq-eqb (number 4 (take q.to s) q.from) (number 4 (take p.to s) p.from) (value_number q w r ∙ sym h ∙ sym (value_number p v o)))

    value_telling : same_value s p q ≡ true → v.number ≡ w.number
    unfolding same_value wanted fits
    value_telling h =
        let e = both_true (eqb q.tag 7) (eqb (number 4 (take q.to s) q.from) (number 4 (take p.to s) p.from)) h in
        sym (value_number p v o)
        ∙ sym (eqb-true (number 4 (take q.to s) q.from) (number 4 (take p.to s) p.from) e.1)
        ∙ value_number q w r

  -- values that fill a body: each good, none twice
  pub record FromValues (at : ℕ) : Type 0 where
    pub made : Made value_piece GoodValue (drop at s)
    pub apart : Apart (λ v w. v.number ≡ w.number) made.values

  -- sound
  pub values_is : Bytes s → (at : ℕ) → values_fill s at ≡ true → FromValues at
  unfolding values_fill
  values_is bytes at h =
      let w = both_true (filled (field_ok 7 value_body s) s at) (once (same_value s) (parts s at)) h in
      let m = row_is value_piece GoodValue value_test s value_is bytes at w.0 in
      record { made = m; apart = once-apart value_piece GoodValue s (same_value s) (λ v w. v.number ≡ w.number) value_clashing at m w.1 }

  -- complete
  pub values_all : (at : ℕ) → FromValues at → values_fill s at ≡ true
  unfolding values_fill
  values_all at f =
      rw (row_all value_piece GoodValue value_test s value_all at f.made)
      (apart-once value_piece GoodValue s (same_value s) (λ v w. v.number ≡ w.number) value_telling at f.made f.apart)
