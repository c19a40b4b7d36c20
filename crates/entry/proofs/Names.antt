-- What a code prints tells the code, by computed tests over the table: rows of one name have one code, so two named codes with one name are one; no name is
-- digits alone, so none is a decimal, and a decimal reads back to its number. A third, over all 256 codes, ties the table to document 01's ranges.
-- Assumes nothing.
use Prim.Native.Nat.{ℕ, ◌^◌, ◌<◌}
use mathlib.Core.Path.{◌≡◌, refl, sym, ap, ◌∙◌}
use mathlib.Core.Bool.{Bool, true, false, not, ◌||◌}
use mathlib.Core.List.{List}
use native.Mathlib.Omega.{arith}
use lib.Dec.{eqb}
use lib.ListN.{take}
use borrow.Author.Tests.{eqb-true, not-true}
use Rattle.text.specs.Class.{is_digit, between}
use Rattle.text.specs.Quote.{bytes}
use Rattle.text.specs.Same.{same_text}
use Rattle.text.specs.Number.{digit_of, value, all_digits}
use Rattle.text.specs.Decimal.{decimal_text}
use Rattle.text.proofs.Places.{clash}
use Rattle.text.proofs.Texts.{same_refl}
use Rattle.text.proofs.Computed.{all, all_at, same, same_is}
use Rattle.text.proofs.Decimals.{decimal_prints}
use Rattle.entry.specs.declared.events.Event.TheVariants.{Unknown}
use Rattle.entry.specs.declared.events.Name.{Name}
use Rattle.entry.specs.Codes.{Row, code, gap, table, holds, row_in, name_in}
use Rattle.entry.specs.Event.{event_of, name_at, name_of, padded}
use Rattle.entry.specs.Names.{has_name, Named, printed, NamesTellCodes}
use Rattle.entry.proofs.Rows.{named, gap_says, every, every_found, printed_at}
use Rattle.entry.proofs.Pads.{name_start}

-- ---- the tests

-- where two rows have one name, they have one code
abbrev apart : Row → Row → Bool
apart (code c e name) (code d f other) = not (same_text (bytes name) (bytes other)) || eqb c d
apart (code c e name) (gap low high) = true
apart (gap low high) q = true

table_apart : every (λ r. every (apart r) table) table ≡ true
unfolding table
table_apart = refl

-- a row's name is not digits alone
abbrev worded : Row → Bool
worded (code c e name) = not (all_digits 10 (bytes name))
worded (gap low high) = true

table_worded : every worded table ≡ true
unfolding table all_digits digit_of is_digit between
table_worded = refl

-- ---- what they say of the rows of two codes, and of one

abbrev OneCode : ℕ → ℕ → Row → Row → Type 0
OneCode a b r q = named r ≡ true → named q ≡ true → name_in r a ≡ name_in q b → a ≡ b

rows_apart : (a b : ℕ) (r q : Row) → apart r q ≡ true → holds r a ≡ true → holds q b ≡ true → OneCode a b r q
rows_apart a b (code c e name) (code d f other) t h k x y same =
    let one = ap (same_text (bytes name)) (sym same) ∙ same_refl (bytes name) in
    eqb-true a c h ∙ eqb-true c d (rw one at t) ∙ sym (eqb-true b d k)
rows_apart a b (code c e name) (gap low high) t h k x y same = absurd (clash y refl)
rows_apart a b (gap low high) q t h k x y same = absurd (clash x refl)

one_named : (a b : ℕ) → OneCode a b (row_in table a) (row_in table b)
one_named a b =
    every_found (λ r. every (apart r) table) (λ r. OneCode a b r (row_in table b)) a
    (λ r t h. every_found (apart r) (OneCode a b r) b (λ q u k. rows_apart a b r q u h k) (λ x y same. absurd (clash y refl)) table t)
    (λ x y same. absurd (clash x refl)) table table_apart

abbrev Worded : ℕ → Row → Type 0
Worded n r = named r ≡ true → all_digits 10 (name_in r n) ≡ false

row_worded : (n : ℕ) (r : Row) → worded r ≡ true → holds r n ≡ true → Worded n r
row_worded n (code c e name) t h x = not-true _ t
row_worded n (gap low high) t h x = absurd (clash x refl)

named_worded : (n : ℕ) → Worded n (row_in table n)
named_worded n = every_found worded (Worded n) n (row_worded n) (λ x. absurd (clash x refl)) table table_worded

-- ---- codes

-- does the row of a code name it?
abbrev in_row : ℕ → Bool
in_row n = named (row_in table n)

named_in_row : (n : ℕ) → Named n → in_row n ≡ true
unfolding event_of
named_in_row n known = go (in_row n) refl
  where
    go : (b : Bool) → in_row n ≡ b → b ≡ true
    go true e = refl
    go false e = absurd (known (gap_says (row_in table n) n e).0)

gap_decimal : (n : ℕ) → in_row n ≡ false → printed n ≡ decimal_text n
unfolding name_at
gap_decimal n e = printed_at n ∙ (gap_says (row_in table n) n e).1

row_no_decimal : (a n : ℕ) → in_row a ≡ true → n < 2 ^ 64 → printed a ≡ decimal_text n → ⊥
unfolding name_at
row_no_decimal a n l h same =
    clash (ap (all_digits 10) (sym (printed_at a) ∙ same) ∙ (decimal_prints n (omega arith)).digits) (named_worded a l)

one_decimal : (a b : ℕ) → a < 2 ^ 64 → b < 2 ^ 64 → decimal_text a ≡ decimal_text b → a ≡ b
one_decimal a b h k same =
    sym (decimal_prints a (omega arith)).reads ∙ ap (value 10 0) same ∙ (decimal_prints b (omega arith)).reads

rows_differ : (a b : ℕ) → in_row a ≡ true → in_row b ≡ true → printed a ≡ printed b → a ≡ b
unfolding name_at
rows_differ a b h k same = one_named a b h k (sym (printed_at a) ∙ same ∙ printed_at b)

-- ---- document 01's ranges

agree : ℕ → Bool
agree n = same (in_row n) (has_name n)

all_agree : all agree 256 0 ≡ true
unfolding all agree same between table
all_agree = refl

rows_by_ranges : (n : ℕ) → n < 256 → in_row n ≡ has_name n
unfolding agree
rows_by_ranges n h = same_is _ _ (all_at agree 256 0 all_agree n (omega arith) (omega arith))

these_named : (n : ℕ) → n < 256 → has_name n ≡ true → Named n
unfolding name_of
these_named n h k e = row_no_decimal n n (rows_by_ranges n h ∙ k) (omega arith) (ap name_of e)

others_unknown : (n : ℕ) → n < 256 → has_name n ≡ false → event_of n ≡ Unknown n
unfolding event_of
others_unknown n h k = (gap_says (row_in table n) n (rows_by_ranges n h ∙ k)).0

-- ---- all codes

tells : (a b : ℕ) → a < 256 → b < 256 → printed a ≡ printed b → a ≡ b
tells a b h k same = go (in_row a) (in_row b) refl refl
  where
    go : (x y : Bool) → in_row a ≡ x → in_row b ≡ y → a ≡ b
    go true true p q = rows_differ a b p q same
    go true false p q = absurd (row_no_decimal a b p (omega arith) (same ∙ gap_decimal b q))
    go false true p q = absurd (row_no_decimal b a q (omega arith) (sym same ∙ gap_decimal a p))
    go false false p q = one_decimal a b (omega arith) (omega arith) (sym (gap_decimal a p) ∙ same ∙ gap_decimal b q)

one_padded : (s t : List ℕ) → padded s ≡ padded t → s ≡ t
one_padded s t same = sym (name_start s refl) ∙ ap (λ (n : Name). take n.len n.bytes) same ∙ name_start t refl

pub names_tell_codes : NamesTellCodes
unfolding event_of name_of name_at table between
names_tell_codes =
    record {
      link_recovery = refl;
      dp_con_change = refl;
      these_are_named = these_named;
      others_are_unknown = others_unknown;
      names_differ = λ a b m n. rows_differ a b (named_in_row a m) (named_in_row b n);
      no_decimal = λ a n m. row_no_decimal a n (named_in_row a m);
      name_tells_code = tells;
      padded_tells_code = λ a b h k same. tells a b h k (one_padded (printed a) (printed b) same);
    }
