-- Parts put one behind the other are their concatenation, and reach no further than both. Assumes nothing.
use Prim.Native.Nat.{ℕ, ◌+◌, ◌≤◌}
use mathlib.Core.Path.{◌∙◌}
use mathlib.Core.List.{List, [], ◌++◌}
use native.Mathlib.Omega.{arith}
use lib.ListN.{length}
use Rattle.text.specs.Decimal.{decimal_text}
use Rattle.print.specs.Put.{Placed}
use Rattle.listing_rows.specs.Rows.{Room, PutOn, word_and_number}
use Rattle.listing_rows.proofs.Putting.{put_whole, put_then, put_size, word_number, word_length}
use Rattle.print.specs.Page.{Puts}
use Rattle.print.specs.declared.page.Page.{Page}
use Rattle.unanswered_rows.specs.Parts.{Part, PartOn}

-- a text that fits
pub text_part : {out s exit : List ℕ} {at r : ℕ} (most : ℕ) → length s ≤ most → at + length s ≤ length out → Placed out at s exit r → Part out at s exit r most
text_part most short h p =
    let x = put_whole h p in
    record { put = x; short = omega (arith, x.place); size = put_size x }

-- a word and a number
pub number_part : (n : ℕ) {out mid exit word : List ℕ} {at p r : ℕ} → at + length word + 20 ≤ length out → Placed out at word mid p → Placed mid p (decimal_text n) exit r → Part out at (word_and_number word n) exit r (length word + 20)
number_part n {word = word} h x y =
    let z = word_number n h x y in
    record { put = z; short = omega (arith, z.place, word_length word n); size = put_size z }

-- one part behind another
pub part_then : {out a b mid exit : List ℕ} {at p r m k : ℕ} → Part out at a mid p m → Part mid p b exit r k → Part out at (a ++ b) exit r (m + k)
part_then x y =
    record {
      put = put_then x.put y.put;
      short = omega (arith, x.short, y.short);
      size = y.size ∙ x.size;
    }

-- a part that is said to reach further
pub longer : {out s exit : List ℕ} {at r m k : ℕ} → Part out at s exit r m → m ≤ k → Part out at s exit r k
longer x h = record { put = x.put; short = omega (arith, x.short); size = x.size }

-- ---- on a page
pub text_on : {p q : Page} {s : List ℕ} → Room p (length s) → Puts p s q → PartOn p s q (length s)
text_on h x = record { part = text_part _ (omega arith) h x.placed; same = x.same }

pub number_on : (n : ℕ) {p m q : Page} {word : List ℕ} → Room p (length word + 20) → Puts p word m → Puts m (decimal_text n) q → PartOn p (word_and_number word n) q (length word + 20)
number_on n h x y = record { part = number_part n (omega (arith, h)) x.placed y.placed; same = y.same ∙ x.same }

pub on_then : {p m q : Page} {a b : List ℕ} {j k : ℕ} → PartOn p a m j → PartOn m b q k → PartOn p (a ++ b) q (j + k)
on_then x y = record { part = part_then x.part y.part; same = y.same ∙ x.same }

pub on_longer : {p q : Page} {s : List ℕ} {m k : ℕ} → PartOn p s q m → m ≤ k → PartOn p s q k
on_longer x h = record { part = longer x.part h; same = x.same }

pub on_put : {p q : Page} {s : List ℕ} {m : ℕ} → PartOn p s q m → PutOn p s q
on_put x = record { put = x.part.put; same = x.same }

pub number_first : (n : ℕ) {p m q : Page} {b : List ℕ} {j k : ℕ} → PartOn p (word_and_number [] n) m j → PartOn m b q k → PartOn p (decimal_text n ++ b) q (j + k)
unfolding word_and_number
number_first n x y = on_then x y
