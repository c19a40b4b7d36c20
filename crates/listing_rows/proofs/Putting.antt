-- Texts put one behind the other are their concatenation put at once, and no number has more than 20 digits. Assumes nothing.
use Prim.Native.Nat.{ℕ, zero, suc, ◌+◌, ◌/◌, ◌%◌, ◌^◌, ◌≤◌, ◌<◌}
use mathlib.Core.Path.{◌≡◌, ap, ◌∙◌}
use mathlib.Core.Bool.{Bool, true, false, cond}
use mathlib.Core.List.{List, [], ◌∷◌, ◌++◌}
use native.Mathlib.Omega.{arith}
use lib.Dec.{ltb}
use lib.ListN.{length, set, length-append}
use lib.Seq.{sets, length-sets}
use borrow.Author.Tests.{le-leb}
use Rattle.text.specs.Decimal.{digits_within, decimal_text}
use Rattle.print.specs.Put.{Placed, buffer_after, place_after}
use Rattle.text.specs.Quote.{bytes}
use Rattle.text.proofs.Places.{by_order}
use Rattle.text.proofs.Decimals.{decimal_short, decimal_long}
use Rattle.listing_rows.specs.Rows.{Put, word_and_number, refused_row, entry_row, totals_row}

sets_append : (l : List ℕ) (i j : ℕ) (a b : List ℕ) → j ≡ i + length a → sets (sets l i a) j b ≡ sets l i (a ++ b)
sets_append l i j [] b e = let q : j ≡ i = omega arith in rw q
sets_append l i j (x ∷ a) b e = sets_append (set l i x) (suc i) j a b (omega arith)

-- what fits is put
pub put_whole : {out s exit : List ℕ} {at r : ℕ} → at + length s ≤ length out → Placed out at s exit r → Put out at s exit r
unfolding buffer_after place_after
put_whole {out} {s} {exit} {at} {r} h p =
    record {
      fits = h;
      buffer = p.buffer ∙ rw (le-leb _ _ h);
      place = p.place ∙ rw (le-leb _ _ h);
    }

-- one text behind another
pub put_then : {out a b mid exit : List ℕ} {at p r : ℕ} → Put out at a mid p → Put mid p b exit r → Put out at (a ++ b) exit r
put_then {out} {a} {b} {mid} {exit} {at} {p} {r} x y =
    let size : length mid ≡ length out = ap length x.buffer ∙ length-sets out at a in
    record {
      fits = omega (arith, length-append a b, y.fits, x.place);
      buffer = y.buffer ∙ ap (λ (l : List ℕ). sets l p b) x.buffer ∙ sets_append out at p a b x.place;
      place = omega (arith, length-append a b, y.place, x.place);
    }

pub put_size : {out s exit : List ℕ} {at r : ℕ} → Put out at s exit r → length exit ≡ length out
put_size {out} {s} {exit} {at} x = ap length x.buffer ∙ length-sets out at s

digits_length : (k n : ℕ) → length (digits_within k n) ≤ k
unfolding digits_within
digits_length zero n = omega arith
digits_length (suc k) n = go (ltb n 10) (digits_length k (n / 10))
  where
    go : (b : Bool) → length (digits_within k (n / 10)) ≤ k → length (cond b ((48 + n) ∷ []) (digits_within k (n / 10) ++ ((48 + n % 10) ∷ []))) ≤ suc k
    go true h = omega arith
    go false h = omega (arith, length-append (digits_within k (n / 10)) ((48 + n % 10) ∷ []))

pub decimal_length : (n : ℕ) → length (decimal_text n) ≤ 20
unfolding decimal_text
decimal_length n = digits_length 20 n

-- a number put where there is room for 20 digits
pub decimal_put : {out exit : List ℕ} {at r : ℕ} (n : ℕ) → at + 20 ≤ length out → Placed out at (decimal_text n) exit r → Put out at (decimal_text n) exit r
decimal_put n h p = put_whole (omega (arith, decimal_length n)) p

-- a word and a number
pub word_number : (n : ℕ) {out mid exit word : List ℕ} {at p r : ℕ} → at + length word + 20 ≤ length out → Placed out at word mid p → Placed mid p (decimal_text n) exit r → Put out at (word_and_number word n) exit r
unfolding word_and_number
word_number n {out} {mid} {exit} {word} {at} {p} {r} h x y =
    let a : Put out at word mid p = put_whole (omega arith) x in
    let size : length mid ≡ length out = put_size a in
    put_then a (decimal_put n (omega (arith, a.place)) y)

-- the newline that ends a row
pub newline_put : {out exit : List ℕ} {at r : ℕ} → at + 1 ≤ length out → Placed out at (10 ∷ []) exit r → Put out at (10 ∷ []) exit r
newline_put h p = put_whole h p

-- how far a word and a number reach
pub word_length : (word : List ℕ) (n : ℕ) → length (word_and_number word n) ≤ length word + 20
unfolding word_and_number
word_length word n = omega (arith, length-append word (decimal_text n), decimal_length n)

-- a number of 8 bits has at most three digits
byte_length : (n : ℕ) → n < 256 → length (decimal_text n) ≤ 3
byte_length n h =
    by_order n 10 (λ l. rw (decimal_short n l) (omega arith)) (λ e. long (omega arith)) (λ l. long (omega arith))
  where
    long : 10 ≤ n → length (decimal_text n) ≤ 3
    long l =
        let big : n < 10 ^ 20 = omega arith in
        rw (decimal_long n l big)
        (by_order (n / 10) 10 (λ m. rw (decimal_short (n / 10) m) (omega arith)) (λ e. longer (omega arith)) (λ m. longer (omega arith)))
      where
        longer : 10 ≤ n / 10 → length (decimal_text (n / 10) ++ ((48 + n % 10) ∷ [])) ≤ 3
        longer m =
            let big : n / 10 < 10 ^ 20 = omega arith in
            let last : n / 10 / 10 < 10 = omega arith in
            rw (decimal_long (n / 10) m big, decimal_short (n / 10 / 10) last) (omega arith)

pub short_number : (word : List ℕ) (n : ℕ) → n < 256 → length (word_and_number word n) ≤ length word + 3
unfolding word_and_number
short_number word n h = omega (arith, length-append word (decimal_text n), byte_length n h)

-- the rows, from their parts in order
module _ {out : List ℕ} {at : ℕ} (room : at + 64 ≤ length out) where
  -- room for what follows a number or a word and a number
  pub room_behind : {m : List ℕ} {a : ℕ} (n : ℕ) → Placed out at (decimal_text n) m a → (at ≤ a) × (a ≤ at + 20) × (length m ≡ length out)
  room_behind n x =
      let p = decimal_put n (omega arith) x in
      (omega (arith, p.place), omega (arith, p.place, decimal_length n), put_size p)

  pub refused_row_lem : (line number : ℕ) {m₁ m₂ exit : List ℕ} {a b r : ℕ} → Placed out at (decimal_text line) m₁ a → Put m₁ a (word_and_number (bytes " refused ") number) m₂ b → Placed m₂ b (10 ∷ []) exit r → Put out at (refused_row line number) exit r
  unfolding refused_row
  refused_row_lem line number x y z =
      let p = decimal_put line (omega arith) x in
      put_then p
      (put_then y
      (newline_put (omega (arith, p.place, put_size p, put_size y, y.place, decimal_length line, word_length (bytes " refused ") number)) z))

  pub entry_row_lem : (line kind dwords : ℕ) {m₁ m₂ m₃ exit : List ℕ} {a b c r : ℕ} → Placed out at (decimal_text line) m₁ a → Put m₁ a (word_and_number (bytes " kind ") kind) m₂ b → kind < 256 → Put m₂ b (word_and_number (bytes " dwords ") dwords) m₃ c → Placed m₃ c (10 ∷ []) exit r → Put out at (entry_row line kind dwords) exit r
  unfolding entry_row
  entry_row_lem line kind dwords x y small w z =
      let p = decimal_put line (omega arith) x in
      put_then p
      (put_then y
      (put_then w
      (newline_put (omega (arith, p.place, put_size p, put_size y, y.place, put_size w, w.place, decimal_length line, short_number (bytes " kind ") kind small, word_length (bytes " dwords ") dwords)) z)))

module _ {out : List ℕ} {at : ℕ} (room : at + 64 ≤ length out) where
  pub totals_row_lem : (lines entries : ℕ) {m₁ m₂ exit : List ℕ} {a b r : ℕ} → Put out at (word_and_number (bytes "lines ") lines) m₁ a → Put m₁ a (word_and_number (bytes " entries ") entries) m₂ b → Placed m₂ b (10 ∷ []) exit r → Put out at (totals_row lines entries) exit r
  unfolding totals_row
  totals_row_lem lines entries x y z =
      put_then x
      (put_then y
      (newline_put (omega (arith, x.place, put_size x, put_size y, y.place, word_length (bytes "lines ") lines, word_length (bytes " entries ") entries)) z))
