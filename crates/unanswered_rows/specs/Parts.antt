-- The parts of a row, and a part put into a buffer.
use Rattle.std.specs.Prelude.{ℕ, zero, suc, ◌+◌, ◌-◌, ◌/◌, ◌%◌, ◌^◌, ◌≤◌, ◌≡◌, cond, List, [], ◌∷◌, ◌++◌, eqb, length, drop, replicate}
use Rattle.text.specs.Decimal.{decimal_text}
use Rattle.print.specs.Hex.{dword_text}
use Rattle.print.specs.declared.page.Page.{Page}
use Rattle.listing_rows.specs.Rows.{Put}

-- a number in decimal, with zeros in front where it has fewer than six digits
unfoldable pub six_text : ℕ → List ℕ
six_text n = replicate (6 - length (decimal_text n)) 48 ++ decimal_text n

-- how many zeros a text starts with, of so many at most
unfoldable pub zeros_in : ℕ → List ℕ → ℕ
zeros_in zero s = 0
zeros_in (suc k) [] = 0
zeros_in (suc k) (b ∷ s) = cond (eqb b 48) (suc (zeros_in k s)) 0

-- a number of 64 bits in sixteen hex digits
unfoldable pub sixteen_text : ℕ → List ℕ
sixteen_text n = dword_text (n / 2 ^ 32) ++ dword_text (n % 2 ^ 32)

-- the same with no zero in front but for the number 0
unfoldable pub route_text : ℕ → List ℕ
route_text n = drop (zeros_in 15 (sixteen_text n)) (sixteen_text n)

-- a text stands in the buffer from a place on, all else as found, and has no more bytes than said
pub record Part (out : List ℕ) (at : ℕ) (s exit : List ℕ) (r most : ℕ) : Type 0 where
  pub put : Put out at s exit r
  pub short : r ≤ at + most
  pub size : length exit ≡ length out

-- the same on a page, whose buffer is the one that was lent
pub record PartOn (p : Page) (s : List ℕ) (q : Page) (most : ℕ) : Type 0 where
  pub part : Part p.out.now p.at s q.out.now q.at most
  pub same : q.out.ghost_name ≡ p.out.ghost_name
