-- Bit ranges of a dword: what bits low to high are, bit by bit, and the one number that they make.
-- Assumes nothing.
use Rattle.std.specs.Prelude.{ℕ, ◌+◌, ◌-◌, ◌/◌, ◌%◌, ◌^◌, ◌<◌, ◌≡◌, Bool, true, false, ◌&&◌, leb}

-- bit k of a number, 0 or 1, counted from the low end
unfoldable pub bit : ℕ → ℕ → ℕ
bit k n = n / 2 ^ k % 2

-- how many bits stand from low to high, both ends in
abbrev pub width : ℕ → ℕ → ℕ
width low high = high - low + 1

-- v holds bits low to high of a dword and nothing else: its bit k is the dword's bit low + k
pub record Bits (dword low high v : ℕ) : Type 0 where
  pub cut : v < 2 ^ width low high
  pub each : (k : ℕ) → k < width low high → bit k v ≡ bit (low + k) dword

-- the range lies in a dword: low ≤ high ≤ 31
abbrev pub in_dword : ℕ → ℕ → Bool
in_dword low high = leb low high && leb high 31

-- the value where the range lies in a dword, and 0, the number with no bit set, where it does not
abbrev pub or_zero : Bool → ℕ → ℕ
or_zero true n = n
or_zero false n = 0

-- the dword shifted down by the low bit, cut to high - low + 1 bits
unfoldable pub range_of : ℕ → ℕ → ℕ → ℕ
range_of dword low high = or_zero (in_dword low high) (dword / 2 ^ low % 2 ^ width low high)
