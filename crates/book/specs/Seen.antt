-- Which numbers of 16 bits were met, one bit each in words of 64 bits.
-- Assumes nothing.
use Rattle.std.specs.Prelude.{ℕ, ◌/◌, ◌%◌, ◌^◌, Bool, List, eqb, get_or, set}
use Rattle.std.specs.Int.Bits.{bit_or}

-- the bit of a number is set
unfoldable pub is_marked : List ℕ → ℕ → Bool
is_marked seen n = eqb (get_or seen (n / 64) 0 / 2 ^ (n % 64) % 2) 1

-- the bit of a number is set, and no other changed
unfoldable pub marked : List ℕ → ℕ → List ℕ
marked seen n = set seen (n / 64) (bit_or (get_or seen (n / 64) 0) (2 ^ (n % 64)))
