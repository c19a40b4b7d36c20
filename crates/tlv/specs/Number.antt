-- Numbers in a text: low byte first, as many bytes as the place for the number has.
-- Assumes nothing.
use Rattle.std.specs.Prelude.{ℕ, zero, suc, ◌+◌, ◌*◌, ◌/◌, ◌%◌, ◌^◌, ◌<◌, ◌≡◌, List, [], ◌∷◌, get_or}

-- a text is bytes: each element is below 256, as in any lent slice
abbrev pub Bytes : List ℕ → Type 0
Bytes s = (i : ℕ) → get_or s i 0 < 256

-- the k bytes that make a number, low byte first
unfoldable pub number_bytes : ℕ → ℕ → List ℕ
number_bytes zero n = []
number_bytes (suc k) n = n % 256 ∷ number_bytes k (n / 256)

-- the number that the k bytes from place i on make, low byte first; a byte past the end counts as 0
unfoldable pub number : ℕ → List ℕ → ℕ → ℕ
number zero s i = 0
number (suc k) s i = get_or s i 0 + 256 * number k s (i + 1)

-- what a read of k bytes answers: that number, which fits k bytes
pub record Read (k : ℕ) (s : List ℕ) (i r : ℕ) : Type 0 where
  pub is : r ≡ number k s i
  pub fits : r < 256 ^ k
