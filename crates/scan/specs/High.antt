-- Bytes of 128 or more, by the largest byte.
use Rattle.std.specs.Prelude.{ℕ, ◌≤◌, ◌<◌, ◌≡◌, Bool, true, false, List, leb, get_or, None, Option, Some}
use Rattle.text.specs.Place.{Free}

-- a byte of 128 or more stands at place k
abbrev pub high_at : List ℕ → ℕ → Bool
high_at s k = leb 128 (get_or s k 0)

-- nothing was found
unfoldable pub is_nothing : Option ℕ → Bool
is_nothing (Some k) = false
is_nothing None = true

-- m is below 128 exactly where the first n bytes of s all are
pub record Level (s : List ℕ) (n m : ℕ) : Type 0 where
  pub low : m < 128 → Free (high_at s) 0 n
  pub high : 128 ≤ m → (k : ℕ) × (k < n) × (high_at s k ≡ true)
