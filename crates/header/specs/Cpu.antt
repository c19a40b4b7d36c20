-- The CPU.
use Rattle.std.specs.Prelude.{ℕ, ◌+◌, Bool, ◌&&◌, List, length, get_or, take, drop, None, Option, Some}
use Rattle.text.specs.Class.{is_digit}
use Rattle.text.specs.Number.{Decimal, number_of}
use Rattle.text.specs.Place.{First, first_place, is_at}

-- `[`, three digits, `]`
unfoldable pub cpu_at : List ℕ → ℕ → Bool
cpu_at h k =
    is_at 91 h k && is_digit (get_or h (k + 1) 0) && is_digit (get_or h (k + 2) 0) && is_digit (get_or h (k + 3) 0) && is_at 93 h (k + 4)

-- CPU: the first `[`, three digits, `]`
pub record Cpu (h : List ℕ) (cpu : ℕ) : Type 0 where
  pub place : ℕ
  pub first : First (cpu_at h) 0 (length h) place
  pub value : Decimal 999 (take 3 (drop (place + 1) h)) cpu

-- the three digits behind a bracket, read
unfoldable pub digits_within : List ℕ → Option ℕ → Option ℕ
digits_within h (Some k) = number_of 10 999 (take 3 (drop (k + 1) h))
digits_within h None = None

-- the CPU
unfoldable pub cpu_of : List ℕ → Option ℕ
cpu_of h = digits_within h (first_place (cpu_at h) (length h) 0)
