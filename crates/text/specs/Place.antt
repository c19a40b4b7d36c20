-- The first and the last place that passes a test: what is meant, and the one answer.
use Rattle.std.specs.Prelude.{ℕ, zero, suc, ◌≤◌, ◌<◌, ◌-◌, ◌≡◌, Bool, true, false, cond, List, ltb, eqb, length, get_or, None, Option, Some}

-- no place from i on, below n, passes
abbrev pub Free : (ℕ → Bool) → ℕ → ℕ → Type 0
Free p i n = (k : ℕ) → i ≤ k → k < n → p k ≡ false

-- j is the first place from i on, below n, that passes
pub record First (p : ℕ → Bool) (i n j : ℕ) : Type 0 where
  pub from : i ≤ j
  pub within : j < n
  pub here : p j ≡ true
  pub before : Free p i j

-- j is the last place below n that passes
pub record Last (p : ℕ → Bool) (n j : ℕ) : Type 0 where
  pub within : j < n
  pub here : p j ≡ true
  pub after : Free p (suc j) n

-- the first of d places from i on that passes, else the place behind them
unfoldable pub first_of : (ℕ → Bool) → ℕ → ℕ → ℕ
first_of p zero i = i
first_of p (suc d) i =
    let later : ℕ = first_of p d (suc i) in
    cond (p i) i later

-- the first place from i on, below n, that passes, else n; i itself where i is not below n
unfoldable pub first_in : (ℕ → Bool) → ℕ → ℕ → ℕ
first_in p n i = first_of p (n - i) i

-- a place below n is found, any other stands for none
unfoldable pub found_below : ℕ → ℕ → Option ℕ
found_below n j = cond (ltb j n) (Some j) None

-- the first place from i on, below n, that passes
unfoldable pub first_place : (ℕ → Bool) → ℕ → ℕ → Option ℕ
first_place p n i = found_below n (first_in p n i)

-- the last place below n that passes
unfoldable pub last_place : (ℕ → Bool) → ℕ → Option ℕ
last_place p zero = None
last_place p (suc k) =
    let earlier : Option ℕ = last_place p k in
    cond (p k) (Some k) earlier

-- the byte before a place, 0 where there is none
unfoldable pub byte_before : List ℕ → ℕ → ℕ
byte_before s zero = 0
byte_before s (suc k) = get_or s k 0

-- byte b stands at place k of s
abbrev pub is_at : ℕ → List ℕ → ℕ → Bool
is_at b s k = eqb (get_or s k 0) b

-- the first place of byte b in s from i on
unfoldable pub first_byte : ℕ → List ℕ → ℕ → Option ℕ
first_byte b s i = first_place (is_at b s) (length s) i

-- the last place of byte b in s
unfoldable pub last_byte : ℕ → List ℕ → Option ℕ
last_byte b s = last_place (is_at b s) (length s)
