-- Longest runs and stripping: what is meant, and the one answer.
use Rattle.std.specs.Prelude.{ℕ, suc, max, ◌≤◌, ◌<◌, ◌≡◌, Bool, true, false, not, List, ◌++◌, length, get_or, take, drop, None, Option, Some}
use Rattle.text.specs.Class.{is_blank}
use Rattle.text.specs.Place.{first_in, last_place}

-- every byte of s from i on, below e, passes
abbrev pub Inside : (ℕ → Bool) → List ℕ → ℕ → ℕ → Type 0
Inside p s i e = (k : ℕ) → i ≤ k → k < e → p (get_or s k 0) ≡ true

-- the longest run of passing bytes of s from i on ends at e
pub record Run (p : ℕ → Bool) (s : List ℕ) (i e : ℕ) : Type 0 where
  pub from : i ≤ e
  pub within : e ≤ length s
  pub inside : Inside p s i e
  pub stops : e < length s → p (get_or s e 0) ≡ false

-- the longest run of passing bytes that ends s starts at i
pub record RunBack (p : ℕ → Bool) (s : List ℕ) (i : ℕ) : Type 0 where
  pub within : i ≤ length s
  pub inside : Inside p s i (length s)
  pub stops : (k : ℕ) → i ≡ suc k → p (get_or s k 0) ≡ false

-- t is s stripped of the blanks at its ends
pub record Stripped (s t : List ℕ) : Type 0 where
  pub front : List ℕ
  pub back : List ℕ
  pub whole : s ≡ front ++ (t ++ back)
  pub front_blank : Inside is_blank front 0 (length front)
  pub back_blank : Inside is_blank back 0 (length back)
  pub starts : 0 < length t → is_blank (get_or t 0 0) ≡ false
  pub ends : (k : ℕ) → length t ≡ suc k → is_blank (get_or t k 0) ≡ false

-- the byte at place k does not pass
abbrev pub fails_at : (ℕ → Bool) → List ℕ → ℕ → Bool
fails_at p s k = not (p (get_or s k 0))

-- where the longest run from i on ends: the first place that does not pass
unfoldable pub run_end : (ℕ → Bool) → List ℕ → ℕ → ℕ
run_end p s i = first_in (fails_at p s) (length s) i

-- the place behind what was found
unfoldable pub behind : Option ℕ → ℕ
behind (Some k) = suc k
behind None = 0

-- where the longest run that ends s starts: behind the last place that does not pass
unfoldable pub run_start : (ℕ → Bool) → List ℕ → ℕ
run_start p s = behind (last_place (fails_at p s) (length s))

-- s from its first byte that is no blank to its last
unfoldable pub stripped : List ℕ → List ℕ
stripped s =
    let rest : List ℕ = drop (run_end is_blank s 0) s in
    take (run_start is_blank rest) rest

-- what code tests of a byte, by what its calls can return, is p
abbrev pub Tests : (ℕ → Bool → Type 0) → (ℕ → Bool) → Type 0
Tests post p = (b : ℕ) (r : Bool) → b < 256 → post b r → r ≡ p b

-- an answer is the run's end; it lies between the start and the text's end, which spares callers the argument
pub record EndsAt (p : ℕ → Bool) (s : List ℕ) (i e : ℕ) : Type 0 where
  pub is : e ≡ run_end p s i
  pub up : i ≤ e
  pub within : e ≤ max i (length s)

-- an answer is the start of the run that ends the text, and lies within it
pub record StartsAt (p : ℕ → Bool) (s : List ℕ) (i : ℕ) : Type 0 where
  pub is : i ≡ run_start p s
  pub within : i ≤ length s
