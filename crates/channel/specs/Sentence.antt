-- The sentence that tells a fault.
use Rattle.std.specs.Prelude.{ℕ, ◌≡◌, cond, List, [], ◌∷◌, eqb}
use Rattle.text.specs.Decimal.{decimal_text}
use Rattle.text.specs.Quote.{bytes}
use Rattle.print.specs.Put.{buffer_after, place_after}

-- the buffer after texts were put one behind the other, each whole where it fits, else not at all
unfoldable pub buffer_by : List ℕ → ℕ → List (List ℕ) → List ℕ
buffer_by out at [] = out
buffer_by out at (s ∷ ss) = buffer_by (buffer_after out at s) (place_after out at s) ss

-- the place after it
unfoldable pub place_by : List ℕ → ℕ → List (List ℕ) → ℕ
place_by out at [] = at
place_by out at (s ∷ ss) = place_by (buffer_after out at s) (place_after out at s) ss

-- the buffer and the place after texts were put one behind the other
pub record Laid (out : List ℕ) (at : ℕ) (ss : List (List ℕ)) (exit : List ℕ) (r : ℕ) : Type 0 where
  pub buffer : exit ≡ buffer_by out at ss
  pub place : r ≡ place_by out at ss

-- the reason behind an error's number, where it has words here
unfoldable pub reason_of : ℕ → List ℕ
reason_of n =
    cond (eqb n 1) (bytes ": it is not permitted")
    (cond (eqb n 2) (bytes ": there is no such file")
    (cond (eqb n 5) (bytes ": the device failed")
    (cond (eqb n 9) (bytes ": it is closed")
    (cond (eqb n 12) (bytes ": no memory is left")
    (cond (eqb n 13) (bytes ": it may not be read")
    (cond (eqb n 20) (bytes ": a part of the path is no directory")
    (cond (eqb n 21) (bytes ": it is a directory")
    (cond (eqb n 22) (bytes ": it cannot be used so")
    (cond (eqb n 27) (bytes ": the file would be too large")
    (cond (eqb n 28) (bytes ": no space is left")
    (cond (eqb n 32) (bytes ": nobody reads it")
    (cond (eqb n 36) (bytes ": the name is too long")
    (cond (eqb n 40) (bytes ": too many links lead to it") [])))))))))))))

-- `WHO: WHAT failed (error N: REASON)`
unfoldable pub failed_parts : List ℕ → List ℕ → ℕ → List (List ℕ)
failed_parts who what errno =
    who ∷ bytes ": " ∷ what ∷ bytes " failed (error " ∷ decimal_text errno ∷ reason_of errno ∷ bytes ")" ∷ []

-- `; UNITS written whole: N`
unfoldable pub count_parts : List ℕ → ℕ → List (List ℕ)
count_parts units whole = bytes "; " ∷ units ∷ bytes " written whole: " ∷ decimal_text whole ∷ []
