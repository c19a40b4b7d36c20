-- Numbers 1 to 4: what a line must be before its parts are looked at.
use Rattle.std.specs.Prelude.{ℕ, ◌<◌, ◌≤◌, ◌≡◌, Bool, cond, ◌&&◌, ◌||◌, List, [], ◌∷◌, ◌++◌, ltb, leb, eqb, length, get_or, None, Option, Some}
use Rattle.text.specs.Told.{Told, is, refused}
use Rattle.text.specs.Place.{first_place, last_byte, is_at}
use Rattle.text.specs.Run.{Stripped}

-- 1: the line is empty, or a newline alone, or starts with `#`
pub data Idle (t : List ℕ) : Type 0 where
  empty : t ≡ [] → Idle t
  newline : t ≡ 10 ∷ [] → Idle t
  comment : (rest : List ℕ) → t ≡ 35 ∷ rest → Idle t

-- 3: a byte of 128 or more in it
pub record High (t : List ℕ) : Type 0 where
  pub place : ℕ
  pub within : place < length t
  pub high : 128 ≤ get_or t place 0

-- the last colon parts header from payload; both are stripped of blanks at their ends
pub record Split (t header payload : List ℕ) : Type 0 where
  pub before : List ℕ
  pub after : List ℕ
  pub whole : t ≡ before ++ (58 ∷ after)
  pub last : (k : ℕ) → k < length after → get_or after k 0 ≡ 58 → ⊥
  pub header_stripped : Stripped before header
  pub payload_stripped : Stripped after payload

-- is the line empty, a newline alone, or a comment?
unfoldable pub idle : List ℕ → Bool
idle t = eqb (length t) 0 || is_at 35 t 0 || eqb (length t) 1 && is_at 10 t 0

-- the first byte of 128 or more
unfoldable pub first_high : List ℕ → Option ℕ
first_high t = first_place (λ (k : ℕ). leb 128 (get_or t k 0)) (length t) 0

-- the colon, or 4
unfoldable pub frame_colon : Option ℕ → Told ℕ
frame_colon (Some k) = is k
frame_colon None = refused 4

-- 3 where a high byte was found, else on to the colon
unfoldable pub frame_ascii : List ℕ → Option ℕ → Told ℕ
frame_ascii t (Some k) = refused 3
frame_ascii t None = frame_colon (last_byte 58 t)

-- numbers 1 to 4 in their order, or the place of the last colon
unfoldable pub frame_of : List ℕ → Told ℕ
frame_of t = cond (idle t) (refused 1) (cond (ltb 4096 (length t)) (refused 2) (frame_ascii t (first_high t)))
