-- Text put into a buffer.
use Rattle.std.specs.Prelude.{ℕ, ◌+◌, ◌<◌, ◌≡◌, cond, List, leb, length, take, drop, replicate}
use Rattle.std.proofs.lemmas.List.Edits.{sets}
use Rattle.text.specs.Decimal.{decimal_text}

-- the buffer after a text was put at a place: the text's bytes from there on where they fit, else as found
unfoldable pub buffer_after : List ℕ → ℕ → List ℕ → List ℕ
buffer_after out at s = cond (leb (at + length s) (length out)) (sets out at s) out

-- the place after it: behind the text where it fits, else as it was
unfoldable pub place_after : List ℕ → ℕ → List ℕ → ℕ
place_after out at s = cond (leb (at + length s) (length out)) (at + length s) at

-- the buffer and the place after a text was put
pub record Placed (out : List ℕ) (at : ℕ) (s exit : List ℕ) (r : ℕ) : Type 0 where
  pub buffer : exit ≡ buffer_after out at s
  pub place : r ≡ place_after out at s

-- the digits of a number stand at the end of the bytes, behind zeros
pub record Digits (n : ℕ) (bytes : List ℕ) (from : ℕ) : Type 0 where
  pub size : length bytes ≡ 20
  pub within : from < 20
  pub front : take from bytes ≡ replicate from 48
  pub is : drop from bytes ≡ decimal_text n
