-- Bytes written at a place of a buffer.
-- Assumes nothing.
use Rattle.std.specs.Prelude.{ℕ, ◌+◌, ◌≡◌, List, length}
use Rattle.std.proofs.lemmas.List.Edits.{sets}

-- what a call answers and leaves in the buffer: the place behind the bytes, and the bytes at theirs, with all else as found
pub record Put (out : List ℕ) (at : ℕ) (bytes : List ℕ) (r : ℕ) (left : List ℕ) : Type 0 where
  pub next : r ≡ at + length bytes
  pub is : left ≡ sets out at bytes
