-- A text that is put leaves the buffer as long as it was. Assumes nothing.
use Rattle.std.proofs.Common.{ℕ, ◌+◌, ◌≡◌, Bool, true, false, cond, List, leb, length, refl}
use Rattle.std.proofs.lemmas.List.Edits.{sets}
use lib.Seq.{length-sets}
use Rattle.print.specs.Put.{buffer_after}

pub buffer_size : (out : List ℕ) (at : ℕ) (s : List ℕ) → length (buffer_after out at s) ≡ length out
unfolding buffer_after
buffer_size out at s = either (leb (at + length s) (length out))
  where
    either : (b : Bool) → length (cond b (sets out at s) out) ≡ length out
    either true = length-sets out at s
    either false = refl
