-- What `ck_event_name` hands out tells the code, since it is the padded name. Assumes nothing.
use Prim.Native.Nat.{ℕ, ◌<◌}
use mathlib.Core.Path.{◌≡◌}
use Rattle.entry.proofs.Names.{names_tell_codes}
use Rattle.capi.specs.Calls.{name_by}

pub event_name_tells_code : (a b : ℕ) → a < 256 → b < 256 → name_by a ≡ name_by b → a ≡ b
unfolding name_by
event_name_tells_code a b h k same = names_tell_codes.padded_tells_code a b h k (λ i. record { bytes = (same i).bytes; len = (same i).len })
