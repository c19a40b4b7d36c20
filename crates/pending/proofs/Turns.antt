-- The look at all slots, one slot on. Assumes nothing.
use mathlib.Core.Path.{◌≡◌}
use Prim.Native.Nat.{ℕ, suc, ◌+◌, ◌<◌}
use native.Mathlib.Omega.{arith}
use mathlib.Core.List.{List}
use lib.ListN.{length, get_or, drop}
use lib.Seq.{drop-cons, drop-length}
use Rattle.slots.specs.declared.Slot.{Slot}
use Rattle.slots.specs.declared.look.Seen.{Seen}
use Rattle.slots.specs.Look.{look_of}
use Rattle.slots.specs.Decide.{free_slot}
use Rattle.pending.specs.Over.{look_all}

pub next_look : (ys : List Slot) (i : ℕ) (a : Seen) → i < length ys → look_all (drop i ys) i a ≡ look_all (drop (i + 1) ys) (i + 1) (look_of a (get_or ys i free_slot) i)
unfolding look_all
next_look ys i a l = let e : i + 1 ≡ suc i = omega arith in rw (drop-cons ys i free_slot l, e)

pub last_look : (ys : List Slot) (i : ℕ) (a : Seen) → i ≡ length ys → look_all (drop i ys) i a ≡ a
unfolding look_all
last_look ys i a e = rw (e, drop-length ys)
