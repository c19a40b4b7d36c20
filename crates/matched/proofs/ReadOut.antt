-- The list can be read from the table by `waiting` and `oldest`: the slot of rank k is that of the k-th request. Assumes nothing.
use Prim.Native.Nat.{ℕ, ◌-◌, ◌<◌, ◌≤◌}
use native.Mathlib.Omega.{arith}
use mathlib.Core.Path.{◌≡◌, refl, ◌∙◌, ap}
use mathlib.Core.List.{List}
use lib.ListN.{length}
use Rattle.text.specs.Told.{Told, is, absent}
use Rattle.slots.specs.declared.Four.{Four}
use Rattle.slots.specs.declared.Slot.{Slot}
use Rattle.pending.specs.Table as T
use Rattle.pending.specs.Table.{four_at, Waits, Sized, Table, CountTold, counts, PlaceTold, lies, nowhere}
use Rattle.matched.specs.Holds.{request_at, Holds}
use Rattle.matched.proofs.Lists.{holds_sound, table_passes}

held_table : {t : List Slot} {l : List Four} → Sized t → Holds t l → Table t
held_table {t} {l} s hold = record { sized = s; sound = holds_sound t l hold }

pub count_of_the_list : (t : List Slot) (l : List Four) (a : Told ℕ) → Sized t → Holds t l → CountTold t a → a ≡ is (length l)
count_of_the_list t l a s hold (counts g) = ap is hold.many
count_of_the_list t l a s hold (T.refuses n) = table_passes (held_table s hold) n

pub place_in_the_list : (t : List Slot) (l : List Four) (k : ℕ) (a : Told ℕ) → Sized t → Holds t l → 0 < k → k ≤ length l → PlaceTold t k a
    → (i : ℕ) × (a ≡ is i) × Waits t i × (four_at t i ≡ request_at l (k - 1))
place_in_the_list t l k a s hold h m (lies {i} g w q) = (i, refl, w, hold.placed i w ∙ ap (λ (n : ℕ). request_at l (n - 1)) q)
place_in_the_list t l k a s hold h m (nowhere g n) = let e = hold.many in absurd (n h (omega arith))
place_in_the_list t l k a s hold h m (T.refuses n) = table_passes (held_table s hold) n

pub nowhere_else : (t : List Slot) (l : List Four) (k : ℕ) (a : Told ℕ) → Sized t → Holds t l → (0 < k → k ≤ length l → ⊥) → PlaceTold t k a → a ≡ absent
nowhere_else t l k a s hold n (lies {i} g w q) = let z = w.1 in let v = hold.within i w.0 in absurd (n (omega arith) (omega arith))
nowhere_else t l k a s hold n (nowhere g m) = refl
nowhere_else t l k a s hold n (T.refuses m) = table_passes (held_table s hold) m
