-- What the thin functions over the slice do, slot by slot; `Step` says what it means.
use Rattle.std.specs.Prelude.{ℕ, suc, List, [], ◌∷◌}
use Rattle.slots.specs.declared.Slot.{Slot}
use Rattle.slots.specs.declared.look.Seen.{Seen}
use Rattle.slots.specs.Look.{look_of}

-- a look at each slot, from a place on
unfoldable pub look_all : List Slot → ℕ → Seen → Seen
look_all [] i a = a
look_all (s ∷ t) i a = look_all t (suc i) (look_of a s i)
