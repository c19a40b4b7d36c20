-- One look at all slots is three: for the first free place, for the ranks, for the oldest that is asked for. Assumes nothing.
use Rattle.std.specs.Prelude.{Option}
use mathlib.Core.Path.{◌≡◌, refl}
use Prim.Native.Nat.{ℕ, suc}
use mathlib.Core.List.{List, [], ◌∷◌}
use Rattle.slots.specs.declared.Slot.{Slot}
use Rattle.slots.specs.declared.ask.Ask.{Ask}
use Rattle.slots.specs.declared.look.Ranks.{Ranks}
use Rattle.slots.specs.declared.look.Oldest.{Oldest}
use Rattle.slots.specs.declared.look.Seen.{Seen}
use Rattle.slots.specs.Look.{first_of, ranked_of, older_of, look_of}
use Rattle.pending.specs.Over.{look_all}

unfoldable pub first_all : List Slot → ℕ → ℕ → ℕ
first_all [] i f = f
first_all (s ∷ t) i f = first_all t (suc i) (first_of f s i)

unfoldable pub ranks_all : List Slot → Ranks → Ranks
ranks_all [] r = r
ranks_all (s ∷ t) r = ranks_all t (ranked_of r s)

unfoldable pub oldest_all : List Slot → ℕ → Ask → Option Oldest → Option Oldest
oldest_all [] i ask o = o
oldest_all (s ∷ t) i ask o = oldest_all t (suc i) ask (older_of o ask s i)

pub parts : (t : List Slot) (i : ℕ) (a : Seen)
    → look_all t i a ≡ record { ask = a.ask; size = a.size; free = first_all t i a.free; ranks = ranks_all t a.ranks; oldest = oldest_all t i a.ask a.oldest }
unfolding look_all look_of first_all ranks_all oldest_all
parts [] i a = refl
parts (s ∷ t) i a = parts t (suc i) (look_of a s i)
