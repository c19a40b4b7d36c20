-- When a table stands for a list of waiting requests.
use Rattle.std.specs.Prelude.{ℕ, ◌-◌, ◌<◌, ◌≤◌, ◌^◌, ◌≡◌, List, length, get_or}
use Rattle.slots.specs.declared.Four.{Four}
use Rattle.slots.specs.declared.Slot.{Slot}
use Rattle.slots.specs.Decide.{free_slot}
use Rattle.pending.specs.Table.{rank_at, four_at, Waits, waiting, tally}

-- the request at a place of the list, from 0
abbrev pub request_at : List Four → ℕ → Four
request_at l i = get_or l i free_slot.four

pub record Holds (t : List Slot) (l : List Four) : Type 0 where
  -- As many slots wait as the list is long.
  pub many : waiting t ≡ length l
  -- Each rank from 1 to that number stands once.
  pub once : (k : ℕ) → 0 < k → k ≤ length l → tally k t ≡ 1
  -- No rank is above it.
  pub within : (i : ℕ) → i < length t → rank_at t i ≤ length l
  -- A waiting slot's rank is the place of its four in the list, counted from 1.
  pub placed : (i : ℕ) → Waits t i → four_at t i ≡ request_at l (rank_at t i - 1)
  -- No waiting slot's route has its top bit set.
  pub plain : (i : ℕ) → Waits t i → (four_at t i).route < 2 ^ 63
  -- Each waiting slot reads (0) or writes (1).
  pub direction : (i : ℕ) → Waits t i → (four_at t i).write ≤ 1

-- every slot is free
abbrev pub Empty : List Slot → Type 0
Empty t = (i : ℕ) → i < length t → rank_at t i ≡ 0
