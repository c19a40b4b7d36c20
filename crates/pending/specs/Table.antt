-- A table of waiting requests: how many wait, which slots are a table, and which number refuses those that are none.
use Rattle.refusal.specs.declared.Refusal.{Refusal}
use Rattle.refusal.specs.declared.Refusal.TheVariants as R
use Rattle.refusal.specs.Number.{number_of}
use Rattle.std.specs.Prelude.{ℕ, ◌+◌, ◌<◌, ◌≤◌, ◌^◌, ◌≡◌, cond, List, [], ◌∷◌, eqb, length, get_or}
use Rattle.text.specs.Told.{Told, is, absent, refused}
use Rattle.slots.specs.declared.Four.{Four}
use Rattle.slots.specs.declared.Slot.{Slot}
use Rattle.slots.specs.Decide.{free_slot}

-- the rank and the four of the slot at a place
abbrev pub rank_at : List Slot → ℕ → ℕ
rank_at t i = (get_or t i free_slot).rank

abbrev pub four_at : List Slot → ℕ → Four
four_at t i = (get_or t i free_slot).four

-- the slot at a place waits: a free one has rank 0
abbrev pub Waits : List Slot → ℕ → Type 0
Waits t i = (i < length t) × (0 < rank_at t i)

-- how many slots wait
unfoldable pub waiting : List Slot → ℕ
waiting [] = 0
waiting (s ∷ t) = cond (eqb s.rank 0) 0 1 + waiting t

-- how many slots have the rank k
unfoldable pub tally : ℕ → List Slot → ℕ
tally k [] = 0
tally k (s ∷ t) = cond (eqb s.rank k) 1 0 + tally k t

-- 1 to 64 slots
abbrev pub Sized : List Slot → Type 0
Sized t = (0 < length t) × (length t ≤ 64)

-- the waiting slots carry the ranks 1 to their number once each, and no waiting slot's route has its top bit set; and, beside document 02's words,
-- each reads (0) or writes (1), since C can lend any byte (T11)
pub record Sound (t : List Slot) : Type 0 where
  pub within : (i : ℕ) → i < length t → rank_at t i ≤ waiting t
  pub once : (k : ℕ) → 0 < k → k ≤ waiting t → tally k t ≡ 1
  pub plain : (i : ℕ) → Waits t i → (four_at t i).route < 2 ^ 63
  pub direction : (i : ℕ) → Waits t i → (four_at t i).write ≤ 1

pub record Table (t : List Slot) : Type 0 where
  pub sized : Sized t
  pub sound : Sound t

-- 50, a table of no or over 64 slots, comes first; then 51
pub data Refuses (t : List Slot) : Refusal → Type 0 where
  by_size : (Sized t → ⊥) → Refuses t R.TableSize
  by_ranks : Sized t → (Sound t → ⊥) → Refuses t R.BrokenTable

-- how many requests wait
pub data CountTold (t : List Slot) : Told ℕ → Type 0 where
  counts : Table t → CountTold t (is (waiting t))
  refuses : {r : Refusal} → Refuses t r → CountTold t (refused (number_of r))

-- where the k-th oldest lies: the slot that has the rank k, for k from 1 to the number of those that wait
pub data PlaceTold (t : List Slot) (k : ℕ) : Told ℕ → Type 0 where
  lies : {i : ℕ} → Table t → Waits t i → rank_at t i ≡ k → PlaceTold t k (is i)
  nowhere : Table t → (0 < k → k ≤ waiting t → ⊥) → PlaceTold t k absent
  refuses : {r : Refusal} → Refuses t r → PlaceTold t k (refused (number_of r))
