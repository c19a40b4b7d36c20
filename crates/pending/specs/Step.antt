-- What one entry does to a table, and what is reported, one line a report.
use Rattle.std.specs.Prelude.{ℕ, ◌+◌, ◌<◌, ◌≤◌, ◌≡◌, List, map, length, set, Err, Ok, Result}
use Rattle.refusal.specs.declared.Refusal.{Refusal}
use Rattle.entry.specs.declared.Entry.{Entry}
use Rattle.slots.specs.declared.Four.{Four}
use Rattle.slots.specs.declared.Slot.{Slot}
use Rattle.slots.specs.declared.ask.Ask.TheVariants as A
use Rattle.slots.specs.declared.decide.Report.{Report}
use Rattle.slots.specs.declared.decide.Report.TheVariants as R
use Rattle.slots.specs.Ask.{ask_of}
use Rattle.slots.specs.Decide.{lowered_of}
use Rattle.pending.specs.Table.{rank_at, four_at, Waits, waiting, Table, Refuses}

-- the first free slot
pub record FirstFree (t : List Slot) (i : ℕ) : Type 0 where
  pub within : i < length t
  pub free : rank_at t i ≡ 0
  pub first : (j : ℕ) → j < i → 0 < rank_at t j

abbrev pub NoneFree : List Slot → Type 0
NoneFree t = (i : ℕ) → i < length t → 0 < rank_at t i

-- the oldest waiting slot with the same four
pub record OldestWith (t : List Slot) (four : Four) (i : ℕ) : Type 0 where
  pub waits : Waits t i
  pub same : four_at t i ≡ four
  pub oldest : (j : ℕ) → Waits t j → four_at t j ≡ four → rank_at t i ≤ rank_at t j

abbrev pub NoneWith : List Slot → Four → Type 0
NoneWith t four = (i : ℕ) → Waits t i → four_at t i ≡ four → ⊥

-- a request that is taken is the youngest
abbrev pub newcomer : List Slot → Four → Slot
newcomer t four = record { four = four; rank = waiting t + 1 }

-- the table once the slot of a rank is freed: that rank is 0, each later one is one less, and nothing else changes
abbrev pub freed : ℕ → List Slot → List Slot
freed rank t = map (lowered_of rank) t

-- what is answered to an entry: its report, or what refuses the table
abbrev pub Answer : Type 0
Answer = Result Report Refusal

-- the answer and the table after an entry
pub data Step (e : Entry) (t : List Slot) : Answer → List Slot → Type 0 where
  refused_with : {r : Refusal} → Refuses t r → Step e t (Err r) t
  dropped : Table t → ask_of e ≡ A.Dropped → Step e t (Ok R.Dropped) t
  other : Table t → ask_of e ≡ A.Other → Step e t (Ok R.Other) t
  no_seq : Table t → ask_of e ≡ A.NoSeq → Step e t (Ok R.NoSeq) t
  taken : {four : Four} {i : ℕ} → Table t → ask_of e ≡ A.Request four → FirstFree t i → Step e t (Ok (R.Taken i)) (set t i (newcomer t four))
  turned_away : {four : Four} → Table t → ask_of e ≡ A.Request four → NoneFree t → Step e t (Ok R.TurnedAway) t
  answered : {four : Four} {i : ℕ} → Table t → ask_of e ≡ A.Response four → OldestWith t four i
      → Step e t (Ok (R.Answered i)) (freed (rank_at t i) t)
  stray : {four : Four} → Table t → ask_of e ≡ A.Response four → NoneWith t four → Step e t (Ok R.Stray) t
