-- The answers of the table of requests as plain structs.
use Rattle.std.specs.Prelude.{ℕ, ◌≡◌, List, Err, Ok}
use Rattle.text.specs.Told.{Told, is, absent, refused}
use Rattle.refusal.specs.Number.{number_of}
use Rattle.slots.specs.declared.Slot.{Slot}
use Rattle.slots.specs.declared.decide.Report.TheVariants as R
use Rattle.pending.specs.Table.{CountTold, PlaceTold}
use Rattle.pending.specs.Step.{Answer, Step}
use Rattle.c_entry.specs.declared.Flat.{Flat}
use Rattle.c_entry.specs.Flat.{entry_of}
use Rattle.capi.specs.declared.requests.StepAnswer.{StepAnswer}
use Rattle.capi.specs.declared.requests.CountAnswer.{CountAnswer}
use Rattle.capi.specs.declared.requests.PlaceAnswer.{PlaceAnswer}

abbrev pub word_at : ℕ → ℕ → StepAnswer
word_at word place = record { number = 0; report = word; place = place }

-- a report: its word from 1, in document 02's order, and the place of a slot; or the number that refuses the table
unfoldable pub step_by : Answer → StepAnswer
step_by (Ok R.Dropped) = word_at 1 0
step_by (Ok R.Other) = word_at 2 0
step_by (Ok R.NoSeq) = word_at 3 0
step_by (Ok (R.Taken i)) = word_at 4 i
step_by (Ok R.TurnedAway) = word_at 5 0
step_by (Ok (R.Answered i)) = word_at 6 i
step_by (Ok R.Stray) = word_at 7 0
step_by (Err r) = record { number = number_of r; report = 0; place = 0 }

unfoldable pub count_by : Told ℕ → CountAnswer
count_by (is n) = record { number = 0; count = n }
count_by absent = record { number = 0; count = 0 }
count_by (refused n) = record { number = n; count = 0 }

unfoldable pub place_by : Told ℕ → PlaceAnswer
place_by (is i) = record { number = 0; present = 1; place = i }
place_by absent = record { number = 0; present = 0; place = 0 }
place_by (refused n) = record { number = n; present = 0; place = 0 }

-- an entry made a step of the table, and the answer is its report
pub record Stepped (f : Flat) (t : List Slot) (r : StepAnswer) (u : List Slot) : Type 0 where
  pub report : Answer
  pub steps : Step (entry_of f) t report u
  pub answer : r ≡ step_by report

-- the answer is how many wait
pub record Counted (t : List Slot) (r : CountAnswer) : Type 0 where
  pub told : Told ℕ
  pub counts : CountTold t told
  pub answer : r ≡ count_by told

-- the answer is where the k-th oldest lies
pub record Placed (t : List Slot) (k : ℕ) (r : PlaceAnswer) : Type 0 where
  pub told : Told ℕ
  pub lies : PlaceTold t k told
  pub answer : r ≡ place_by told
