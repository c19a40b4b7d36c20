-- Entries replayed in file order over one table, and what is counted from the reports.
use Rattle.std.specs.Prelude.{ℕ, ◌+◌, Bool, true, false, cond, List, [], ◌∷◌, Ok, Err}
use Rattle.entry.specs.declared.Entry.{Entry}
use Rattle.slots.specs.declared.Slot.{Slot}
use Rattle.slots.specs.declared.decide.Report.TheVariants as R
use Rattle.pending.specs.Step.{Answer, Step}

-- each entry takes its step, and the next one meets the table that it left
pub data History : List Entry → List Slot → List Answer → List Slot → Type 0 where
  none : {t : List Slot} → History [] t [] t
  more : {e : Entry} {es : List Entry} {r : Answer} {rs : List Answer} {t t₁ t₂ : List Slot} → Step e t r t₁ → History es t₁ rs t₂
      → History (e ∷ es) t (r ∷ rs) t₂

-- the two reports that change a table
abbrev pub is_taken : Answer → Bool
is_taken (Ok R.Dropped) = false
is_taken (Ok R.Other) = false
is_taken (Ok R.NoSeq) = false
is_taken (Ok (R.Taken i)) = true
is_taken (Ok R.TurnedAway) = false
is_taken (Ok (R.Answered i)) = false
is_taken (Ok R.Stray) = false
is_taken (Err n) = false

abbrev pub is_answered : Answer → Bool
is_answered (Ok R.Dropped) = false
is_answered (Ok R.Other) = false
is_answered (Ok R.NoSeq) = false
is_answered (Ok (R.Taken i)) = false
is_answered (Ok R.TurnedAway) = false
is_answered (Ok (R.Answered i)) = true
is_answered (Ok R.Stray) = false
is_answered (Err n) = false

-- how many of the reports are so
unfoldable pub how_many : (Answer → Bool) → List Answer → ℕ
how_many so [] = 0
how_many so (r ∷ rs) = cond (so r) 1 0 + how_many so rs

-- how many requests a history took in, and how many it answered
abbrev pub taken_in : List Answer → ℕ
taken_in rs = how_many is_taken rs

abbrev pub answered_in : List Answer → ℕ
answered_in rs = how_many is_answered rs
