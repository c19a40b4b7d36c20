-- What the calls answer, and what they leave in what is lent.
use Rattle.refusal.specs.declared.Refusal.{Refusal}
use Rattle.refusal.specs.declared.Refusal.TheVariants as R
use Rattle.std.specs.Prelude.{ℕ, ◌≤◌, ◌≡◌, true, false, List, [], ◌∷◌, ◌++◌, length, take, Err, Option, Result}
use Rattle.text.specs.Told.{Told, absent, refused}
use Rattle.entry.specs.declared.Entry.{Entry}
use Rattle.scan.specs.declared.Pieces.{Pieces}
use Rattle.scan.specs.Parse.{slots_by}
use Rattle.intake.specs.Intake.{taken_of, taken_dwords}
use Rattle.units.specs.declared.Framing.TheVariants.{Both}
use Rattle.units.specs.declared.State.{State}
use Rattle.units.specs.declared.Unit as UnitModule
use Rattle.units.specs.declared.Unit.TheVariants as U
use Rattle.units.specs.Units.{Whole, Rest}
use Rattle.units.specs.Kept.{kept_text, kept_count, stood, Keeps, is_kept}
use Rattle.units.specs.Feeding.{text_length}
use Rattle.stream.specs.declared.Fed.{Fed}
use Rattle.stream.specs.declared.Finished.{Finished}
use Rattle.refusal.specs.Told.{told_maybe}
use Rattle.stream.specs.Answers.{answer_of}

-- nothing is held
abbrev pub empty : State
empty = record { held = 0; passed = 0 }

-- what is kept of a unit
abbrev pub state_of : List ℕ → State
state_of w = record { held = length (kept_text Both w); passed = kept_count Both w }

-- an answer, and each slot: an entry's dwords in the first of them, and all as found without one
pub record Given (told : Told Entry) (dwords slots exit : List ℕ) (r : Result (Option Entry) Refusal) : Type 0 where
  pub answer : told_maybe r ≡ told
  pub slots_are : exit ≡ slots_by told dwords slots

-- a call's answer by the unit as far as it was read, w: no unit has ended, and what is kept of it is for the next call; or it has, and is answered
pub data Answered (pieces : Pieces) (w s slots slots' : List ℕ) (r : Fed) : Type 0 where
  wants : Rest Both w → r.at ≡ length s → r.state ≡ state_of w → Given absent [] slots slots' r.answer → Answered pieces w s slots slots' r
  ends : Whole Both w → r.state ≡ empty → Given (answer_of pieces w (length slots)) (taken_dwords w) slots slots' r.answer → Answered pieces w s slots slots' r

-- a call went on with the open unit u: it took the front of the part up to the unit's end, else all of it, and the unit stands in the buffer
pub record FedOn (pieces : Pieces) (u s rest slots rest' slots' : List ℕ) (r : Fed) : Type 0 where
  pub within : r.at ≤ length s
  pub buffer : rest' ≡ stood Both (u ++ take r.at s) rest
  pub answered : Answered pieces (u ++ take r.at s) s slots slots' r

-- WHAT `feed` ANSWERS: 53 where no stream leaves what is lent, and nothing has changed; else by the unit that is kept there, whichever it is
pub record FeedDone (pieces : Pieces) (s rest slots : List ℕ) (st : State) (rest' slots' : List ℕ) (r : Fed) : Type 0 where
  pub alien : is_kept Both rest st.held st.passed ≡ false → (r ≡ record { at = 0; state = st; answer = Err R.NoStream }) × (rest' ≡ rest) × (slots' ≡ slots)
  pub fed : is_kept Both rest st.held st.passed ≡ true → (u : List ℕ) → Rest Both u → Keeps Both u rest st.held st.passed → FedOn pieces u s rest slots rest' slots' r

-- what the end answers of the bytes since the last unit
unfoldable pub end_of : Pieces → List ℕ → ℕ → Told Entry
end_of pieces [] room = absent
end_of pieces (b ∷ u) room = answer_of pieces (b ∷ u) room

-- WHAT `finish` ANSWERS: 53 as `feed` does; else the open unit's answer, if there is one, and nothing is held any more
pub record FinishDone (pieces : Pieces) (rest slots : List ℕ) (st : State) (slots' : List ℕ) (r : Finished) : Type 0 where
  pub alien : is_kept Both rest st.held st.passed ≡ false → (r ≡ record { state = st; answer = Err R.NoStream }) × (slots' ≡ slots)
  pub ended : is_kept Both rest st.held st.passed ≡ true → (u : List ℕ) → Rest Both u → Keeps Both u rest st.held st.passed
      → (r.state ≡ empty) × Given (end_of pieces u (length slots)) (taken_dwords u) slots slots' r.answer

-- ---- a unit as it was cut off

-- what is told of it, by its bytes in the buffer
unfoldable pub unit_told : Pieces → UnitModule.Unit → List ℕ → ℕ → Told Entry
unit_told pieces (U.Text n) rest room = taken_of pieces (take n rest) room
unit_told pieces U.Long rest room = refused 55
unit_told pieces U.Cut rest room = refused 54
unit_told pieces U.Open rest room = absent
unit_told pieces U.Alien rest room = refused 53

abbrev pub UnitRead : Pieces → UnitModule.Unit → List ℕ → List ℕ → List ℕ → Result (Option Entry) Refusal → Type 0
UnitRead pieces unit rest slots exit r = Given (unit_told pieces unit rest (length slots)) (taken_dwords (take (text_length unit) rest)) slots exit r

abbrev pub TextRead : Pieces → List ℕ → List ℕ → List ℕ → Result (Option Entry) Refusal → Type 0
TextRead pieces text slots exit r = Given (taken_of pieces text (length slots)) (taken_dwords text) slots exit r

-- the state after the end
unfoldable pub after_end : State → UnitModule.Unit → State
after_end st (U.Text n) = empty
after_end st U.Long = empty
after_end st U.Cut = empty
after_end st U.Open = empty
after_end st U.Alien = st
