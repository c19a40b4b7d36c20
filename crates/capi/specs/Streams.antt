-- A stream's calls as plain structs.
use Rattle.std.specs.Prelude.{ℕ, ◌≡◌, cond, List, eqb}
use Rattle.text.specs.Told as T
use Rattle.entry.specs.declared.Entry.{Entry}
use Rattle.c_entry.specs.Flat.{flat_of}
use Rattle.scan.specs.declared.Pieces.{Pieces}
use Rattle.units.specs.declared.State.{State}
use Rattle.stream.specs.declared.Fed.{Fed}
use Rattle.stream.specs.declared.Finished.{Finished}
use Rattle.refusal.specs.Told.{told_maybe}
use Rattle.stream.specs.Feeding.{FeedDone, FinishDone}
use Rattle.capi.specs.declared.streams.StreamAnswer.{StreamAnswer}
use Rattle.capi.specs.Calls.{blank_entry}

-- a refusal is a unit's, but 53, which is the call's
unfoldable pub ended_by : ℕ → ℕ
ended_by k = cond (eqb k 53) 0 1

-- where the part was left, what is kept, and what is told, as a plain struct
unfoldable pub stream_by : ℕ → State → T.Told Entry → StreamAnswer
stream_by at st (T.is e) = record { number = 0; ended = 1; at = at; state = st; entry = flat_of e }
stream_by at st T.absent = record { number = 0; ended = 0; at = at; state = st; entry = blank_entry }
stream_by at st (T.refused k) = record { number = k; ended = ended_by k; at = at; state = st; entry = blank_entry }

-- the answer of `feed`, so told
pub record StreamFed (pieces : Pieces) (s rest slots : List ℕ) (st : State) (rest' slots' : List ℕ) (r : StreamAnswer) : Type 0 where
  pub fed : Fed
  pub done : FeedDone pieces s rest slots st rest' slots' fed
  pub is : r ≡ stream_by fed.at fed.state (told_maybe fed.answer)

-- the answer of `finish`, so told, at no place of a part
pub record StreamEnded (pieces : Pieces) (rest slots : List ℕ) (st : State) (slots' : List ℕ) (r : StreamAnswer) : Type 0 where
  pub finished : Finished
  pub done : FinishDone pieces rest slots st slots' finished
  pub is : r ≡ stream_by 0 finished.state (told_maybe finished.answer)
