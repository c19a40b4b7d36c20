-- A whole stream, cut anywhere into parts: what is promised of its answers, of the states between the calls, of each unit, and of its records fed again.
-- How to read it: `a ≡ b` is "a equals b"; `P → Q` "if P then Q"; `P → ⊥` "P never holds"; `(x : A) → P` "for every x, P"; `(x : A) × P` "there is an x
-- so that P"; `P × Q` "P and Q"; `↔` "exactly when"; `a ++ b` is a and then b; `map f l` is f of each of l; `All P l` "P holds of each of l".
use Rattle.refusal.specs.declared.Refusal.{Refusal}
use Rattle.refusal.specs.declared.Refusal.TheVariants as R
use Rattle.std.specs.Prelude.{ℕ, ◌≤◌, ◌<◌, ◌≡◌, true, false, cond, List, [], ◌∷◌, ◌++◌, map, ◌↔◌, eqb, length, get_or, take, Err, Ok, Result, Some}
use Rattle.text.specs.Told.{Told, is, absent, refused}
use Rattle.tlv.specs.Number.{Bytes}
use Rattle.tlv.specs.Grammar.{All}
use Rattle.entry.specs.declared.Entry.{Entry}
use Rattle.entry.specs.Entry.{EntryValue, value_of}
use Rattle.scan.specs.declared.Pieces.{Pieces}
use Rattle.scan.specs.Line.{Line}
use Rattle.record.specs.Grammar.{record_bytes, IsRecord}
use Rattle.intake.specs.Intake.{Belongs, starts_a1}
use Rattle.intake.specs.Demand3.{ReadCall, WriteCall, Wrote}
use Rattle.intake.specs.Demand3Packets.{packet_for}
use Rattle.units.specs.declared.Framing.TheVariants.{Both}
use Rattle.units.specs.declared.State.{State}
use Rattle.units.specs.Units.{Units, Whole, Open, Sofar}
use Rattle.units.specs.Kept.{Leaves, is_kept}
use Rattle.stream.specs.declared.Fed.{Fed}
use Rattle.stream.specs.declared.Finished.{Finished}
use Rattle.refusal.specs.Told.{told_maybe}
use Rattle.stream.specs.Answers.{answer_of, said_of, records_of}
use Rattle.stream.specs.Feeding.{empty, FeedDone, FinishDone}

-- what a call adds to the list of answers: nothing if no unit ended
unfoldable pub answers_in : Told Entry → List (Told Entry)
answers_in (is e) = is e ∷ []
answers_in absent = []
answers_in (refused k) = refused k ∷ []

-- and to the list of values: what an entry says, with the buffer and the slots as the call left them
unfoldable pub values_in : Told Entry → List ℕ → List ℕ → List EntryValue
values_in (is e) rest slots = value_of e rest slots ∷ []
values_in absent rest slots = []
values_in (refused k) rest slots = []

-- Calls of `feed`, one after the other, from a stream that has not begun: the bytes that they took, their answers, what the entries among these say, and
-- the buffer and the state after them. Each call has a part of its own choice, also an empty one, and takes a front of it; buffer and state pass from call
-- to call. The choice is one throughout, and so is the number of slots.
pub data Calls (pieces : Pieces) (room : ℕ) : List ℕ → List (Told Entry) → List EntryValue → List ℕ → State → Type 0 where
  none : (rest : List ℕ) → length rest ≡ 8192 → Calls pieces room [] [] [] rest empty
  call : {taken rest : List ℕ} {answers : List (Told Entry)} {values : List EntryValue} {st : State} (part slots rest' slots' : List ℕ) (r : Fed)
      → Calls pieces room taken answers values rest st
      → Bytes part → length slots ≡ room → FeedDone pieces part rest slots st rest' slots' r
      → Calls pieces room (taken ++ take r.at part) (answers ++ answers_in (told_maybe r.answer)) (values ++ values_in (told_maybe r.answer) rest' slots') rest' r.state

-- A stream went through: calls took all of it, and then `finish` was called. All the answers, in their order, and what the entries among them say.
pub record Went (pieces : Pieces) (room : ℕ) (stream : List ℕ) (answers : List (Told Entry)) (values : List EntryValue) : Type 0 where
  -- The calls took the stream.
  pub before : List (Told Entry)
  pub said_before : List EntryValue
  pub rest : List ℕ
  pub state : State
  pub calls : Calls pieces room stream before said_before rest state
  -- The end.
  pub slots : List ℕ
  pub slots_are : length slots ≡ room
  pub slots' : List ℕ
  pub r : Finished
  pub finish : FinishDone pieces rest slots state slots' r
  -- All the answers, and what they say.
  pub all : answers ≡ before ++ answers_in (told_maybe r.answer)
  pub all_said : values ≡ said_before ++ values_in (told_maybe r.answer) rest slots'

-- a unit of a stream: it has ended, or the stream's end ends it
pub data IsUnit (u : List ℕ) : Type 0 where
  whole : Whole Both u → IsUnit u
  open_at_end : Open Both u → IsUnit u

-- What is promised of the answers.
pub record CutAnywhere (pieces : Pieces) : Type 0 where
  -- Every stream has units.
  pub has_units : (s : List ℕ) → (us : List (List ℕ)) × Units Both s us
  -- It has one list of them.
  pub one_list : (s : List ℕ) (us vs : List (List ℕ)) → Units Both s us → Units Both s vs → us ≡ vs
  -- However it is cut into parts, the answers are those of its units, in their order.
  pub answers_are : (room : ℕ) (s : List ℕ) (answers : List (Told Entry)) (values : List EntryValue) (us : List (List ℕ)) → Went pieces room s answers values → Units Both s us
      → answers ≡ map (λ u. answer_of pieces u room) us
  -- Given 256 slots, the entries among them say what its units say.
  pub values_are : (room : ℕ) → 256 ≤ room → (s : List ℕ) (answers : List (Told Entry)) (values : List EntryValue) (us : List (List ℕ)) → Went pieces room s answers values → Units Both s us
      → values ≡ said_of pieces us
  -- So two ways of cutting it give one list of answers.
  pub any_cut : (room : ℕ) (s : List ℕ) (a b : List (Told Entry)) (v w : List EntryValue) → Went pieces room s a v → Went pieces room s b w → a ≡ b
  -- And one list of values.
  pub any_cut_says : (room : ℕ) → 256 ≤ room → (s : List ℕ) (a b : List (Told Entry)) (v w : List EntryValue) → Went pieces room s a v → Went pieces room s b w → v ≡ w
  -- A stream that came so far has one list of units that have ended, and the answers so far are theirs.
  pub so_far : (room : ℕ) (taken rest : List ℕ) (answers : List (Told Entry)) (values : List EntryValue) (st : State) → Calls pieces room taken answers values rest st
      → (us : List (List ℕ)) (since : List ℕ) → Sofar Both taken us since → answers ≡ map (λ u. answer_of pieces u room) us
  -- A call that is not 53 takes a byte of a part that has one: whoever hands the rest over again comes to the end.
  pub moves_on : (part rest slots : List ℕ) (st : State) (rest' slots' : List ℕ) (r : Fed) → FeedDone pieces part rest slots st rest' slots' r
      → is_kept Both rest st.held st.passed ≡ true → 0 < length part → 0 < r.at

-- What is promised of the states between the calls.
pub record StatesLeft (pieces : Pieces) : Type 0 where
  -- Each state that calls reach is one that the stream so far leaves.
  pub reached : (room : ℕ) (taken rest : List ℕ) (answers : List (Told Entry)) (values : List EntryValue) (st : State) → Calls pieces room taken answers values rest st
      → Leaves Both taken rest st.held st.passed
  -- So it is from call to call, whatever choice and slots each has.
  pub goes_on : (s rest : List ℕ) (st : State) → Bytes s → Leaves Both s rest st.held st.passed
      → (part slots rest' slots' : List ℕ) (r : Fed) → FeedDone pieces part rest slots st rest' slots' r
      → Leaves Both (s ++ take r.at part) rest' r.state.held r.state.passed
  -- The test passes exactly what some stream leaves.
  pub test_exactly : (rest : List ℕ) → Bytes rest → (held passed : ℕ)
      → (is_kept Both rest held passed ≡ true) ↔ ((s : List ℕ) × (Bytes s × Leaves Both s rest held passed))
  -- `feed` answers 53 exactly where the test fails.
  pub feed_53 : (part rest slots : List ℕ) (st : State) (rest' slots' : List ℕ) (r : Fed) → Bytes part → Bytes rest → FeedDone pieces part rest slots st rest' slots' r
      → (r.answer ≡ Err R.NoStream) ↔ (is_kept Both rest st.held st.passed ≡ false)
  -- So does `finish`.
  pub finish_53 : (rest slots : List ℕ) (st : State) (slots' : List ℕ) (r : Finished) → Bytes rest → FinishDone pieces rest slots st slots' r
      → (r.answer ≡ Err R.NoStream) ↔ (is_kept Both rest st.held st.passed ≡ false)
  -- No second answer keeps the contract of `feed`, whatever the input.
  pub one_feed : (part rest slots : List ℕ) (st : State) (rest' slots' rest'' slots'' : List ℕ) (r q : Fed)
      → FeedDone pieces part rest slots st rest' slots' r → FeedDone pieces part rest slots st rest'' slots'' q
      → (r ≡ q) × (rest' ≡ rest'') × (slots' ≡ slots'')
  -- Nor that of `finish`.
  pub one_finish : (rest slots : List ℕ) (st : State) (slots' slots'' : List ℕ) (r q : Finished)
      → FinishDone pieces rest slots st slots' r → FinishDone pieces rest slots st slots'' q
      → (r ≡ q) × (slots' ≡ slots'')
  -- With a number the slots are as found.
  pub refused_slots : (part rest slots : List ℕ) (st : State) (rest' slots' : List ℕ) (r : Fed) (k : Refusal) → FeedDone pieces part rest slots st rest' slots' r
      → r.answer ≡ Err k → slots' ≡ slots
  pub refused_slots_end : (rest slots : List ℕ) (st : State) (slots' : List ℕ) (r : Finished) (k : Refusal) → FinishDone pieces rest slots st slots' r
      → r.answer ≡ Err k → slots' ≡ slots

-- An entry that a call answered of a unit.
pub record EntryOf (pieces : Pieces) (u slots : List ℕ) (e : Entry) (rest' slots' : List ℕ) : Type 0 where
  -- The unit stands in the buffer from its first byte, whole.
  pub stands : take (length u) rest' ≡ u
  -- The answer and the slots are those of `read` of crate `intake` on the unit: what demand 3 promises of that call holds of this one.
  pub read : ReadCall pieces u slots (Ok e) slots'
  -- With buffer and slots as they were left, the entry says what the unit says.
  pub says : said_of pieces (u ∷ []) ≡ value_of e rest' slots' ∷ []
  -- Written from the buffer and the slots as they were left, it is the record of that.
  pub written : (buffer : List ℕ) (answer : Result ℕ Refusal) (left : List ℕ) → WriteCall rest' e slots' buffer answer left
      → Wrote (record_bytes (value_of e rest' slots')) buffer answer left

-- What is promised of each unit, given 256 slots: demand 3.
pub record EachUnit (pieces : Pieces) : Type 0 where
  -- A unit is accepted exactly when it belongs to the line grammar of the choice or to the record grammar.
  pub accepted : (u : List ℕ) → Bytes u → (room : ℕ) → 256 ≤ room
      → ((e : Entry) × (answer_of pieces u room ≡ is e)) ↔ ((v : EntryValue) × Belongs pieces u v)
  -- What it says is what its grammar says, one value.
  pub says : (u : List ℕ) → Bytes u → (v : EntryValue) → Belongs pieces u v → said_of pieces (u ∷ []) ≡ v ∷ []
  -- An entry that `feed` answers is that of the unit which ended: the bytes since the last one, and those that the call took.
  pub entry_of : (room : ℕ) (taken rest : List ℕ) (answers : List (Told Entry)) (values : List EntryValue) (st : State) → Calls pieces room taken answers values rest st
      → (us : List (List ℕ)) (since : List ℕ) → Sofar Both taken us since
      → 256 ≤ room → (part slots rest' slots' : List ℕ) (r : Fed) (e : Entry) → Bytes part → length slots ≡ room → FeedDone pieces part rest slots st rest' slots' r
      → r.answer ≡ Ok (Some e) → Whole Both (since ++ take r.at part) × EntryOf pieces (since ++ take r.at part) slots e rest' slots'
  -- One that `finish` answers is that of the unit which is open.
  pub end_entry_of : (room : ℕ) (taken rest : List ℕ) (answers : List (Told Entry)) (values : List EntryValue) (st : State) → Calls pieces room taken answers values rest st
      → (us : List (List ℕ)) (since : List ℕ) → Sofar Both taken us since
      → 256 ≤ room → (slots slots' : List ℕ) (r : Finished) (e : Entry) → length slots ≡ room → FinishDone pieces rest slots st slots' r
      → r.answer ≡ Ok (Some e) → Open Both since × EntryOf pieces since slots e rest slots'
  -- A line and its record, fed in whatever streams and by whatever choice the record is, give one entry, and with one book one packet or one number.
  pub line_and_record : (u t : List ℕ) (v : EntryValue) → Line pieces u v → IsRecord t v
      → (slots : List ℕ) (e : Entry) (rest' slots' : List ℕ) → EntryOf pieces u slots e rest' slots'
      → (any : Pieces) (other : List ℕ) (f : Entry) (rest'' slots'' : List ℕ) → EntryOf any t other f rest'' slots''
      → (value_of e rest' slots' ≡ value_of f rest'' slots'') × ((book : List ℕ) → packet_for (value_of e rest' slots') book ≡ packet_for (value_of f rest'' slots'') book)
  -- An overlong line gives 1 if it starts with `#`, else 2.
  pub overlong : (u : List ℕ) → starts_a1 u ≡ false → 4096 < length u → (room : ℕ) → answer_of pieces u room ≡ refused (cond (eqb (get_or u 0 0) 35) 1 2)
  -- 54 is no answer of a unit that has ended.
  pub never_54 : (u : List ℕ) → Bytes u → Whole Both u → (room : ℕ) → answer_of pieces u room ≡ refused 54 → ⊥
  -- Number 30 is no unit's.
  pub never_30 : (u : List ℕ) → Bytes u → IsUnit u → (room : ℕ) → answer_of pieces u room ≡ refused 30 → ⊥

-- Fed again, nothing changes: the records of what a stream's units say, one behind the other, fed as a stream by any choice.
pub record FedAgain (pieces : Pieces) : Type 0 where
  -- Its units are these records: none is split, joined with another, lost or made up.
  pub units_are : (s : List ℕ) (us : List (List ℕ)) → Bytes s → Units Both s us → Units Both (records_of (said_of pieces us)) (map record_bytes (said_of pieces us))
  -- None of them is refused.
  pub none_refused : (s : List ℕ) (us : List (List ℕ)) → Bytes s → Units Both s us → (any : Pieces)
      → All (λ u. (e : Entry) × (answer_of any u 256 ≡ is e)) (map record_bytes (said_of pieces us))
  -- They say what the stream's units said.
  pub same_entries : (s : List ℕ) (us : List (List ℕ)) → Bytes s → Units Both s us → (any : Pieces) → said_of any (map record_bytes (said_of pieces us)) ≡ said_of pieces us
  -- Their records are the same bytes.
  pub same_bytes : (s : List ℕ) (us : List (List ℕ)) → Bytes s → Units Both s us → (any : Pieces)
      → records_of (said_of any (map record_bytes (said_of pieces us))) ≡ records_of (said_of pieces us)
