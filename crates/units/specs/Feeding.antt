-- What a call answers, and what it leaves.
use Rattle.std.specs.Prelude.{ℕ, ◌+◌, ◌-◌, ◌≤◌, ◌<◌, ◌≡◌, Bool, true, false, cond, List, [], ◌∷◌, ◌++◌, eqb, ltb, length, get_or, take, drop, None, Option, Some}
use Rattle.text.specs.Place.{first_byte}
use Rattle.units.specs.declared.Framing.{Framing}
use Rattle.units.specs.declared.State.{State}
use Rattle.units.specs.declared.Unit as UnitModule
use Rattle.units.specs.declared.Unit.TheVariants as U
use Rattle.units.specs.declared.Fed as FedModule
use Rattle.units.specs.Units.{is_record, stated, Whole, Rest}
use Rattle.units.specs.Kept.{most, is_long, kept_text, kept_count, stood, Keeps, is_kept}

-- the bytes of a part from one place to another
unfoldable pub between : List ℕ → ℕ → ℕ → List ℕ
between s a b = take (b - a) (drop a s)

-- THE ANSWER OF A UNIT, ended by its last byte or by the stream's end
unfoldable pub unit_of : Framing → List ℕ → UnitModule.Unit
unit_of f u = cond (is_record f u) (cond (is_long u) U.Long (cond (ltb (length u) (stated u)) U.Cut (U.Text (length u)))) (U.Text (length (take 4097 u)))

-- the answer that no unit has ended, and that of one that has: the next has not begun
abbrev pub wants_at : ℕ → ℕ → ℕ → FedModule.Fed
wants_at at held passed = record { at = at; state = record { held = held; passed = passed }; unit = U.Open }

abbrev pub ends_at : ℕ → UnitModule.Unit → FedModule.Fed
ends_at at unit = record { at = at; state = record { held = 0; passed = 0 }; unit = unit }

-- the answer by the unit as far as it was read, w
pub data Answered (f : Framing) (w s : List ℕ) (r : FedModule.Fed) : Type 0 where
  wants : Rest f w → r ≡ wants_at (length s) (length (kept_text f w)) (kept_count f w) → Answered f w s r
  ends : Whole f w → r ≡ ends_at r.at (unit_of f w) → Answered f w s r

-- a call took bytes up to the end of the open unit u, else of the part; what is kept of it stands in the buffer
pub record FedOn (f : Framing) (u s : List ℕ) (from : ℕ) (rest exit : List ℕ) (r : FedModule.Fed) : Type 0 where
  pub up : from ≤ r.at
  pub within : r.at ≤ length s
  pub buffer : exit ≡ stood f (u ++ between s from r.at) rest
  pub answered : Answered f (u ++ between s from r.at) s r

-- so for every unit that may be open here and is kept so
abbrev pub FedFor : Framing → List ℕ → ℕ → List ℕ → ℕ → ℕ → List ℕ → FedModule.Fed → Type 0
FedFor f s from rest held passed exit r = (u : List ℕ) → Rest f u → Keeps f u rest held passed → FedOn f u s from rest exit r

-- WHAT `feed` ANSWERS: that no stream leaves what is lent, and nothing has changed; else what becomes of the unit that is kept
pub record FeedDone (f : Framing) (s : List ℕ) (from : ℕ) (rest : List ℕ) (st : State) (exit : List ℕ) (r : FedModule.Fed) : Type 0 where
  pub alien : is_kept f rest st.held st.passed ≡ false → (r ≡ record { at = from; state = st; unit = U.Alien }) × (exit ≡ rest)
  pub fed : is_kept f rest st.held st.passed ≡ true → FedFor f s from rest st.held st.passed exit r

-- what the end answers of the bytes since the last unit
unfoldable pub end_of : Framing → List ℕ → UnitModule.Unit
end_of f [] = U.Open
end_of f (b ∷ u) = unit_of f (b ∷ u)

-- WHAT `finish` ANSWERS: the open unit, if there is one
pub record FinishDone (f : Framing) (rest : List ℕ) (st : State) (r : UnitModule.Unit) : Type 0 where
  pub alien : is_kept f rest st.held st.passed ≡ false → r ≡ U.Alien
  pub ended : is_kept f rest st.held st.passed ≡ true → (u : List ℕ) → Rest f u → Keeps f u rest st.held st.passed → r ≡ end_of f u

-- ---- the steps of a call

-- the first byte of the unit that is open, or that the part begins
unfoldable pub first_of : List ℕ → ℕ → List ℕ → ℕ → ℕ
first_of s from rest held = get_or (take held rest ++ drop from s) 0 0

-- a record whose first three bytes are there
pub record Ready (f : Framing) (rest : List ℕ) (held passed : ℕ) : Type 0 where
  pub size : length rest ≡ 8192
  pub three : 3 ≤ held
  pub room : held ≤ 8192
  pub first : is_record f rest ≡ true
  pub below : held + passed ≤ stated rest
  pub long : most < stated rest → held ≡ 3
  pub short : stated rest ≤ most → passed ≡ 0

-- for whatever unit is kept so
abbrev pub BodyFed : Framing → List ℕ → ℕ → List ℕ → ℕ → ℕ → List ℕ → FedModule.Fed → Type 0
BodyFed f s from rest held passed exit r = (u : List ℕ) → Keeps f u rest held passed → FedOn f u s from rest exit r

-- a line ends behind its newline, if the part has one, else the part does
unfoldable pub is_found : Option ℕ → Bool
is_found (Some k) = true
is_found None = false

unfoldable pub end_by : List ℕ → Option ℕ → ℕ
end_by s (Some k) = k + 1
end_by s None = length s

-- where a unit ends or the part does, and whether the unit ends there
pub record LineEnd : Type 0 where
  pub at : ℕ
  pub whole : Bool

-- a part in which the unit does not end is all of it
abbrev pub end_in : List ℕ → Option ℕ → LineEnd
end_in s (Some at) = record { at = at; whole = true }
end_in s None = record { at = length s; whole = false }

pub record LineEnds (s : List ℕ) (from : ℕ) (e : LineEnd) : Type 0 where
  pub up : from ≤ e.at
  pub within : e.at ≤ length s
  pub at_is : e.at ≡ end_by s (first_byte 10 s from)
  pub whole_is : e.whole ≡ is_found (first_byte 10 s from)

-- the end's answer by what is kept
unfoldable pub end_unit : Framing → List ℕ → UnitModule.Unit
end_unit f text = cond (eqb (length text) 0) U.Open (cond (is_record f text) (cond (is_long text) U.Long U.Cut) (U.Text (length text)))

-- how many bytes of a unit stand in the buffer to be read
unfoldable pub text_length : UnitModule.Unit → ℕ
text_length (U.Text n) = n
text_length U.Long = 0
text_length U.Cut = 0
text_length U.Open = 0
text_length U.Alien = 0
