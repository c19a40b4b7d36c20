-- What each step makes of where a program stands, field by field, so that no fault and no count is lost on the way.
use Rattle.std.specs.Prelude.{ℕ, ◌+◌, ◌-◌, ◌^◌, ◌≤◌, ◌<◌, min, ◌≡◌, Bool, true, false, cond, List, length, take, Option, Some, None, is_some, Result, Ok, Err, is_ok}
use Rattle.units.specs.declared.Unit as UnitModule
use Rattle.units.specs.declared.Unit.TheVariants as U
use Rattle.channel.specs.declared.fault.Fault.{Fault}
use Rattle.units.specs.Kept.{is_kept}
use Rattle.filters.specs.declared.Filter.{Filter}
use Rattle.filters.specs.Calls.{Took, Finished}
use Rattle.moving.specs.declared.program.Program.{Program}
use Rattle.moving.specs.Programs.{filter_by, framing_by, WholeIn}
use Rattle.moving.specs.declared.moving.Moving.{Moving}

-- before the first read: nothing held, waiting or counted, and no fault
pub record Begun (r : Moving) : Type 0 where
  pub from : r.run.from ≡ 0
  pub held : r.run.state.held ≡ 0
  pub passed : r.run.state.passed ≡ 0
  pub nothing_waits : r.run.at ≡ 0
  pub nothing_told : r.run.told ≡ 0
  pub units : r.run.counts.units ≡ 0
  pub entries : r.run.counts.entries ≡ 0
  pub whole : r.whole ≡ 0
  pub unwritten : r.unwritten ≡ None
  pub untold : r.untold ≡ false

-- the unit buffer keeps what is open as a stream does
abbrev pub Keeps : Program → List ℕ → Moving → Type 0
Keeps p unit s = is_kept (framing_by p) unit s.run.state.held s.run.state.passed ≡ true

-- the buffers and what is open are as they were
pub record Still (s r : Moving) : Type 0 where
  pub out : r.out.now ≡ s.out.now
  pub told : r.told.now ≡ s.told.now
  pub from : r.run.from ≡ s.run.from
  pub state : r.run.state ≡ s.run.state
  pub counts : r.run.counts ≡ s.run.counts

-- so many of n bytes were written: all of them exactly where there is no fault
pub record Outcome (n bytes : ℕ) (fault : Option Fault) : Type 0 where
  pub within : bytes ≤ n
  pub all : fault ≡ None → bytes ≡ n
  pub cut : is_some fault ≡ true → bytes < n

-- what waited was written, all of it or a front: the fault of that write is kept, and what is whole in the front is counted
pub record OutWritten (p : Program) (s r : Moving) : Type 0 where
  pub bytes : ℕ
  pub written : Outcome s.run.at bytes r.unwritten
  pub counted : ℕ
  pub counted_is : WholeIn p (take bytes s.out.now) counted
  pub whole : r.whole ≡ min (s.whole + counted) (2 ^ 64 - 1)
  pub still : Still s r
  pub empty : r.run.at ≡ 0
  pub told_at_is : r.run.told ≡ s.run.told
  pub untold : r.untold ≡ s.untold

-- what was to be told was written, all of it or a front; a fault is kept in mind for good
pub record ToldWritten (s r : Moving) : Type 0 where
  pub bytes : ℕ
  pub fault : Option Fault
  pub written : Outcome s.run.told bytes fault
  pub lost : is_some fault ≡ true → r.untold ≡ true
  pub sound : fault ≡ None → r.untold ≡ s.untold
  pub still : Still s r
  pub at_is : r.run.at ≡ s.run.at
  pub empty : r.run.told ≡ 0
  pub whole : r.whole ≡ s.whole
  pub unwritten : r.unwritten ≡ s.unwritten

-- after a fault nothing is written; else what waits is, and what is to be told after it, unless the first met a fault
pub record Drained (p : Program) (s r : Moving) : Type 0 where
  pub after_fault : is_some s.unwritten ≡ true → r ≡ s
  pub cut : s.unwritten ≡ None → is_some r.unwritten ≡ true → OutWritten p s r
  pub sound : s.unwritten ≡ None → r.unwritten ≡ None → (mid : Moving) × ((OutWritten p s mid) × (ToldWritten mid r))

-- room for what one unit and the end may put out
pub record Ending (s : Moving) : Type 0 where
  pub out_room : s.run.at + 5400 ≤ length s.out.now
  pub told_room : s.run.told + 400 ≤ length s.told.now

-- after a write to standard output that failed nothing more is written there: its fault stays, and so does what is counted
pub record FaultStays (s r : Moving) : Type 0 where
  pub unwritten : is_some s.unwritten ≡ true → r.unwritten ≡ s.unwritten
  pub whole : is_some s.unwritten ≡ true → r.whole ≡ s.whole

-- no write that failed is forgotten
pub record Lasting (s r : Moving) : Type 0 where
  pub untold : s.untold ≡ true → r.untold ≡ true
  pub fault_stays : FaultStays s r

-- after a write that failed what waits is let go, and nothing else changes
pub record LetGo (s r : Moving) : Type 0 where
  pub still : Still s r
  pub empty : r.run.at ≡ 0
  pub told_at_is : r.run.told ≡ s.run.told
  pub untold : r.untold ≡ s.untold
  pub whole : r.whole ≡ s.whole
  pub unwritten : r.unwritten ≡ s.unwritten

-- what waits stays where there is room for what one unit may put out; where there is not it is written, or let go after a write that failed
pub data OutRoom (p : Program) (s r : Moving) : Type 0 where
  out_left : s.run.at + 5400 ≤ length s.out.now → r ≡ s → OutRoom p s r
  let_go : length s.out.now < s.run.at + 5400 → is_some s.unwritten ≡ true → LetGo s r → OutRoom p s r
  out_written : length s.out.now < s.run.at + 5400 → is_some s.unwritten ≡ false → OutWritten p s r → OutRoom p s r

-- so of what is to be told, which is written where there is no room
pub data ToldRoom (s r : Moving) : Type 0 where
  told_left : s.run.told + 400 ≤ length s.told.now → r ≡ s → ToldRoom s r
  told_written : length s.told.now < s.run.told + 400 → ToldWritten s r → ToldRoom s r

-- room was made for both, and the part and the counts are as they were
pub record Roomy (p : Program) (s r : Moving) : Type 0 where
  pub mid : Moving
  pub out : OutRoom p s mid
  pub told : ToldRoom mid r
  pub untold : s.untold ≡ true → r.untold ≡ true
  pub from : r.run.from ≡ s.run.from
  pub state : r.run.state ≡ s.run.state
  pub counts : r.run.counts ≡ s.run.counts
  pub fault_stays : FaultStays s r
  pub ending : Ending r

-- a byte of the part is left, and there is room
pub record Ready (part : ℕ) (s : Moving) : Type 0 where
  pub from : s.run.from < part
  pub ending : Ending s

-- some of the part was taken: a filter writes nothing, so what is counted and the fault of a write are as they were
pub record Went (p : Program) (part : ℕ) (s r : Moving) : Type 0 where
  pub up : s.run.from < r.run.from
  pub within : r.run.from ≤ part
  pub untold : r.untold ≡ s.untold
  pub whole : is_ok (filter_by p) ≡ true → r.whole ≡ s.whole
  pub unwritten : is_ok (filter_by p) ≡ true → r.unwritten ≡ s.unwritten
  pub fault_stays : FaultStays s r

-- where a filter runs, its run and its buffers are what `take_some` answered
abbrev pub Filtered : Program → List ℕ → List ℕ → Moving → List ℕ → Moving → Type 0
Filtered p part unit s unit' r = (f : Filter) → filter_by p ≡ Ok f → Took f part unit s.out.now s.told.now s.run unit' r.out.now r.told.now r.run

-- a filter's end: room was made, and then its run and its buffers are what `finish` answered; it writes nothing
pub record FilterClosed (p : Program) (f : Filter) (unit : List ℕ) (s r : Moving) : Type 0 where
  pub mid : Moving
  pub roomy : Roomy p s mid
  pub finished : Finished f unit mid.out.now mid.told.now mid.run r.out.now r.told.now r.run
  pub whole : r.whole ≡ mid.whole
  pub unwritten : r.unwritten ≡ mid.unwritten
  pub untold : r.untold ≡ mid.untold

-- so where a filter runs
abbrev pub Closed : Program → List ℕ → Moving → Moving → Type 0
Closed p unit s r = (f : Filter) → filter_by p ≡ Ok f → FilterClosed p f unit s r

-- how the reading goes on behind a read: behind a part it goes on, unless a write failed; the end of the input ends it well; a read that failed ends it with its fault, and all is as it was
abbrev pub ReadTaken : Result (Option ℕ) Fault → Moving → Moving → Option (Result (Prim.Unit {0}) Fault) → Type 0
ReadTaken (Ok (Some n)) s r end = end ≡ cond (is_some r.unwritten) (Some (Ok tt)) None
ReadTaken (Ok None) s r end = end ≡ Some (Ok tt)
ReadTaken (Err fault) s r end = (end ≡ Some (Err fault)) × (r ≡ s)

-- a unit was cut off: in the other cases none has ended
unfoldable pub is_cut : UnitModule.Unit → Bool
is_cut (U.Text n) = true
is_cut U.Long = true
is_cut U.Cut = true
is_cut U.Open = false
is_cut U.Alien = false

-- a unit was shown and counted, or there was none: what is open is as it was
pub record Shown (cut : UnitModule.Unit) (s r : Moving) : Type 0 where
  pub counts_are : r.run.counts.units ≡ cond (is_cut cut) (min (s.run.counts.units + 1) (2 ^ 64 - 1)) s.run.counts.units
  pub entries : r.run.counts.entries ≡ s.run.counts.entries
  pub from : r.run.from ≡ s.run.from
  pub state : r.run.state ≡ s.run.state
  pub told_at_is : r.run.told ≡ s.run.told
  pub untold : r.untold ≡ s.untold
  pub fault_stays : FaultStays s r
  pub uncut : is_cut cut ≡ false → r ≡ s

-- the status at the end: 0 where no write and no read failed
unfoldable pub end_status : Option Fault → Result (Prim.Unit {0}) Fault → Bool → ℕ
end_status None (Ok done) false = 0
end_status None (Ok done) true = 1
end_status None (Err fault) untold = 1
end_status (Some fault) read untold = 1
