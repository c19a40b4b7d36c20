-- How the reading goes on behind a line and behind a read.
use Rattle.std.specs.Prelude.{ℕ, ◌≡◌, ◌≢◌, ◌⊎◌, cond, List, get_or, Option, Some, None, is_some, Result, Ok, Err}
use Rattle.channel.specs.declared.fault.Fault.{Fault}
use Rattle.why_rows.specs.Tally.{with_line}
use Rattle.why.specs.declared.reading.Stop.{Stop}
use Rattle.why.specs.declared.reading.Stop.TheVariants.{Unread, Record}
use Rattle.why.specs.declared.reading.Reading.{Reading}
use Rattle.why.specs.Saying.{LineSaid}

-- a line was taken off the buffer: a record stops the reading, and is counted and not said; every other line is said
pub record LineTaken (line : List ℕ) (s r : Reading) (end : Result (Unit {0}) Stop) : Type 0 where
  pub emptied : r.held ≡ 0
  pub record_ends : get_or line 0 0 ≡ 0xA1 → end ≡ Err Record
  pub record_counted : get_or line 0 0 ≡ 0xA1 → r.asking.counts ≡ with_line s.asking.counts
  pub record_unsaid : get_or line 0 0 ≡ 0xA1 → r.asking.sink ≡ s.asking.sink
  pub line_goes_on : get_or line 0 0 ≢ 0xA1 → end ≡ Ok tt
  pub line_said : get_or line 0 0 ≢ 0xA1 → LineSaid line s.asking r.asking

-- what stops lines is a record
abbrev pub AtRecord : Result (Unit {0}) Stop → Type 0
AtRecord (Ok done) = Unit {0}
AtRecord (Err stop) = stop ≡ Record

-- likewise behind the part that was read and at the end of the input; behind a part it goes on else, unless a write failed; a read that failed ends it with its fault, and all is as it was
abbrev pub ReadTaken : Result (Option ℕ) Fault → Reading → Reading → Option (Result (Unit {0}) Stop) → Type 0
ReadTaken (Ok (Some n)) s r end = (end ≡ Some (Err Record)) ⊎ (end ≡ cond (is_some r.asking.sink.sink.fault) (Some (Ok tt)) None)
ReadTaken (Ok None) s r end = (end ≡ Some (Err Record)) ⊎ (end ≡ Some (Ok tt))
ReadTaken (Err fault) s r end = (end ≡ Some (Err (Unread fault))) × (r ≡ s)
