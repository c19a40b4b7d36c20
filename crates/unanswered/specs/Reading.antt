-- How the reading goes on behind a read.
use Rattle.std.specs.Prelude.{ℕ, ◌≡◌, cond, Option, Some, None, is_some, Result, Ok, Err}
use Rattle.channel.specs.declared.fault.Fault.{Fault}
use Rattle.unanswered.specs.declared.matching.Matching.{Matching}

-- behind a part it goes on, unless a write failed; the end of the input ends it well; a read that failed ends it with its fault, and all is as it was
abbrev pub ReadTaken : Result (Option ℕ) Fault → Matching → Matching → Option (Result (Unit {0}) Fault) → Type 0
ReadTaken (Ok (Some n)) s r end = end ≡ cond (is_some r.sink.sink.fault) (Some (Ok tt)) None
ReadTaken (Ok None) s r end = end ≡ Some (Ok tt)
ReadTaken (Err fault) s r end = (end ≡ Some (Err fault)) × (r ≡ s)
