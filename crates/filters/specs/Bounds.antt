-- How much room a call asks for, and that it stays within what it is lent. All numbers but the runs are lengths.
use Rattle.std.specs.Prelude.{ℕ, ◌+◌, ◌≤◌, ◌<◌}
use Rattle.filters.specs.declared.Run.{Run}

-- room for what a unit and the totals may put out: a record has at most 5,227 bytes, a row at most 75
pub record Room (out told : ℕ) (run : Run) : Type 0 where
  pub at : run.at + 5400 ≤ out
  pub told_at : run.told + 400 ≤ told

-- each place lies in what is lent
pub record Within (part out told : ℕ) (run r : Run) : Type 0 where
  pub up : run.from ≤ r.from
  pub from_within : r.from ≤ part
  pub at_within : r.at ≤ out
  pub told_within : r.told ≤ told

-- a call that finds room takes something
abbrev pub Goes : ℕ → ℕ → ℕ → Run → Run → Type 0
Goes part out told run r = run.from < part → run.at + 5400 ≤ out → run.told + 400 ≤ told → run.from < r.from

-- it stops before the part is used up only for want of room
abbrev pub Stops : ℕ → ℕ → ℕ → Run → Type 0
Stops part out told r = r.from < part → r.at + 5400 ≤ out → r.told + 400 ≤ told → ⊥
