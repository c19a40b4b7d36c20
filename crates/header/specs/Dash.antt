-- Task and pid.
use Rattle.std.specs.Prelude.{ℕ, ◌+◌, ◌-◌, ◌^◌, ◌≡◌, Bool, true, false, not, ◌&&◌, ◌||◌, List, ltb, get_or, take, drop, None, Option, Some}
use Rattle.text.specs.declared.class.Class.TheVariants.{NotSpace}
use Rattle.text.specs.Class.{is_digit, in_class}
use Rattle.text.specs.Number.{Decimal, number_of}
use Rattle.text.specs.Place.{Last, last_place, is_at}
use Rattle.text.specs.Run.{Run, run_end}

-- a dash with a byte before it and, where asked, a digit behind it
unfoldable pub dash_at : Bool → List ℕ → ℕ → Bool
dash_at numbered h k = ltb 0 k && is_at 45 h k && (not numbered || is_digit (get_or h (k + 1) 0))

-- task: in the header's first run without byte 32, all before the last `-` that has a byte before it
pub record Task (h : List ℕ) (task : List ℕ) : Type 0 where
  pub run : ℕ
  pub first_run : Run (in_class NotSpace) h 0 run
  pub dash : ℕ
  pub last_dash : Last (dash_at false h) run dash
  pub before : task ≡ take dash h

-- pid: in that run, the last `-` with a byte before it and a digit after it; then the whole digit run
pub record Pid (h : List ℕ) (pid : ℕ) : Type 0 where
  pub run : ℕ
  pub first_run : Run (in_class NotSpace) h 0 run
  pub dash : ℕ
  pub last_dash : Last (dash_at true h) run dash
  pub end : ℕ
  pub digits : Run is_digit h (dash + 1) end
  pub value : Decimal (2 ^ 32 - 1) (take (end - (dash + 1)) (drop (dash + 1) h)) pid

-- where the header's first run without byte 32 ends
unfoldable pub first_run : List ℕ → ℕ
first_run h = run_end (in_class NotSpace) h 0

-- the length of the task
unfoldable pub task_of : List ℕ → Option ℕ
task_of h = last_place (dash_at false h) (first_run h)

-- the digit run behind a dash, read
unfoldable pub digits_behind : List ℕ → Option ℕ → Option ℕ
digits_behind h (Some k) = number_of 10 (2 ^ 32 - 1) (take (run_end is_digit h (k + 1) - (k + 1)) (drop (k + 1) h))
digits_behind h None = None

-- the pid
unfoldable pub pid_of : List ℕ → Option ℕ
pid_of h = digits_behind h (last_place (dash_at true h) (first_run h))
