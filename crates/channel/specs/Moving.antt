-- How many bytes a read or a write moved. Which ones, no contract can say.
use Rattle.std.specs.Prelude.{ℕ, ◌≤◌, ◌<◌, ◌≡◌, Option, Some, None, Result, Ok, Err}
use Rattle.channel.specs.declared.fault.Fault.{Fault}
use Rattle.channel.specs.declared.writing.Cut.{Cut}

-- at least one byte and no more than the n of the buffer
abbrev pub Took : ℕ → Result ℕ Fault → Type 0
Took n (Ok k) = (0 < k) × (k ≤ n)
Took n (Err fault) = 0 < fault.errno

-- likewise, or the end
abbrev pub Read : ℕ → Result (Option ℕ) Fault → Type 0
Read n (Ok (Some k)) = (0 < k) × (k ≤ n)
Read n (Ok None) = Unit {0}
Read n (Err fault) = 0 < fault.errno

-- no more bytes than the n of the buffer
abbrev pub Held : ℕ → Result ℕ Fault → Type 0
Held n (Ok k) = k ≤ n
Held n (Err fault) = 0 < fault.errno

-- all n bytes were written, or fewer
abbrev pub Written : ℕ → Result ℕ Cut → Type 0
Written n (Ok k) = k ≡ n
Written n (Err cut) = cut.bytes < n
