-- One number of an entry is set.
-- Assumes nothing.
use Rattle.std.specs.Prelude.{ℕ, cond, eqb}
use Rattle.oracle_record_rows.specs.declared.set.Change.{Change}

-- the value that a number is set to, or what it is
abbrev pub set_or : Change → ℕ → ℕ → ℕ
set_or change number old = cond (eqb change.number number) change.value old
