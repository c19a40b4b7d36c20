-- The number n that a row begins with.
-- Assumes nothing.
use Rattle.std.specs.Prelude.{ℕ, List, None, Option, Some}
use Rattle.book.specs.Finders.{entry_count, control_table}

-- the entries of a table that was found, none of one that is missing
abbrev pub entries_in : List ℕ → Option ℕ → ℕ
entries_in s (Some table) = entry_count s table
entries_in s None = 0

-- how many entries the control table of a kind has, none without a table
unfoldable pub control_count : List ℕ → ℕ → ℕ
control_count s kind = entries_in s (control_table s kind)
