-- The counts.
use Rattle.std.specs.Prelude.{ℕ, ◌+◌, ◌-◌, ◌^◌, min}
use Rattle.text.specs.declared.number.BadNumber.{BadNumber}
use Rattle.text.specs.declared.number.BadNumber.TheVariants as R
use Rattle.why_rows.specs.declared.tally.Counts.{Counts}

-- one more, within 64 bits
unfoldable pub up : ℕ → ℕ
up n = min (n + 1) (2 ^ 64 - 1)

-- before the first line
abbrev pub no_counts : Counts
no_counts = record { lines = 0; payloads = 0; unreadable = 0; empty = 0; bad = 0; wide = 0 }

-- one more line
unfoldable pub with_line : Counts → Counts
with_line c =
    record { lines = up c.lines; payloads = c.payloads; unreadable = c.unreadable; empty = c.empty; bad = c.bad; wide = c.wide }

-- one more payload
unfoldable pub with_payload : Counts → Counts
with_payload c =
    record { lines = c.lines; payloads = up c.payloads; unreadable = c.unreadable; empty = c.empty; bad = c.bad; wide = c.wide }

-- one more number that is unreadable for a reason
unfoldable pub tally : Counts → BadNumber → Counts
tally c R.Empty =
    record { lines = c.lines; payloads = c.payloads; unreadable = up c.unreadable; empty = up c.empty; bad = c.bad; wide = c.wide }
tally c (R.BadDigit k) =
    record { lines = c.lines; payloads = c.payloads; unreadable = up c.unreadable; empty = c.empty; bad = up c.bad; wide = c.wide }
tally c R.TooWide =
    record { lines = c.lines; payloads = c.payloads; unreadable = up c.unreadable; empty = c.empty; bad = c.bad; wide = up c.wide }
