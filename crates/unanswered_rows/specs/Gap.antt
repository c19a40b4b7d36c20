-- The time between two lines.
use Rattle.std.specs.Prelude.{ℕ, ◌+◌, ◌-◌, ◌*◌, ◌/◌, ◌%◌, ◌^◌, min, cond, ltb}
use Rattle.unanswered_rows.specs.declared.gap.Moment.{Moment}
use Rattle.unanswered_rows.specs.declared.gap.Gap.{Gap}
use Rattle.unanswered_rows.specs.declared.gap.Gap.TheVariants as G

-- no number passes 64 bits
abbrev pub most64 : ℕ → ℕ
most64 n = min n (2 ^ 64 - 1)

-- a time in microseconds
abbrev pub instant : Moment → ℕ
instant m = m.seconds * 1000000 + m.microseconds

-- the same where the seconds that its microseconds make are added first; these seconds have 64 bits, so it is the time of every line
unfoldable pub micros_of : Moment → ℕ
micros_of m = most64 (m.seconds + m.microseconds / 1000000) * 1000000 + m.microseconds % 1000000

-- the second time after the first, or before it
unfoldable pub gap_of : Moment → Moment → Gap
gap_of a b = cond (ltb (micros_of b) (micros_of a)) (G.Before (most64 (micros_of a - micros_of b))) (G.After (most64 (micros_of b - micros_of a)))
