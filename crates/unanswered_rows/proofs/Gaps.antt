-- A line's time is what its numbers say: the seconds that its microseconds make pass no 64 bits. Assumes nothing.
use Prim.Native.Nat.{◌^◌, ◌<◌}
use mathlib.Core.Path.{◌≡◌}
use native.Mathlib.Omega.{arith}
use Rattle.unanswered_rows.specs.declared.gap.Moment.{Moment}
use Rattle.unanswered_rows.specs.Gap.{instant, micros_of}

-- seconds and microseconds have 63 bits in every entry of a line
pub micros_exact : (m : Moment) → m.seconds < 2 ^ 63 → m.microseconds < 2 ^ 63 → micros_of m ≡ instant m
unfolding micros_of
micros_exact m h k = omega arith
