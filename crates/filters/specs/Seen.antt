-- What a row says of a unit.
use Rattle.std.specs.Prelude.{ℕ}

-- an entry's kind and how many dwords it has; the number that refuses the unit; or nothing, where no unit ended
pub data Seen : Type 0 where
  Entry : ℕ → ℕ → Seen
  Refused : ℕ → Seen
  Nothing : Seen
