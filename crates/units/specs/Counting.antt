-- How many units have ended.
use Rattle.std.specs.Prelude.{ℕ, ◌+◌, ◌-◌, ◌≤◌, ◌<◌, ◌≡◌, true, false, List, length, drop}
use Rattle.units.specs.declared.Framing.{Framing}
use Rattle.units.specs.Units.{stated, Whole, Open, Sofar}
use Rattle.units.specs.Feeding.{between, LineEnd}

-- HOW MANY UNITS HAVE ENDED in a stream that came so far
abbrev pub Ended : Framing → List ℕ → ℕ → Type 0
Ended f s n = (us : List (List ℕ)) (v : List ℕ) → Sofar f s us v → n ≡ length us

-- a unit that begins at a place ends here; or it is open at the end
pub record UnitEnds (f : Framing) (s : List ℕ) (from : ℕ) (e : LineEnd) : Type 0 where
  pub up : from < e.at
  pub within : e.at ≤ length s
  pub whole_is : e.whole ≡ true → Whole f (between s from e.at)
  pub open_is : e.whole ≡ false → Open f (drop from s)

-- so for a record, by the length that it says
pub record RecordEnds (s : List ℕ) (from : ℕ) (e : LineEnd) : Type 0 where
  pub up : from < e.at
  pub within : e.at ≤ length s
  pub whole_is : e.whole ≡ true → e.at ≡ from + stated (drop from s)
  pub open_is : e.whole ≡ false → length s - from < stated (drop from s)
