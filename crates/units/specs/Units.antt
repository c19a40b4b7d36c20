-- The units of a stream, without a machine: one behind the other, each by its first byte.
use Rattle.std.specs.Prelude.{ℕ, ◌+◌, ◌*◌, ◌<◌, ◌≡◌, Bool, true, false, List, [], ◌∷◌, ◌++◌, eqb, length, get_or}
use Rattle.units.specs.declared.Framing.{Framing}
use Rattle.units.specs.declared.Framing.TheVariants as F

-- a unit that starts with this byte is a record: with A1, where a stream has records
unfoldable pub marked : Framing → ℕ → Bool
marked F.Lines b = false
marked F.Both b = eqb b 0xA1

-- so it is by its first byte, as soon as there is one
abbrev pub is_record : Framing → List ℕ → Bool
is_record f u = marked f (get_or u 0 0)

-- how many bytes a record says it has: its first three, and as many as the second and the third say, low byte first; a byte that is not there
-- yet counts as 0
unfoldable pub stated : List ℕ → ℕ
stated u = 3 + (get_or u 1 0 + 256 * get_or u 2 0)

-- none of the first n bytes is a newline
abbrev pub Bare : List ℕ → ℕ → Type 0
Bare u n = (k : ℕ) → k < n → get_or u k 0 ≡ 10 → ⊥

-- a unit that has ended: a line whose last byte is its one newline, or a record of the length that it says
pub data Whole (f : Framing) (u : List ℕ) : Type 0 where
  line : (n : ℕ) → is_record f u ≡ false → length u ≡ n + 1 → Bare u n → get_or u n 0 ≡ 10 → Whole f u
  a_record : is_record f u ≡ true → length u ≡ stated u → Whole f u

-- a unit that has begun and not ended: a line without a newline, or a record that is shorter than it says
pub data Open (f : Framing) (u : List ℕ) : Type 0 where
  line : is_record f u ≡ false → 0 < length u → Bare u (length u) → Open f u
  a_record : is_record f u ≡ true → length u < stated u → Open f u

-- THE UNITS OF A STREAM: one behind the other; the stream's end ends one that is open
pub data Units (f : Framing) : List ℕ → List (List ℕ) → Type 0 where
  none : Units f [] []
  last : (u : List ℕ) → Open f u → Units f u (u ∷ [])
  next : (u r : List ℕ) {s : List ℕ} {us : List (List ℕ)} → Whole f u → s ≡ u ++ r → Units f r us → Units f s (u ∷ us)

-- the bytes since the last unit ended: none, or an open unit
pub data Rest (f : Framing) (u : List ℕ) : Type 0 where
  none : u ≡ [] → Rest f u
  some : Open f u → Rest f u

-- a stream as far as it has come: the units that have ended, and the bytes since
pub data Sofar (f : Framing) : List ℕ → List (List ℕ) → List ℕ → Type 0 where
  begun : (u : List ℕ) → Rest f u → Sofar f u [] u
  behind : (u r : List ℕ) {s v : List ℕ} {us : List (List ℕ)} → Whole f u → s ≡ u ++ r → Sofar f r us v → Sofar f s (u ∷ us) v

-- what is open counts at the end if it has a byte
unfoldable pub closing : List ℕ → List (List ℕ)
closing [] = []
closing (b ∷ u) = (b ∷ u) ∷ []
