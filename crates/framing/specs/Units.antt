-- The units of a stream, lines or records: what they are, and the one list of them.
use Rattle.std.specs.Prelude.{ℕ, min, ◌+◌, ◌-◌, ◌*◌, ◌≤◌, ◌<◌, ◌≡◌, Bool, true, false, cond, ◌&&◌, List, [], ◌∷◌, ◌++◌, eqb, leb, length, get_or, take}
use Rattle.framing.specs.declared.Framing.{Framing}
use Rattle.framing.specs.declared.Framing.TheVariants as F

-- the size of the record that starts a text: A1, two bytes with the length of what follows, low byte first, and as many bytes as they say
-- (two bytes say no more than 65,535); 0 where the three bytes are not all there, or the first is not A1
unfoldable pub stated_size : List ℕ → ℕ
stated_size s =
    cond (leb 3 (length s) && eqb (get_or s 0 0) 0xA1) (3 + min (get_or s 1 0 + 256 * get_or s 2 0) 65535) 0

-- a line is whole with its newline, a record with the last byte of its size
unfoldable pub is_whole : Framing → List ℕ → Bool
is_whole F.Lines u = eqb (get_or u (length u - 1) 0) 10
is_whole F.Records u = leb 3 (length u) && eqb (length u) (stated_size u)

-- neither a text nor a front of it is whole
abbrev pub Open : Framing → List ℕ → Type 0
Open f u = (k : ℕ) → k ≤ length u → is_whole f (take k u) ≡ false

-- a text is whole, and no front of it is
pub record IsUnit (f : Framing) (u : List ℕ) : Type 0 where
  pub whole : is_whole f u ≡ true
  pub first : (k : ℕ) → k < length u → is_whole f (take k u) ≡ false

-- a stream's units, one behind the other; what is open at its end is the last, if it has a byte
pub data Units (f : Framing) : List ℕ → List (List ℕ) → Type 0 where
  none : Units f [] []
  last : (u : List ℕ) → 0 < length u → Open f u → Units f u (u ∷ [])
  next : (u r : List ℕ) {s : List ℕ} {us : List (List ℕ)} → IsUnit f u → s ≡ u ++ r → Units f r us → Units f s (u ∷ us)

-- what is open counts if it has a byte
unfoldable pub closed : List ℕ → List (List ℕ)
closed [] = []
closed (b ∷ u) = (b ∷ u) ∷ []

module _ (f : Framing) where
  -- the units of what is open with more bytes behind it
  unfoldable pub units_from : List ℕ → List ℕ → List (List ℕ)
  units_from u [] = closed u
  units_from u (b ∷ s) = cond (is_whole f (u ++ (b ∷ []))) ((u ++ (b ∷ [])) ∷ units_from [] s) (units_from (u ++ (b ∷ [])) s)

-- the one list of a stream's units
abbrev pub units_of : Framing → List ℕ → List (List ℕ)
units_of f s = units_from f [] s
