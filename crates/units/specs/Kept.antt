-- What is kept of an open unit, the states that a stream leaves, and the test of 53.
use Rattle.std.specs.Prelude.{ℕ, ◌+◌, ◌-◌, ◌≤◌, ◌<◌, ◌≡◌, Bool, true, false, cond, List, ◌++◌, eqb, ltb, leb, length, take, drop, None, Option, Some}
use Rattle.text.specs.Place.{first_byte}
use Rattle.units.specs.declared.Framing.{Framing}
use Rattle.units.specs.Units.{is_record, stated, Bare, Sofar}

-- the largest record
abbrev pub most : ℕ
most = 5227

-- a record that says more
unfoldable pub is_long : List ℕ → Bool
is_long u = ltb most (stated u)

-- WHAT IS KEPT OF A UNIT: of a line 4,097 bytes, one more than a line may have; of a record that says too much its first three; of another all
unfoldable pub kept_text : Framing → List ℕ → List ℕ
kept_text f u = cond (is_record f u) (cond (is_long u) (take 3 u) u) (take 4097 u)

-- and how many bytes were passed over: of a record that says too much all behind its third
unfoldable pub kept_count : Framing → List ℕ → ℕ
kept_count f u = cond (is_record f u) (cond (is_long u) (length u - 3) 0) 0

-- the buffer with what is kept of a unit in front, and behind it as found
unfoldable pub stood : Framing → List ℕ → List ℕ → List ℕ
stood f u rest = kept_text f u ++ drop (length (kept_text f u)) rest

-- a buffer of 8,192 bytes and a state keep a unit; the bytes behind the held ones are free
pub record Keeps (f : Framing) (u rest : List ℕ) (held passed : ℕ) : Type 0 where
  pub size : length rest ≡ 8192
  pub within : held ≤ 8192
  pub text_is : take held rest ≡ kept_text f u
  pub passed_is : passed ≡ kept_count f u

-- A STREAM THAT CAME SO FAR LEAVES THIS: the bytes since its last unit are kept
pub record Leaves (f : Framing) (s rest : List ℕ) (held passed : ℕ) : Type 0 where
  pub units : List (List ℕ)
  pub since : List ℕ
  pub so_far : Sofar f s units since
  pub keeps : Keeps f since rest held passed

-- the same without a stream, as a list of cases: of a record that says too much three bytes, and fewer in all than it says; of another fewer
-- than it says; of a line at most 4,097, none of them a newline
pub data LeftBy (f : Framing) (text : List ℕ) (passed : ℕ) : Type 0 where
  long : is_record f text ≡ true → most < stated text → length text ≡ 3 → 3 + passed < stated text → LeftBy f text passed
  short : is_record f text ≡ true → stated text ≤ most → passed ≡ 0 → length text < stated text → LeftBy f text passed
  line : is_record f text ≡ false → passed ≡ 0 → length text ≤ 4097 → Bare text (length text) → LeftBy f text passed

unfoldable pub none_found : Option ℕ → Bool
none_found (Some k) = false
none_found None = true

-- at most 4,097 bytes, none a newline
unfoldable pub line_left : List ℕ → Bool
line_left l = cond (leb (length l) 4097) (none_found (first_byte 10 l 0)) false

-- these cases as a test
unfoldable pub is_left : Framing → List ℕ → ℕ → Bool
is_left f text passed =
    cond (is_record f text)
    (cond (is_long text) (cond (eqb (length text) 3) (ltb (3 + passed) (stated text)) false) (cond (eqb passed 0) (ltb (length text) (stated text)) false))
    (cond (eqb passed 0) (line_left text) false)

-- THE TEST OF 53: a buffer of 8,192 bytes, and of what is held in it a state that a stream leaves
unfoldable pub is_kept : Framing → List ℕ → ℕ → ℕ → Bool
is_kept f rest held passed = cond (eqb (length rest) 8192) (cond (leb held 8192) (is_left f (take held rest) passed) false) false
