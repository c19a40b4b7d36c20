-- A name is judged byte by byte: the answer for the whole is the answer for the rest. Assumes nothing.
use Prim.Native.Nat.{ℕ, zero, suc, ◌≤◌, ◌<◌}
use Rattle.std.specs.Bool.{MatchBool}
use Rattle.std.specs.Str.{IsAscii, IsNotAscii}
use Rattle.std.proofs.lemmas.Str.Ascii.{All-from_ascii, IsAscii-from_all}
use mathlib.Core.Path.{◌≡◌, refl, sym}
use mathlib.Core.Bool.{Bool, true, false, ◌&&◌}
use mathlib.Core.List.{List, [], ◌∷◌}
use native.Mathlib.Omega.{arith}
use borrow.Author.Tests.{leb-true, le-leb, lt-leb}
use lib.Dec.{leb}
use lib.ListN.{length, get_or}
use Rattle.tlv.specs.Grammar.{All}
use Rattle.tlv.specs.Reading.{all}
use Rattle.tlv.proofs.Pieces.{both_true}
use Rattle.book.specs.Grammar.{Name}
use Rattle.book.specs.Reading.{is_name}

abbrev pub is_low : ℕ → Bool
is_low b = leb b 127

all_low : (n : List ℕ) → all is_low n ≡ true → All (λ b. b < 128) n
all_low [] h = tt
all_low (b ∷ n) h =
    let w = both_true (leb b 127) (all is_low n) h in
    (omega (arith, leb-true b 127 w.0), all_low n w.1)

low_all : (n : List ℕ) → All (λ b. b < 128) n → all is_low n ≡ true
low_all [] h = refl
low_all (b ∷ n) h = rw (le-leb b 127 (omega (arith, h.0))) (low_all n h.1)

-- by the places of its bytes
from_places : (n : List ℕ) → ((k d : ℕ) → k < length n → get_or n k d < 128) → All (λ b. b < 128) n
from_places [] h = tt
from_places (b ∷ n) h = (h 0 b (omega arith), from_places n (λ k d lt. h (suc k) d (omega (arith, lt))))

to_places : (n : List ℕ) → All (λ b. b < 128) n → (k d : ℕ) → k < length n → get_or n k d < 128
to_places [] a k d lt = absurd (omega (arith, lt))
to_places (b ∷ n) a zero d lt = a.0
to_places (b ∷ n) a (suc k) d lt = to_places n a.1 k d (omega (arith, lt))

-- too short
pub name_empty : (n : List ℕ) → length n ≡ 0 → is_name n ≡ false
unfolding is_name
name_empty n h = rw (lt-leb 1 (length n) (omega arith))

-- so long, and ASCII or not
pub name_ascii : (n : List ℕ) → 1 ≤ length n → length n ≤ 255 → (r : Bool) → MatchBool r (IsAscii n) (IsNotAscii n) → r ≡ is_name n
unfolding is_name
name_ascii n h k true a = rw (le-leb 1 (length n) h, le-leb (length n) 255 k) (sym (low_all n (from_places n (All-from_ascii n a))))
name_ascii n h k false a = rw (le-leb 1 (length n) h, le-leb (length n) 255 k) (by (all is_low n) refl)
  where
    by : (b : Bool) → all is_low n ≡ b → false ≡ b
    by true e = let z : IsAscii n = IsAscii-from_all n (to_places n (all_low n e)) in absurd (omega (arith, z a.0, a.1))
    by false e = refl

-- sound: what passes the test is a name
pub name_is : (n : List ℕ) → is_name n ≡ true → Name n
unfolding is_name
name_is n h =
    let w = both_true (leb 1 (length n)) (leb (length n) 255 && all is_low n) h in
    let v = both_true (leb (length n) 255) (all is_low n) w.1 in
    record {
      some_byte = leb-true 1 (length n) w.0;
      at_most = leb-true (length n) 255 v.0;
      below = all_low n v.1;
    }

-- complete: a name passes the test
pub name_all : (n : List ℕ) → Name n → is_name n ≡ true
unfolding is_name
name_all n g =
    let some_byte : 1 ≤ length n = g.some_byte in
    let at_most : length n ≤ 255 = g.at_most in
    rw (le-leb 1 (length n) some_byte, le-leb (length n) 255 at_most) (low_all n g.below)
