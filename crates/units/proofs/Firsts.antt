-- Record or line, by the first byte: a front and what it goes on to are of one kind. Assumes nothing.
use Prim.Native.Nat.{ℕ, ◌≤◌, ◌<◌}
use mathlib.Core.Path.{◌≡◌, refl, ap}
use mathlib.Core.Bool.{true, false}
use mathlib.Core.List.{List, [], ◌∷◌, ◌++◌}
use native.Mathlib.Omega.{arith}
use lib.Dec.{eqb}
use lib.ListN.{length, get_or, take, get_or-append}
use lib.Seq.{get_or-take}
use Rattle.text.proofs.Places.{clash}
use Rattle.units.specs.declared.Framing.{Framing}
use Rattle.units.specs.declared.Framing.TheVariants as F
use Rattle.units.specs.Units.{marked, is_record, stated}

-- no byte, no record
pub none_marked : (f : Framing) → marked f 0 ≡ false
unfolding marked
none_marked F.Lines = refl
none_marked F.Both = refl

pub record_some : (f : Framing) (u : List ℕ) → is_record f u ≡ true → 0 < length u
record_some f [] t = absurd (clash t (none_marked f))
record_some f (b ∷ u) t = omega arith

pub first_take : (k : ℕ) (u : List ℕ) → 0 < k → get_or (take k u) 0 0 ≡ get_or u 0 0
first_take k u h = get_or-take k u 0 0 h

pub record_take : (f : Framing) (k : ℕ) (u : List ℕ) → 0 < k → is_record f (take k u) ≡ is_record f u
record_take f k u h = ap (marked f) (first_take k u h)

pub record_append : (f : Framing) (u a : List ℕ) → 0 < length u → is_record f (u ++ a) ≡ is_record f u
record_append f u a h = ap (marked f) (get_or-append u a 0 0 h)

-- three bytes and what they say
pub states_three : (u : List ℕ) → 3 ≤ stated u
unfolding stated
states_three u = omega arith

-- bytes behind the third do not change what is said
pub stated_take : (k : ℕ) (u : List ℕ) → 3 ≤ k → stated (take k u) ≡ stated u
unfolding stated
stated_take k u h = rw (get_or-take k u 1 0 (omega arith), get_or-take k u 2 0 (omega arith))

pub stated_append : (u v : List ℕ) → 3 ≤ length u → stated (u ++ v) ≡ stated u
unfolding stated
stated_append u v h = rw (get_or-append u v 0 1 (omega arith), get_or-append u v 0 2 (omega arith))

-- by the framing
pub mark_none : {f : Framing} (b : ℕ) → f ≡ F.Lines → false ≡ marked f b
unfolding marked
mark_none b e = rw e

pub mark_a1 : {f : Framing} (b : ℕ) → f ≡ F.Both → eqb b 0xA1 ≡ marked f b
unfolding marked
mark_a1 b e = rw e
