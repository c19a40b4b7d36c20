-- Every stream has one list of units: walking on from what is open, byte by byte, gives units by the relation, and whatever is units by the
-- relation is what the walk gives. Assumes nothing.
use Prim.Native.Nat.{ℕ, zero, suc, ◌+◌, ◌-◌, ◌≤◌, ◌<◌}
use mathlib.Core.Path.{◌≡◌, refl, sym, ap, ◌∙◌}
use mathlib.Core.Bool.{Bool, true, false, cond}
use mathlib.Core.List.{List, [], ◌∷◌, ◌++◌, append_assoc, append-nil}
use native.Mathlib.Omega.{arith}
use lib.ListN.{length, get_or, take, length-append}
use lib.Seq.{take_all, take-suc, take-append-le, take-append-add}
use Rattle.text.proofs.Places.{clash, by_order}
use Rattle.framing.specs.declared.Framing.{Framing}
use Rattle.framing.specs.declared.Framing.TheVariants as F
use Rattle.framing.specs.Units.{stated_size, is_whole, Open, IsUnit, Units, closed, units_from, units_of}

-- nothing is not whole
pub empty_open : (f : Framing) → is_whole f [] ≡ false
unfolding is_whole stated_size
empty_open F.Lines = refl
empty_open F.Records = refl

-- one byte more behind a text
append_byte : (u : List ℕ) (b : ℕ) (s : List ℕ) → (u ++ (b ∷ [])) ++ s ≡ u ++ (b ∷ s)
append_byte u b s = append_assoc u (b ∷ []) s

module _ (f : Framing) where
  open_nothing : Open f []
  open_nothing zero h = empty_open f
  open_nothing (suc k) h = absurd (omega arith)

  -- an open text's fronts with one byte behind it
  fronts : (u : List ℕ) (b : ℕ) → Open f u → (k : ℕ) → k < length (u ++ (b ∷ [])) → is_whole f (take k (u ++ (b ∷ []))) ≡ false
  fronts u b o k h =
      let n : k ≤ length u = omega (arith, length-append u (b ∷ [])) in
      rw (take-append-le k u (b ∷ []) n) (o k n)

  open_more : (u : List ℕ) (b : ℕ) → Open f u → is_whole f (u ++ (b ∷ [])) ≡ false → Open f (u ++ (b ∷ []))
  open_more u b o w k h =
      by_order k (length (u ++ (b ∷ []))) (λ l. fronts u b o k l) (λ e. rw (take_all k (u ++ (b ∷ [])) (omega arith)) w) (λ l. absurd (omega arith))

  -- what the walk gives is units
  from_are : (u s : List ℕ) → Open f u → Units f (u ++ s) (units_from f u s)
  unfolding units_from closed
  from_are [] [] o = Units.none
  from_are (a ∷ u) [] o =
      let e : u ++ [] ≡ u = append-nil u in
      rw e (Units.last (a ∷ u) (omega arith) o)
  from_are u (b ∷ s) o = go (is_whole f (u ++ (b ∷ []))) refl (from_are [] s open_nothing) (λ w. from_are (u ++ (b ∷ [])) s (open_more u b o w))
    where
      go : (t : Bool) → is_whole f (u ++ (b ∷ [])) ≡ t → Units f s (units_from f [] s) → (is_whole f (u ++ (b ∷ [])) ≡ false → Units f ((u ++ (b ∷ [])) ++ s) (units_from f (u ++ (b ∷ [])) s)) → Units f (u ++ (b ∷ s)) (cond t ((u ++ (b ∷ [])) ∷ units_from f [] s) (units_from f (u ++ (b ∷ [])) s))
      go true w x y = Units.next (u ++ (b ∷ [])) s (record { whole = w; first = fronts u b o }) (sym (append_byte u b s)) x
      go false w x y = rw append_byte at (y w)

  pub units_are : (s : List ℕ) → Units f s (units_of f s)
  units_are s = from_are [] s open_nothing

  -- open bytes only grow what is open
  walk_open : (u d r : List ℕ) → Open f (u ++ d) → units_from f u (d ++ r) ≡ units_from f (u ++ d) r
  unfolding units_from
  walk_open u [] r o = rw (append-nil u)
  walk_open u (b ∷ d) r o =
      let n : length u + 1 ≤ length (u ++ (b ∷ d)) = omega (arith, length-append u (b ∷ d)) in
      let front : take (length u + 1) (u ++ (b ∷ d)) ≡ u ++ (b ∷ []) = take-append-add u (b ∷ d) 1 in
      let w : is_whole f (u ++ (b ∷ [])) ≡ false = rw front at (o (length u + 1) n) in
      let o' : Open f ((u ++ (b ∷ [])) ++ d) = λ k h. rw append_byte (o k (rw append_byte at h)) in
      rw w (walk_open (u ++ (b ∷ [])) d r o' ∙ rw append_byte)

  -- a unit is a front that is open and a last byte
  last_byte : (u : List ℕ) → 0 < length u → u ≡ take (length u - 1) u ++ (get_or u (length u - 1) 0 ∷ [])
  last_byte u h =
      let e : suc (length u - 1) ≡ length u = omega arith in
      sym (take_all (suc (length u - 1)) u (omega arith)) ∙ take-suc u (length u - 1) 0 (omega arith)

  unit_some : (u : List ℕ) → IsUnit f u → 0 < length u
  unit_some [] i = absurd (clash i.whole (empty_open f))
  unit_some (b ∷ u) i = omega arith

  walk_unit : (v : List ℕ) (b : ℕ) (r : List ℕ) → IsUnit f (v ++ (b ∷ [])) → units_from f [] (v ++ (b ∷ r)) ≡ (v ++ (b ∷ [])) ∷ units_from f [] r
  unfolding units_from
  walk_unit v b r i =
      let o : Open f v = λ k h. rw (take-append-le k v (b ∷ []) h) at (i.first k (omega (arith, length-append v (b ∷ [])))) in
      walk_open [] v (b ∷ r) o ∙ rw i.whole

  unit_first : (u r : List ℕ) → IsUnit f u → units_from f [] (u ++ r) ≡ u ∷ units_from f [] r
  unit_first u r i =
      let e : u ≡ take (length u - 1) u ++ (get_or u (length u - 1) 0 ∷ []) = last_byte u (unit_some u i) in
      split (take (length u - 1) u) (get_or u (length u - 1) 0) e i
    where
      split : (v : List ℕ) (b : ℕ) → u ≡ v ++ (b ∷ []) → IsUnit f u → units_from f [] (u ++ r) ≡ u ∷ units_from f [] r
      split v b e i = rw (e, append_byte v b r) (walk_unit v b r (rw e at i))

  -- whatever is units is what the walk gives
  pub units_all : {s : List ℕ} {us : List (List ℕ)} → Units f s us → units_of f s ≡ us
  unfolding units_from closed
  units_all Units.none = refl
  units_all (Units.last u some o) = ap (units_from f []) (sym (append-nil u)) ∙ walk_open [] u [] o ∙ alone u some
    where
      alone : (u : List ℕ) → 0 < length u → units_from f u [] ≡ u ∷ []
      alone [] h = absurd (omega arith)
      alone (b ∷ u) h = refl
  units_all (Units.next u r i e rest) = rw e (unit_first u r i ∙ ap (λ (us : List (List ℕ)). u ∷ us) (units_all rest))

  -- one list
  pub one_units : {s : List ℕ} {us vs : List (List ℕ)} → Units f s us → Units f s vs → us ≡ vs
  one_units a b = sym (units_all a) ∙ units_all b
