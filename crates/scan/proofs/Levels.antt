-- The largest byte is below 128 exactly where every byte is. Assumes nothing.
use Rattle.std.specs.Prelude.{None, Option, Some}
use Prim.Native.Nat.{ℕ, ◌+◌, ◌-◌, ◌≤◌, ◌<◌}
use mathlib.Core.Path.{◌≡◌, refl, sym, ◌∙◌}
use mathlib.Core.Bool.{true, false}
use mathlib.Core.List.{List}
use native.Mathlib.Omega.{arith}
use lib.Dec.{ltb}
use lib.ListN.{length, get_or, take, drop, length-drop}
use lib.Seq.{get_or-take, get_or-drop}
use Rattle.text.proofs.Stripping.{part_length, rest_is}
use borrow.Author.Tests.{le-leb, lt-leb, lt-ltb, le-ltb}
use Rattle.scan.specs.High.{high_at, is_nothing, Level}
use Rattle.scan.specs.Frame.{first_high}
use Rattle.text.specs.Place.{Free, first_place}
use Rattle.text.proofs.Places.{by_order, clash, first_none, first_free}

module _ (s : List ℕ) where
  pub level_none : Level s 0 0
  level_none = record { low = λ h k a b. absurd (omega arith); high = λ h. absurd (omega arith) }

  next : {i : ℕ} → Free (high_at s) 0 i → get_or s i 0 < 128 → Free (high_at s) 0 (i + 1)
  next {i} f h k a b = by_order k i (λ l. f k a l) (λ e. rw e (lt-leb 128 (get_or s i 0) h)) (λ l. absurd (omega arith))

  pub level_up : {i m : ℕ} → Level s i m → m < get_or s i 0 → Level s (i + 1) (get_or s i 0)
  level_up {i} {m} r h =
      record {
        low = λ l. next (r.low (omega arith)) l;
        high = λ l. (i, omega arith, le-leb 128 (get_or s i 0) l);
      }

  pub level_stays : {i m : ℕ} → Level s i m → get_or s i 0 ≤ m → Level s (i + 1) m
  level_stays {i} {m} r h =
      record {
        low = λ l. next (r.low l) (omega arith);
        high = λ l. let x = r.high l in (x.0, omega (arith, x.1), x.2);
      }

  -- the two answers
  pub none_is : Free (high_at s) 0 (length s) → true ≡ is_nothing (first_high s)
  unfolding first_high is_nothing
  none_is f = rw (first_none (high_at s) {i = 0} {n = length s} f)

  pub some_is : (k : ℕ) → k < length s → high_at s k ≡ true → false ≡ is_nothing (first_high s)
  unfolding first_high is_nothing
  some_is k h t = go (first_place (high_at s) (length s) 0) refl
    where
      go : (f : Option ℕ) → first_place (high_at s) (length s) 0 ≡ f → false ≡ is_nothing f
      go (Some j) e = refl
      go None e = absurd (clash t (first_free (high_at s) {i = 0} {n = length s} e (omega arith) k (omega arith) h))

  pub level_tells : {m : ℕ} → Level s (length s) m → ltb m 128 ≡ is_nothing (first_high s)
  level_tells {m} r =
      by_order m 128 (λ h. lt-ltb m 128 h ∙ none_is (r.low h)) (λ e. over (omega arith)) (λ h. over (omega arith))
    where
      over : 128 ≤ m → ltb m 128 ≡ is_nothing (first_high s)
      over h = let x = r.high h in le-ltb m 128 h ∙ some_is x.0 x.1 x.2

  -- a part's level tells of its own places
  left_low : {w m : ℕ} → Level (take w s) (length (take w s)) m → w ≤ length s → m < 128 → Free (high_at s) 0 w
  left_low {w} {m} r h l k a b =
      let e : w ≡ length (take w s) = part_length w s h in
      rw (sym (get_or-take w s k 0 b)) (r.low l k a (omega arith))

  pub left_high : {w m : ℕ} → Level (take w s) (length (take w s)) m → w ≤ length s → 128 ≤ m → false ≡ is_nothing (first_high s)
  left_high {w} {m} r h l =
      let x = r.high l in
      let e : w ≡ length (take w s) = part_length w s h in
      let b : x.0 < w = omega (arith, x.1) in
      some_is x.0 (omega arith) (rw (get_or-take w s x.0 0 b) at x.2)

  pub both_parts : {a w m j : ℕ} → Level (take w s) (length (take w s)) m → m < 128 → Level (take (length s - a) (drop a s)) (length (take (length s - a) (drop a s))) j → a ≤ w → w ≤ length s → ltb j 128 ≡ is_nothing (first_high s)
  both_parts {a} {w} {m} {j} r l q u h = go (rw (rest_is a s) at q)
    where
      go : Level (drop a s) (length (drop a s)) j → ltb j 128 ≡ is_nothing (first_high s)
      go p =
          let n : length (drop a s) ≡ length s - a = length-drop a s in
          by_order j 128
          (λ y. lt-ltb j 128 y ∙ none_is (λ k b c. by_order k w (λ z. left_low r h l k b z) (λ z. right y k (omega arith) c) (λ z. right y k (omega arith) c)))
          (λ y. over (omega arith))
          (λ y. over (omega arith))
        where
          right : j < 128 → (k : ℕ) → a ≤ k → k < length s → high_at s k ≡ false
          right y k b c =
              let n : length (drop a s) ≡ length s - a = length-drop a s in
              let e : a + (k - a) ≡ k = omega arith in
              rw e at (rw (get_or-drop a s (k - a) 0) at (p.low y (k - a) (omega arith) (omega arith)))

          over : 128 ≤ j → ltb j 128 ≡ is_nothing (first_high s)
          over y =
              let n : length (drop a s) ≡ length s - a = length-drop a s in
              let x = p.high y in
              le-ltb j 128 y ∙ some_is (a + x.0) (omega (arith, x.1)) (rw (get_or-drop a s x.0 0) at x.2)

-- what a caller is told: no byte is high, or one is
module _ (t : List ℕ) where
  pub none_told : is_nothing (first_high t) ≡ true → first_high t ≡ None
  unfolding is_nothing
  none_told e = go (first_high t) e
    where
      go : (f : Option ℕ) → is_nothing f ≡ true → f ≡ None
      go (Some k) q = absurd (let z : ◌≡◌ {A = ℕ} 0 1 = cc in omega arith)
      go None q = refl

  pub some_told : is_nothing (first_high t) ≡ false → (k : ℕ) × (first_high t ≡ Some k)
  unfolding is_nothing
  some_told e = go (first_high t) refl e
    where
      go : (f : Option ℕ) → first_high t ≡ f → is_nothing f ≡ false → (k : ℕ) × (first_high t ≡ Some k)
      go (Some k) q r = (k, q)
      go None q r = absurd (let z : ◌≡◌ {A = ℕ} 0 1 = cc in omega arith)
