-- How many slots wait, and how many have a rank, once a slot is taken or a rank is freed: by induction over the slots, each slot adding its part to both
-- sides. Assumes nothing.
use Prim.Native.Nat.{ℕ, zero, suc, ◌+◌, ◌-◌, ◌<◌, ◌≤◌}
use native.Mathlib.Omega.{arith}
use mathlib.Core.Path.{◌≡◌, refl, sym, ◌∙◌, ap}
use mathlib.Core.Bool.{Bool, true, false, cond}
use mathlib.Core.List.{List, [], ◌∷◌}
use lib.ListN.{length, set}
use lib.Dec.{eqb, ltb}
use borrow.Author.Tests.{eq-eqb, ne_eqb, eqb-true, eqb-false, ltb-true, ltb-false}
use Rattle.slots.specs.declared.Slot.{Slot}
use Rattle.slots.specs.Decide.{lower_of}
use Rattle.pending.specs.Table.{rank_at, waiting, tally}
use Rattle.pending.specs.Step.{freed}
use Rattle.pending.proofs.Sounds.{tally_in}

same_test : (a b c d : ℕ) → (a ≡ b → c ≡ d) → (c ≡ d → a ≡ b) → eqb a b ≡ eqb c d
same_test a b c d f g = by_test (eqb a b) refl
  where
    by_test : (t : Bool) → eqb a b ≡ t → eqb a b ≡ eqb c d
    by_test true e = e ∙ sym (eq-eqb c d (f (eqb-true a b e)))
    by_test false e = e ∙ sym (ne_eqb c d (λ q. eqb-false a b e (g q)))

-- ---- which slots there are
pub waiting_none : (t : List Slot) → ((i : ℕ) → i < length t → rank_at t i ≡ 0) → waiting t ≡ 0
unfolding waiting
waiting_none [] h = refl
waiting_none (s ∷ t) h =
    let e = eq-eqb s.rank 0 (h 0 (omega arith)) in let m = waiting_none t (λ i g. h (suc i) (omega arith)) in rw e (omega arith)

-- where a rank stands once, there is one place of it
pub tally_one : (k : ℕ) (t : List Slot) (i j : ℕ) → tally k t ≡ 1 → i < length t → j < length t → rank_at t i ≡ k → rank_at t j ≡ k → i ≡ j
unfolding tally
tally_one k [] i j o hi hj ei ej = absurd (omega arith)
tally_one k (s ∷ t) zero zero o hi hj ei ej = refl
tally_one k (s ∷ t) zero (suc j) o hi hj ei ej =
    let q = eq-eqb s.rank k ei in let m = tally_in j k t (omega arith) ej in
    let a : 1 + tally k t ≡ 1 = ap (λ (b : Bool). cond b 1 0 + tally k t) (sym q) ∙ o in absurd (omega arith)
tally_one k (s ∷ t) (suc i) zero o hi hj ei ej =
    let q = eq-eqb s.rank k ej in let m = tally_in i k t (omega arith) ei in
    let a : 1 + tally k t ≡ 1 = ap (λ (b : Bool). cond b 1 0 + tally k t) (sym q) ∙ o in absurd (omega arith)
tally_one k (s ∷ t) (suc i) (suc j) o hi hj ei ej =
    let m = tally_in i k t (omega arith) ei in ap suc (tally_one k t i j (rest (eqb s.rank k) o m) (omega arith) (omega arith) ei ej)
  where
    rest : (b : Bool) → cond b 1 0 + tally k t ≡ 1 → 0 < tally k t → tally k t ≡ 1
    rest true a m = absurd (omega arith)
    rest false a m = omega arith

-- ---- a free slot is taken
pub waiting_take : (s : Slot) → 0 < s.rank → (t : List Slot) (i : ℕ) → i < length t → rank_at t i ≡ 0 → waiting (set t i s) ≡ waiting t + 1
unfolding waiting
waiting_take s w [] i h z = absurd (omega arith)
waiting_take s w (x ∷ t) zero h z = let d = ne_eqb s.rank 0 (λ q. omega arith) in let c = eq-eqb x.rank 0 z in rw (d, c) (omega arith)
waiting_take s w (x ∷ t) (suc i) h z = let m = waiting_take s w t i (omega arith) z in omega (arith, m)

pub tally_take : (s : Slot) (k : ℕ) → 0 < k → (t : List Slot) (i : ℕ) → i < length t → rank_at t i ≡ 0
    → tally k (set t i s) ≡ tally k t + cond (eqb s.rank k) 1 0
unfolding tally
tally_take s k w [] i h z = absurd (omega arith)
tally_take s k w (x ∷ t) zero h z = let d = ne_eqb x.rank k (λ q. omega arith) in rw d (omega arith)
tally_take s k w (x ∷ t) (suc i) h z = let m = tally_take s k w t i (omega arith) z in omega (arith, m)

-- ---- the rank r is freed: what a rank x becomes
pub data Lowered (r x y : ℕ) : Type 0 where
  this : x ≡ r → y ≡ 0 → Lowered r x y
  later : r < x → y + 1 ≡ x → Lowered r x y
  earlier : x < r → y ≡ x → Lowered r x y

pub lowered_is : (r x : ℕ) → 0 < r → Lowered r x (lower_of r x)
unfolding lower_of
lowered_is r x h = let z = ne_eqb r 0 (λ q. omega arith) in rw z (by_same (eqb x r) refl)
  where
    by_later : (x ≡ r → ⊥) → (b : Bool) → ltb r x ≡ b → Lowered r x (cond b (x - 1) x)
    by_later n true e = let g = ltb-true r x e in later g (omega arith)
    by_later n false e = earlier (below (ltb x r) refl) refl
      where
        below : (b : Bool) → ltb x r ≡ b → x < r
        below true f = ltb-true x r f
        below false f = let g = ltb-false x r f in let k = ltb-false r x e in absurd (n (omega arith))

    by_same : (b : Bool) → eqb x r ≡ b → Lowered r x (cond b 0 (cond (ltb r x) (x - 1) x))
    by_same true e = this (eqb-true x r e) refl
    by_same false e = by_later (eqb-false x r e) (ltb r x) refl

earlier_test : (r k x y : ℕ) → Lowered r x y → 0 < k → k < r → eqb y k ≡ eqb x k
earlier_test r k x y (this a b) w h = same_test y k x k (λ q. omega arith) (λ q. omega arith)
earlier_test r k x y (later a b) w h = same_test y k x k (λ q. omega arith) (λ q. omega arith)
earlier_test r k x y (earlier a b) w h = same_test y k x k (λ q. omega arith) (λ q. omega arith)

later_test : (r k x y : ℕ) → Lowered r x y → 0 < r → r ≤ k → eqb y k ≡ eqb x (suc k)
later_test r k x y (this a b) w h = same_test y k x (suc k) (λ q. omega arith) (λ q. omega arith)
later_test r k x y (later a b) w h = same_test y k x (suc k) (λ q. omega arith) (λ q. omega arith)
later_test r k x y (earlier a b) w h = same_test y k x (suc k) (λ q. omega arith) (λ q. omega arith)

-- earlier ranks are counted as before
pub tally_earlier : (r k : ℕ) → 0 < r → 0 < k → k < r → (t : List Slot) → tally k (freed r t) ≡ tally k t
unfolding tally
tally_earlier r k w v h [] = refl
tally_earlier r k w v h (s ∷ t) = rw (earlier_test r k s.rank (lower_of r s.rank) (lowered_is r s.rank w) v h, tally_earlier r k w v h t)

-- later ones are counted one lower
pub tally_later : (r k : ℕ) → 0 < r → r ≤ k → (t : List Slot) → tally k (freed r t) ≡ tally (suc k) t
unfolding tally
tally_later r k w h [] = refl
tally_later r k w h (s ∷ t) = rw (later_test r k s.rank (lower_of r s.rank) (lowered_is r s.rank w) w h, tally_later r k w h t)

one_waits : (r x y : ℕ) → 0 < r → Lowered r x y → cond (eqb y 0) 0 1 + cond (eqb x r) 1 0 ≡ cond (eqb x 0) 0 1
one_waits r x y w (this a b) = let e = eq-eqb x r a in let f = eq-eqb y 0 b in let g = ne_eqb x 0 (λ q. omega arith) in rw (e, f, g)
one_waits r x y w (later a b) =
    let e = ne_eqb x r (λ q. omega arith) in let f = ne_eqb y 0 (λ q. omega arith) in let g = ne_eqb x 0 (λ q. omega arith) in rw (e, f, g)
one_waits r x y w (earlier a b) = let e = ne_eqb x r (λ q. omega arith) in let f = same_test y 0 x 0 (λ q. omega arith) (λ q. omega arith) in rw (e, f) (omega arith)

-- and as many wait less as had the rank
pub waiting_free : (r : ℕ) → 0 < r → (t : List Slot) → waiting (freed r t) + tally r t ≡ waiting t
unfolding tally waiting
waiting_free r w [] = refl
waiting_free r w (s ∷ t) =
    let m = waiting_free r w t in let z = one_waits r s.rank (lower_of r s.rank) w (lowered_is r s.rank w) in omega (arith, m, z)
