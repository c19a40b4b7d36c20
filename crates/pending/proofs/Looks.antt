-- What a look at all slots finds: the first free place, and the oldest slot that is asked for. Slot by slot, from the end. Assumes nothing.
use Rattle.std.specs.Prelude.{None, Option, Some}
use mathlib.Core.Path.{◌≡◌, refl, sym, ◌∙◌, ap}
use Prim.Native.Nat.{ℕ, zero, suc, ◌+◌, ◌<◌, ◌≤◌}
use native.Mathlib.Omega.{arith}
use mathlib.Core.Bool.{Bool, true, false, cond, ◌&&◌}
use mathlib.Core.List.{List, [], ◌∷◌}
use lib.ListN.{length, get_or}
use lib.Dec.{eqb, ltb}
use borrow.Author.Tests.{lt-ltb, le-ltb, eq-eqb, ne_eqb, eqb-true, eqb-false, ltb-true, ltb-false}
use Rattle.slots.specs.declared.Slot.{Slot}
use Rattle.slots.specs.declared.ask.Ask.{Ask}
use Rattle.slots.specs.declared.look.Oldest.{Oldest}
use Rattle.slots.specs.Look.{first_of, older_of, before, is_asked}
use Rattle.slots.specs.Decide.{free_slot}
use Rattle.pending.specs.Table.{rank_at, waiting}
use Rattle.pending.proofs.Fold.{first_all, oldest_all}

pub nonzero : (x : ℕ) → eqb x 0 ≡ false → 0 < x
nonzero zero e = absurd (eqb-false 0 0 e refl)
nonzero (suc x) e = omega arith

-- ---- the first free place
pub data FirstIs (l : List Slot) (i f r : ℕ) : Type 0 where
  spare : (m : ℕ) → m < length l → rank_at l m ≡ 0 → ((j : ℕ) → j < m → 0 < rank_at l j) → r ≡ i + m → FirstIs l i f r
  full : ((m : ℕ) → m < length l → 0 < rank_at l m) → r ≡ f → FirstIs l i f r

first_stays : (l : List Slot) (i f : ℕ) → f < i → first_all l i f ≡ f
unfolding first_all first_of
first_stays [] i f h = refl
first_stays (s ∷ l) i f h = by_b (first_stays l (suc i) f (omega (arith, h))) (eqb s.rank 0)
  where
    by_b : first_all l (suc i) f ≡ f → (b : Bool) → first_all l (suc i) (cond (b && ltb i f) i f) ≡ f
    by_b e true = rw (le-ltb i f (omega (arith, h))) e
    by_b e false = e

step_first : (s : Slot) (l : List Slot) (i f r : ℕ) → 0 < s.rank → FirstIs l (suc i) f r → FirstIs (s ∷ l) i f r
step_first s l i f r z (spare m h e b q) = spare (suc m) (omega (arith, h)) e (λ j g. before j g) (omega (arith, q))
  where
    before : (j : ℕ) → j < suc m → 0 < rank_at (s ∷ l) j
    before zero g = z
    before (suc j) g = b j (omega (arith, g))
step_first s l i f r z (full h q) = full all q
  where
    all : (m : ℕ) → m < length (s ∷ l) → 0 < rank_at (s ∷ l) m
    all zero g = z
    all (suc m) g = h m (omega (arith, g))

pub first_is : (l : List Slot) (i f : ℕ) → i + length l ≤ f → FirstIs l i f (first_all l i f)
unfolding first_all first_of
first_is [] i f h = full (λ m g. absurd (omega (arith, g))) refl
first_is (s ∷ l) i f h = by_b (first_is l (suc i) f (omega (arith, h))) (eqb s.rank 0) refl
  where
    by_b : FirstIs l (suc i) f (first_all l (suc i) f) → (b : Bool) → eqb s.rank 0 ≡ b → FirstIs (s ∷ l) i f (first_all l (suc i) (cond (b && ltb i f) i f))
    by_b more true e =
        let c = lt-ltb i f (omega (arith, h)) in let k : i ≡ i + 0 = omega arith in
        rw c (spare 0 (omega arith) (eqb-true s.rank 0 e) (λ j g. absurd (omega (arith, g))) (first_stays l (suc i) i (omega arith) ∙ k))
    by_b more false e = step_first s l i f _ (nonzero s.rank e) more

-- ---- as many wait as slots are not free
pub waiting_most : (l : List Slot) → waiting l ≤ length l
unfolding waiting
waiting_most [] = omega arith
waiting_most (s ∷ l) = by_b (waiting_most l) (eqb s.rank 0)
  where
    by_b : waiting l ≤ length l → (b : Bool) → cond b 0 1 + waiting l ≤ suc (length l)
    by_b m true = omega (arith, m)
    by_b m false = omega (arith, m)

pub waiting_all : (l : List Slot) → ((m : ℕ) → m < length l → 0 < rank_at l m) → waiting l ≡ length l
unfolding waiting
waiting_all [] h = refl
waiting_all (s ∷ l) h = let z = h 0 (omega arith) in let d = ne_eqb s.rank 0 (λ q. omega (arith, q, z)) in let m = waiting_all l (λ m g. h (suc m) (omega (arith, g))) in rw d (omega (arith, m))

pub waiting_less : (l : List Slot) (m : ℕ) → m < length l → rank_at l m ≡ 0 → waiting l < length l
unfolding waiting
waiting_less [] m h z = absurd (omega (arith, h))
waiting_less (s ∷ l) zero h z = let d = eq-eqb s.rank 0 z in let k = waiting_most l in rw d (omega (arith, k))
waiting_less (s ∷ l) (suc m) h z = by_b (waiting_less l m (omega (arith, h)) z) (eqb s.rank 0)
  where
    by_b : waiting l < length l → (b : Bool) → cond b 0 1 + waiting l < suc (length l)
    by_b m true = omega (arith, m)
    by_b m false = omega (arith, m)

-- ---- the oldest slot that is asked for
abbrev pub Fits : List Slot → Ask → ℕ → Type 0
Fits l k m = (0 < rank_at l m) × (is_asked k (get_or l m free_slot) ≡ true)

-- the oldest that was found: of those that fit none is older; none is, where none was found before
pub data OldestIs (l : List Slot) (i : ℕ) (k : Ask) (h r : Option Oldest) : Type 0 where
  hit : (m : ℕ) → m < length l → Fits l k m → r ≡ Some (record { place = i + m; rank = rank_at l m }) → before (rank_at l m) h ≡ true
      → ((j : ℕ) → j < length l → Fits l k j → rank_at l m ≤ rank_at l j) → OldestIs l i k h r
  miss : r ≡ h → ((j : ℕ) → j < length l → Fits l k j → before (rank_at l j) h ≡ false) → OldestIs l i k h r

unlike : {X : Type 0} → true ≡ false → X
unlike q = absurd (let w : ◌≡◌ {A = ℕ} 1 0 = ap (λ (b : Bool). cond {A = ℕ} b 1 0) q in omega (arith, w))

-- what is older than the oldest so far is older than what is not
no_later : (h : Option Oldest) (a b : ℕ) → before a h ≡ true → before b h ≡ false → a ≤ b
no_later None a b p q = unlike q
no_later (Some o) a b p q = let c = ltb-true a o.rank p in let d = ltb-false b o.rank q in omega (arith, c, d)

sooner : (h : Option Oldest) (a b : ℕ) → a < b → before b h ≡ true → before a h ≡ true
sooner None a b l p = refl
sooner (Some o) a b l p = let c = ltb-true b o.rank p in lt-ltb a o.rank (omega (arith, l, c))

-- a slot that is no better than what was found
pass : (s : Slot) (l : List Slot) (i : ℕ) (k : Ask) (h r : Option Oldest) → (Fits (s ∷ l) k 0 → before s.rank h ≡ false) → OldestIs l (suc i) k h r
    → OldestIs (s ∷ l) i k h r
pass s l i k h r worse (hit m g f p less all) =
    let n : suc i + m ≡ i + suc m = omega arith in
    hit (suc m) (omega (arith, g)) f (p ∙ ap (λ (x : ℕ). Some (record { place = x; rank = rank_at l m })) n) less each
  where
    each : (j : ℕ) → j < length (s ∷ l) → Fits (s ∷ l) k j → rank_at l m ≤ rank_at (s ∷ l) j
    each zero q c = no_later h (rank_at l m) s.rank less (worse c)
    each (suc j) q c = all j (omega (arith, q)) c
pass s l i k h r worse (miss e all) = miss e each
  where
    each : (j : ℕ) → j < length (s ∷ l) → Fits (s ∷ l) k j → before (rank_at (s ∷ l) j) h ≡ false
    each zero q c = worse c
    each (suc j) q c = all j (omega (arith, q)) c

-- a slot that is
better : (s : Slot) (l : List Slot) (i : ℕ) (k : Ask) (h r : Option Oldest) → Fits (s ∷ l) k 0 → before s.rank h ≡ true
    → OldestIs l (suc i) k (Some (record { place = i; rank = s.rank })) r → OldestIs (s ∷ l) i k h r
better s l i k h r c lt (hit m g f p less all) =
    let n : suc i + m ≡ i + suc m = omega arith in let y = ltb-true (rank_at l m) s.rank less in
    hit (suc m) (omega (arith, g)) f (p ∙ ap (λ (x : ℕ). Some (record { place = x; rank = rank_at l m })) n) (sooner h (rank_at l m) s.rank y lt) each
  where
    each : (j : ℕ) → j < length (s ∷ l) → Fits (s ∷ l) k j → rank_at l m ≤ rank_at (s ∷ l) j
    each zero q d = let y = ltb-true (rank_at l m) s.rank less in omega (arith, y)
    each (suc j) q d = all j (omega (arith, q)) d
better s l i k h r c lt (miss e all) =
    let n : i ≡ i + 0 = omega arith in
    hit 0 (omega arith) c (e ∙ ap (λ (x : ℕ). Some (record { place = x; rank = s.rank })) n) lt each
  where
    each : (j : ℕ) → j < length (s ∷ l) → Fits (s ∷ l) k j → s.rank ≤ rank_at (s ∷ l) j
    each zero q d = omega arith
    each (suc j) q d = ltb-false (rank_at l j) s.rank (all j (omega (arith, q)) d)

pub oldest_is : (l : List Slot) (i : ℕ) (k : Ask) (h : Option Oldest) → OldestIs l i k h (oldest_all l i k h)
unfolding oldest_all older_of
oldest_is [] i k h = miss refl (λ j q. absurd (omega (arith, q)))
oldest_is (s ∷ l) i k h = by_z (λ g. oldest_is l (suc i) k g) (eqb s.rank 0) refl
  where
    by_k : ((g : Option Oldest) → OldestIs l (suc i) k g (oldest_all l (suc i) k g)) → 0 < s.rank → (a : Bool) → before s.rank h ≡ a → (b : Bool) → is_asked k s ≡ b → OldestIs (s ∷ l) i k h (oldest_all l (suc i) k (cond (a && b) (Some (record { place = i; rank = s.rank })) h))
    by_k more z true lt true e = better s l i k h _ (z, e) lt (more (Some (record { place = i; rank = s.rank })))
    by_k more z true lt false e = pass s l i k h _ (λ c. unlike (sym c.1 ∙ e)) (more h)
    by_k more z false lt b e = pass s l i k h _ (λ c. lt) (more h)

    by_z : ((g : Option Oldest) → OldestIs l (suc i) k g (oldest_all l (suc i) k g)) → (b : Bool) → eqb s.rank 0 ≡ b → OldestIs (s ∷ l) i k h (oldest_all l (suc i) k (cond b h (cond (before s.rank h && is_asked k s) (Some (record { place = i; rank = s.rank })) h)))
    by_z more true e = pass s l i k h _ (λ c. let q = eqb-true s.rank 0 e in let z = c.0 in absurd (omega (arith, q, z))) (more h)
    by_z more false e = by_k more (nonzero s.rank e) (before s.rank h) refl (is_asked k s) refl
