-- The mask of ranks: bit k is set exactly where a slot has the rank k + 1, as long as no slot breaks a rule. Assumes nothing.
use mathlib.Core.Path.{◌≡◌, refl, sym, ◌∙◌, ap}
use Prim.Native.Nat.{ℕ, suc, ◌+◌, ◌-◌, ◌*◌, ◌^◌, ◌/◌, ◌<◌, ◌≤◌}
use native.Mathlib.Omega.{arith}
use mathlib.Core.Bool.{Bool, true, false, cond, ◌||◌}
use mathlib.Core.List.{List, [], ◌∷◌}
use lib.ListN.{length}
use lib.Dec.{eqb, ltb}
use lib.Bits.{bit_and, bit_or, or_lt}
use lib.Pow.{pow-lt, high, ones_split, ones_lt}
use borrow.Author.Tests.{le-ltb, eq-eqb, ne_eqb, eqb-true, eqb-false, ltb-true, ltb-false}
use Rattle.slots.specs.declared.Four.{Four}
use Rattle.slots.specs.declared.Slot.{Slot}
use Rattle.slots.specs.declared.look.Ranks.{Ranks}
use Rattle.slots.specs.Look.{bit_of, broken, ranked_of}
use Rattle.slots.specs.Decide.{ones_of}
use Rattle.pending.specs.Table.{rank_at, four_at, Waits, waiting, tally}
use Rattle.pending.proofs.Fold.{ranks_all}
use Rattle.pending.proofs.Looks.{nonzero}
use Rattle.pending.proofs.Bits.{bit, clear_and, marked}

pub unlike : {X : Type 0} → true ≡ false → X
unlike q = absurd (let w : ◌≡◌ {A = ℕ} 1 0 = ap (λ (b : Bool). cond {A = ℕ} b 1 0) q in omega (arith, w))

-- ---- a slot that breaks no rule by itself
pub record Whole (four : Four) (rank : ℕ) : Type 0 where
  pub low : rank ≤ 64
  pub plain : four.route < 2 ^ 63
  pub direction : four.write ≤ 1

pub whole_is : (four : Four) (rank : ℕ) → broken four rank ≡ false → Whole four rank
unfolding broken
whole_is four rank h = by_a (ltb 64 rank) refl (ltb (2 ^ 63 - 1) four.route) refl (ltb 1 four.write) refl h
  where
    by_a : (a : Bool) → ltb 64 rank ≡ a → (b : Bool) → ltb (2 ^ 63 - 1) four.route ≡ b → (c : Bool) → ltb 1 four.write ≡ c → a || b || c ≡ false → Whole four rank
    by_a true e b f c g q = unlike q
    by_a false e true f c g q = unlike q
    by_a false e false f true g q = unlike q
    by_a false e false f false g q = record { low = ltb-false 64 rank e; plain = (let v = ltb-false (2 ^ 63 - 1) four.route f in omega (arith, v)); direction = ltb-false 1 four.write g }

pub whole_not_broken : (four : Four) (rank : ℕ) → Whole four rank → broken four rank ≡ false
unfolding broken
whole_not_broken four rank w = rw (le-ltb 64 rank w.low, le-ltb (2 ^ 63 - 1) four.route (let p = w.plain in omega (arith, p)), le-ltb 1 four.write w.direction)

-- ---- the look at the ranks of a sound table
pub record Ready (l : List Slot) (r : Ranks) : Type 0 where
  pub well : r.well ≡ true
  pub room : r.count + waiting l ≤ 64
  pub small : r.mask < 2 ^ 64
  pub whole : (i : ℕ) → Waits l i → broken (four_at l i) (rank_at l i) ≡ false
  pub once : (k : ℕ) → bit k r.mask + tally (suc k) l ≤ 1

pub record Marked (l : List Slot) (r s : Ranks) : Type 0 where
  pub well : s.well ≡ true
  pub count : s.count ≡ r.count + waiting l
  pub small : s.mask < 2 ^ 64
  pub marks : (k : ℕ) → bit k s.mask ≡ bit k r.mask + tally (suc k) l

-- what was found once a slot of rank x is marked too
abbrev pub after : Ranks → ℕ → Ranks
after r x = record { count = r.count + 1; mask = bit_or r.mask (2 ^ (x - 1)); well = r.well }

pub bit_of_is : (x : ℕ) → 0 < x → x ≤ 64 → bit_of x ≡ 2 ^ (x - 1)
unfolding bit_of
bit_of_is x h g = let a = ne_eqb x 0 (λ q. omega (arith, q, h)) in let b = le-ltb 64 x g in rw (a, b)

pub ranked_free : (r : Ranks) (s : Slot) → s.rank ≡ 0 → ranked_of r s ≡ r
unfolding ranked_of
ranked_free r s z = let e = eq-eqb s.rank 0 z in rw e

pub ranked_waits : (r : Ranks) (s : Slot) → 0 < s.rank → r.count < 64 → broken s.four s.rank ≡ false → bit (s.rank - 1) r.mask ≡ 0 → ranked_of r s ≡ after r s.rank
unfolding ranked_of
ranked_waits r s z c p b =
    let e₁ = ne_eqb s.rank 0 (λ q. omega (arith, q, z)) in let e₂ = le-ltb 63 r.count (omega (arith, c)) in
    let e₃ = bit_of_is s.rank z (whole_is s.four s.rank p).low in let e₄ = eq-eqb (bit_and r.mask (2 ^ (s.rank - 1))) 0 (clear_and (s.rank - 1) r.mask b) in rw (e₁, e₂, p, e₃, e₄)

pub same_mark : (x k : ℕ) → 0 < x → ◌≡◌ {A = ℕ} (cond (eqb k (x - 1)) 1 0) (cond (eqb x (suc k)) 1 0)
same_mark x k h = by_e (eqb x (suc k)) refl
  where
    by_e : (b : Bool) → eqb x (suc k) ≡ b → ◌≡◌ {A = ℕ} (cond (eqb k (x - 1)) 1 0) (cond b 1 0)
    by_e true e = let q = eqb-true x (suc k) e in ap (λ (b : Bool). cond {A = ℕ} b 1 0) (eq-eqb k (x - 1) (omega (arith, q)))
    by_e false e = let n = eqb-false x (suc k) e in ap (λ (b : Bool). cond {A = ℕ} b 1 0) (ne_eqb k (x - 1) (λ q. n (omega (arith, q, h))))

pub marks_all : (l : List Slot) (r : Ranks) → Ready l r → Marked l r (ranks_all l r)
unfolding ranks_all waiting tally
marks_all [] r h = record { well = h.well; count = omega arith; small = h.small; marks = λ k. omega arith }
marks_all (s ∷ l) r h = by_z (λ q g. marks_all l q g) (eqb s.rank 0) refl
  where
    further : {i : ℕ} → i < length l → suc i < suc (length l)
    further g = omega (arith, g)

    by_z : ((q : Ranks) → Ready l q → Marked l q (ranks_all l q)) → (b : Bool) → eqb s.rank 0 ≡ b → Marked (s ∷ l) r (ranks_all l (ranked_of r s))
    by_z more true e =
        let z = eqb-true s.rank 0 e in
        let t : (k : ℕ) → tally (suc k) (s ∷ l) ≡ tally (suc k) l = (λ k. let d = ne_eqb s.rank (suc k) (λ q. omega (arith, q, z)) in rw d (omega arith)) in
        let w : waiting (s ∷ l) ≡ waiting l = rw e (omega arith) in
        let m = more r (record { well = h.well; room = (let a = h.room in omega (arith, a, w)); small = h.small; whole = (λ i g. h.whole (suc i) (further g.0, g.1)); once = (λ k. let a = h.once k in let b = t k in omega (arith, a, b)) }) in
        rw (ranked_free r s z) (record { well = m.well; count = (let a = m.count in omega (arith, a, w)); small = m.small; marks = (λ k. let a = m.marks k in let b = t k in omega (arith, a, b)) })
    by_z more false e =
        let z = nonzero s.rank e in let v : broken s.four s.rank ≡ false = h.whole 0 (omega arith, z) in let g = (whole_is s.four s.rank v).low in
        let w : waiting (s ∷ l) ≡ 1 + waiting l = rw e in
        let o = h.once (s.rank - 1) in
        let x : suc (s.rank - 1) ≡ s.rank = omega (arith, z) in
        let y : tally (suc (s.rank - 1)) (s ∷ l) ≡ 1 + tally (suc (s.rank - 1)) l = (let d = eq-eqb s.rank (suc (s.rank - 1)) (sym x) in rw d) in
        let b₀ : bit (s.rank - 1) r.mask ≡ 0 = omega (arith, o, y) in
        let t : (k : ℕ) → bit k (after r s.rank).mask + tally (suc k) l ≡ bit k r.mask + tally (suc k) (s ∷ l) = (λ k. let c = marked k (s.rank - 1) r.mask b₀ in let d = same_mark s.rank k z in omega (arith, c, d)) in
        let p = pow-lt (le-small s.rank g z) in
        let m = more (after r s.rank) (record { well = h.well; room = (let a = h.room in omega (arith, a, w)); small = or_lt 64 r.mask (2 ^ (s.rank - 1)) h.small p; whole = (λ i q. h.whole (suc i) (further q.0, q.1)); once = (λ k. let a = h.once k in let b = t k in omega (arith, a, b)) }) in
        rw (ranked_waits r s z (let a = h.room in omega (arith, a, w)) v b₀) (record { well = m.well; count = (let a = m.count in omega (arith, a, w)); small = m.small; marks = (λ k. m.marks k ∙ t k) })
      where
        le-small : (x : ℕ) → x ≤ 64 → 0 < x → x - 1 < 64
        le-small x g z = omega (arith, g, z)

pub ones_is : (c : ℕ) → c ≤ 64 → ones_of c ≡ 2 ^ c - 1
unfolding ones_of
ones_is c h = by_z (eqb c 0) refl (ltb 63 c) refl
  where
    by_z : (b : Bool) → eqb c 0 ≡ b → (d : Bool) → ltb 63 c ≡ d → cond b 0 (cond d (2 ^ 64 - 1) ((2 ^ 64 - 1) / 2 ^ (64 - c))) ≡ 2 ^ c - 1
    by_z true e d f = let q = eqb-true c 0 e in rw q
    by_z false e true f = let g = ltb-true 63 c f in let q : c ≡ 64 = omega (arith, g, h) in rw q
    by_z false e false f = let g = ltb-false 63 c f in let q : c + (64 - c) ≡ 64 = omega (arith, g) in
        let s : 2 ^ 64 - 1 ≡ (2 ^ c - 1) * 2 ^ (64 - c) + (2 ^ (64 - c) - 1) = ap (λ (x : ℕ). 2 ^ x - 1) (sym q) ∙ ones_split c (64 - c) in ap (λ (x : ℕ). x / 2 ^ (64 - c)) s ∙ high (2 ^ c - 1) (64 - c) (ones_lt (64 - c))
