-- A table is found sound exactly when it is: from the ranks of a sound table follows its mask, and from a mask of ones, with no rule broken on the
-- way, follow the ranks. Assumes nothing.
use mathlib.Core.Path.{◌≡◌, refl, sym, ◌∙◌, ap, subst}
use Prim.Native.Nat.{ℕ, zero, suc, ◌+◌, ◌-◌, ◌^◌, ◌<◌, ◌≤◌}
use native.Mathlib.Omega.{arith}
use mathlib.Core.Bool.{Bool, true, false, cond}
use mathlib.Core.List.{List, [], ◌∷◌}
use lib.ListN.{length}
use lib.Dec.{eqb, ltb}
use lib.Bits.{bit_and, bit_or}
use lib.Pow.{pow_pos, pow_mono, ones_lt}
use borrow.Author.Tests.{lt-ltb, eq-eqb, ne_eqb, eqb-true, ltb-true, ltb-false}
use Rattle.slots.specs.declared.Slot.{Slot}
use Rattle.slots.specs.declared.look.Ranks.{Ranks}
use Rattle.slots.specs.Look.{bit_of, broken, ranked_of}
use Rattle.slots.specs.Decide.{ones_of, sound_of}
use Rattle.pending.specs.Table.{rank_at, four_at, Waits, waiting, tally, Sound}
use Rattle.pending.proofs.Fold.{ranks_all}
use Rattle.pending.proofs.Looks.{nonzero, waiting_most}
use Rattle.pending.proofs.Bits.{bit, bit_ones, same_bits, marked, zero_bits, and_clear}
use Rattle.pending.proofs.Marks.{unlike, whole_is, whole_not_broken, Ready, Marked, after, bit_of_is, same_mark, ranked_free, ranked_waits, marks_all, ones_is}

abbrev pub r₀ : Ranks
r₀ = record { count = 0; mask = 0; well = true }

-- ---- how often a rank stands
pub tally_none : (k : ℕ) (t : List Slot) → ((i : ℕ) → i < length t → rank_at t i ≡ k → ⊥) → tally k t ≡ 0
unfolding tally
tally_none k [] h = refl
tally_none k (s ∷ t) h = let d = ne_eqb s.rank k (h 0 (omega arith)) in let m = tally_none k t (λ i g. h (suc i) (omega (arith, g))) in rw d (omega (arith, m))

pub tally_in : (i k : ℕ) (t : List Slot) → i < length t → rank_at t i ≡ k → 0 < tally k t
unfolding tally
tally_in i k [] h e = absurd (omega (arith, h))
tally_in zero k (s ∷ t) h e = let q = eq-eqb s.rank k e in rw q (omega arith)
tally_in (suc i) k (s ∷ t) h e = let m = tally_in i k t (omega (arith, h)) e in omega (arith, m)

-- a rank that stands is some slot's
pub tally_some : (k : ℕ) (t : List Slot) → 0 < tally k t → (i : ℕ) × ((i < length t) × (rank_at t i ≡ k))
unfolding tally
tally_some k [] h = absurd (omega (arith, h))
tally_some k (s ∷ t) h = by_b (λ z. tally_some k t z) (eqb s.rank k) refl h
  where
    by_b : (0 < tally k t → (i : ℕ) × ((i < length t) × (rank_at t i ≡ k))) → (b : Bool) → eqb s.rank k ≡ b → 0 < cond b 1 0 + tally k t → (i : ℕ) × ((i < length (s ∷ t)) × (rank_at (s ∷ t) i ≡ k))
    by_b more true e z = (0, (omega arith, eqb-true s.rank k e))
    by_b more false e z = let m = more (omega (arith, z)) in (suc m.0, ((let g = m.1.0 in omega (arith, g)), m.1.1))

-- ---- a sound table is found so
module _ (t : List Slot) (sound : Sound t) (most : length t ≤ 64) where
  abbrev w : ℕ
  w = waiting t

  w_most : w ≤ 64
  w_most = let b = waiting_most t in omega (arith, b, most)

  ranks_are : (k : ℕ) → tally (suc k) t ≡ cond (ltb k w) 1 0
  ranks_are k = by_e (ltb k w) refl
    where
      by_e : (b : Bool) → ltb k w ≡ b → tally (suc k) t ≡ cond b 1 0
      by_e true e = let h = ltb-true k w e in sound.once (suc k) (omega arith) (omega (arith, h))
      by_e false e = let h = ltb-false k w e in tally_none (suc k) t (λ i g q. let v = sound.within i g in omega (arith, h, q, v))

  at_most_one : (b : Bool) → cond b 1 0 ≤ 1
  at_most_one true = omega arith
  at_most_one false = omega arith

  ready : Ready t r₀
  ready = record {
    well = refl;
    room = (let b = w_most in omega (arith, b));
    small = pow_pos 64;
    whole = (λ i g. whole_not_broken (four_at t i) (rank_at t i) (record { low = (let a = sound.within i g.0 in let b = w_most in omega (arith, a, b)); plain = sound.plain i g; direction = sound.direction i g }));
    once = (λ k. let a = zero_bits k in let b = ranks_are k in let c = at_most_one (ltb k w) in omega (arith, a, b, c));
  }

  marks_are : Marked t r₀ (ranks_all t r₀)
  marks_are = marks_all t r₀ ready

  pub count_is : (ranks_all t r₀).count ≡ waiting t
  count_is = let a = marks_are.count in omega (arith, a)

  mask_is : (ranks_all t r₀).mask ≡ 2 ^ w - 1
  mask_is = same_bits 64 (ranks_all t r₀).mask (2 ^ w - 1) marks_are.small (let p = pow_mono w_most in let z = ones_lt w in omega (arith, p, z))
      (λ k. marks_are.marks k ∙ (let a = zero_bits k in let b = ranks_are k in let c = bit_ones k w in omega (arith, a, b, c)))

  pub sound_found : sound_of (ranks_all t r₀) ≡ true
  unfolding sound_of
  sound_found = let e = eq-eqb (ranks_all t r₀).mask (ones_of (ranks_all t r₀).count) (mask_is ∙ sym (ap ones_of count_is ∙ ones_is w w_most)) in rw (marks_are.well, e)

-- ---- what is found sound is so
-- once a rule is broken it stays so
unwell_one : (r : Ranks) (s : Slot) → r.well ≡ false → (ranked_of r s).well ≡ false
unfolding ranked_of
unwell_one r s h = by_a (eqb s.rank 0) (ltb 63 r.count) (broken s.four s.rank) (eqb (bit_and r.mask (bit_of s.rank)) 0)
  where
    by_a : (a b c d : Bool) → (cond a r (cond b (record { count = r.count; mask = r.mask; well = false }) (cond c (record { count = r.count + 1; mask = r.mask; well = false })
        (cond d (record { count = r.count + 1; mask = bit_or r.mask (bit_of s.rank); well = r.well }) (record { count = r.count + 1; mask = r.mask; well = false }))))).well ≡ false
    by_a true b c d = h
    by_a false true c d = refl
    by_a false false true d = refl
    by_a false false false true = h
    by_a false false false false = refl

unwell_all : (t : List Slot) (r : Ranks) → r.well ≡ false → (ranks_all t r).well ≡ false
unfolding ranks_all
unwell_all [] r h = h
unwell_all (s ∷ t) r h = unwell_all t (ranked_of r s) (unwell_one r s h)

-- what a waiting slot is like, where all is well after it
pub record Fine (r : Ranks) (s : Slot) : Type 0 where
  pub room : r.count < 64
  pub whole : broken s.four s.rank ≡ false
  pub new : bit (s.rank - 1) r.mask ≡ 0

fine_one : (r : Ranks) (s : Slot) → 0 < s.rank → (ranked_of r s).well ≡ true → Fine r s
unfolding ranked_of
fine_one r s z h =
    by_a (ltb 63 r.count) refl (broken s.four s.rank) refl (eqb (bit_and r.mask (bit_of s.rank)) 0) refl
    (let e = ne_eqb s.rank 0 (λ q. omega (arith, q, z)) in subst (λ (a : Bool). (cond a r (after_free (ltb 63 r.count) (broken s.four s.rank) (eqb (bit_and r.mask (bit_of s.rank)) 0))).well ≡ true) e h)
  where
    after_free : (b c d : Bool) → Ranks
    after_free b c d = cond b (record { count = r.count; mask = r.mask; well = false }) (cond c (record { count = r.count + 1; mask = r.mask; well = false })
        (cond d (record { count = r.count + 1; mask = bit_or r.mask (bit_of s.rank); well = r.well }) (record { count = r.count + 1; mask = r.mask; well = false })))

    by_a : (b : Bool) → ltb 63 r.count ≡ b → (c : Bool) → broken s.four s.rank ≡ c → (d : Bool) → eqb (bit_and r.mask (bit_of s.rank)) 0 ≡ d → (after_free b c d).well ≡ true → Fine r s
    by_a true e₁ c e₂ d e₃ q = unlike (sym q)
    by_a false e₁ true e₂ d e₃ q = unlike (sym q)
    by_a false e₁ false e₂ false e₃ q = unlike (sym q)
    by_a false e₁ false e₂ true e₃ q =
        let a = ltb-false 63 r.count e₁ in
        record { room = omega (arith, a); whole = e₂; new = and_clear (s.rank - 1) r.mask (ap (bit_and r.mask) (sym (bit_of_is s.rank z (whole_is s.four s.rank e₂).low)) ∙ eqb-true (bit_and r.mask (bit_of s.rank)) 0 e₃) }

-- what the ranks of a table are like, where all is well behind it
pub record Back (t : List Slot) (r u : Ranks) : Type 0 where
  pub count : u.count ≡ r.count + waiting t
  pub marks : (k : ℕ) → bit k u.mask ≡ bit k r.mask + tally (suc k) t
  pub whole : (i : ℕ) → Waits t i → broken (four_at t i) (rank_at t i) ≡ false

marks_back : (t : List Slot) (r : Ranks) → (ranks_all t r).well ≡ true → Back t r (ranks_all t r)
unfolding ranks_all waiting tally
marks_back [] r h = record { count = omega arith; marks = λ k. omega arith; whole = λ i g. let a = g.0 in absurd (omega (arith, a)) }
marks_back (s ∷ t) r h = by_z (marks_back t (ranked_of r s) h) (eqb s.rank 0) refl (ranked_of r s).well refl
  where
    nearer : {i : ℕ} → suc i < suc (length t) → i < length t
    nearer g = omega (arith, g)

    by_z : Back t (ranked_of r s) (ranks_all t (ranked_of r s)) → (b : Bool) → eqb s.rank 0 ≡ b → (c : Bool) → (ranked_of r s).well ≡ c → Back (s ∷ t) r (ranks_all t (ranked_of r s))
    by_z m b e false q = unlike (sym h ∙ unwell_all t (ranked_of r s) q)
    by_z m true e true q =
        let z = eqb-true s.rank 0 e in let c = ranked_free r s z in
        record {
          count = (let a = m.count in let d : (ranked_of r s).count ≡ r.count = ap (λ (x : Ranks). x.count) c in rw e (omega (arith, a, d)));
          marks = (λ k. let a = m.marks k in let d : (ranked_of r s).mask ≡ r.mask = ap (λ (x : Ranks). x.mask) c in let n = ne_eqb s.rank (suc k) (λ p. omega (arith, p, z)) in let f = ap (bit k) d in rw n (omega (arith, a, f)));
          whole = (λ i g. by-i z i g);
        }
      where
        by-i : s.rank ≡ 0 → (i : ℕ) → Waits (s ∷ t) i → broken (four_at (s ∷ t) i) (rank_at (s ∷ t) i) ≡ false
        by-i z zero g = let y = g.1 in absurd (omega (arith, z, y))
        by-i z (suc i) g = m.whole i (nearer g.0, g.1)
    by_z m false e true q =
        let z = nonzero s.rank e in let f = fine_one r s z q in
        let c = ranked_waits r s z f.room f.whole f.new in
        record {
          count = (let a = m.count in let d : (ranked_of r s).count ≡ r.count + 1 = ap (λ (x : Ranks). x.count) c in rw e (omega (arith, a, d)));
          marks = (λ k. let a = m.marks k in let d : (ranked_of r s).mask ≡ (after r s.rank).mask = ap (λ (x : Ranks). x.mask) c in let g = ap (bit k) d in let n = marked k (s.rank - 1) r.mask f.new in let o = same_mark s.rank k z in omega (arith, a, g, n, o));
          whole = (λ i g. by-i f.whole i g);
        }
      where
        by-i : broken s.four s.rank ≡ false → (i : ℕ) → Waits (s ∷ t) i → broken (four_at (s ∷ t) i) (rank_at (s ∷ t) i) ≡ false
        by-i p zero g = p
        by-i p (suc i) g = m.whole i (nearer g.0, g.1)

module _ (t : List Slot) (most : length t ≤ 64) where
  fits : waiting t ≤ 64
  fits = let a = waiting_most t in omega (arith, a, most)

  sound_at : (ranks_all t r₀).well ≡ true → (ranks_all t r₀).mask ≡ ones_of (ranks_all t r₀).count → Sound t
  sound_at b e =
      let m = marks_back t r₀ b in
      let c : (ranks_all t r₀).count ≡ waiting t = (let a = m.count in omega (arith, a)) in
      let q : (ranks_all t r₀).mask ≡ 2 ^ waiting t - 1 = e ∙ ap ones_of c ∙ ones_is (waiting t) fits in
      let f : (k : ℕ) → tally (suc k) t ≡ cond (ltb k (waiting t)) 1 0 = (λ k. let a = m.marks k in let z = zero_bits k in let o = bit_ones k (waiting t) in let d = ap (bit k) q in omega (arith, a, z, o, d)) in
      record {
        within = (λ i h. low (rank_at t i) (waiting t) (tally_in i (rank_at t i) t h refl) (λ k. f k));
        once = (λ k h g. one k h g (λ j. f j));
        plain = (λ i g. (whole_is (four_at t i) (rank_at t i) (m.whole i g)).plain);
        direction = (λ i g. (whole_is (four_at t i) (rank_at t i) (m.whole i g)).direction);
      }
    where
      low : (x v : ℕ) → 0 < tally x t → ((k : ℕ) → tally (suc k) t ≡ cond (ltb k v) 1 0) → x ≤ v
      low zero v h f = omega arith
      low (suc x) v h f = by_b (ltb x v) refl
        where
          by_b : (b : Bool) → ltb x v ≡ b → suc x ≤ v
          by_b true e = let g = ltb-true x v e in omega (arith, g)
          by_b false e = let a : tally (suc x) t ≡ 0 = f x ∙ ap (λ (b : Bool). cond {A = ℕ} b 1 0) e in absurd (omega (arith, a, h))

      one : (k : ℕ) → 0 < k → k ≤ waiting t → ((j : ℕ) → tally (suc j) t ≡ cond (ltb j (waiting t)) 1 0) → tally k t ≡ 1
      one zero h g f = absurd (omega (arith, h))
      one (suc k) h g f = f k ∙ ap (λ (b : Bool). cond {A = ℕ} b 1 0) (lt-ltb k (waiting t) (omega (arith, g)))

  pub found_sound : sound_of (ranks_all t r₀) ≡ true → Sound t
  unfolding sound_of
  found_sound h = by_b (ranks_all t r₀).well refl h
    where
      by_b : (b : Bool) → (ranks_all t r₀).well ≡ b → cond b (eqb (ranks_all t r₀).mask (ones_of (ranks_all t r₀).count)) false ≡ true → Sound t
      by_b false e q = unlike (sym q)
      by_b true e q = sound_at e (eqb-true (ranks_all t r₀).mask (ones_of (ranks_all t r₀).count) q)
