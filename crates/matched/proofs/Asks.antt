-- What is computed of an entry is what it asks: each test of `ask_of` decides one condition of `Asks`. Assumes nothing.
use Rattle.std.specs.Prelude.{None, Option, Some}
use Prim.Native.Nat.{ℕ, zero, suc, ◌%◌, ◌<◌, ◌≤◌}
use native.Mathlib.Omega.{arith}
use mathlib.Core.Path.{◌≡◌, refl, sym, ◌∙◌, ap}
use mathlib.Core.Bool.{Bool, true, false, cond, ◌||◌}
use mathlib.Core.Logic.{◌↔◌, ◌⊎◌, inl, inr}
use lib.Dec.{eqb, ltb}
use borrow.Author.Tests.{lt-ltb, le-ltb, ne_eqb, ltb-true, ltb-false}
use Rattle.entry.specs.declared.Entry.{Entry}
use Rattle.slots.specs.declared.Four.{Four}
use Rattle.slots.specs.declared.ask.Ask.{Ask}
use Rattle.slots.specs.declared.ask.Ask.TheVariants as A
use Rattle.slots.specs.Ask.{direction_of, four_of, by_kind, by_seq, ask_of}
use Rattle.matched.specs.Asks.{Under, Matchable, Asks, dropped, other, no_seq, request, response}
use Rattle.pending.proofs.Looks.{nonzero}
use Rattle.pending.proofs.Fours.{four_by_parts}

-- ---- the tests
pub data Kind (k : ℕ) : Type 0 where
  asks : eqb (k % 2) 1 ≡ true → (k ≡ 1) ⊎ (k ≡ 3) → Kind k
  answers : eqb (k % 2) 1 ≡ false → (k ≡ 2) ⊎ (k ≡ 4) → Kind k

kind_of : (k : ℕ) → 0 < k → k ≤ 4 → Kind k
kind_of zero a b = absurd (omega arith)
kind_of (suc zero) a b = asks refl (inl refl)
kind_of (suc (suc zero)) a b = answers refl (inl refl)
kind_of (suc (suc (suc zero))) a b = asks refl (inr refl)
kind_of (suc (suc (suc (suc zero)))) a b = answers refl (inr refl)
kind_of (suc (suc (suc (suc (suc k))))) a b = absurd (omega arith)

odd_kind : (k : ℕ) → (k ≡ 1) ⊎ (k ≡ 3) → (eqb (k % 2) 1 ≡ true) × ((0 < k) × (k ≤ 4))
odd_kind k (inl h) = (ap (λ (n : ℕ). eqb (n % 2) 1) h, (omega arith, omega arith))
odd_kind k (inr h) = (ap (λ (n : ℕ). eqb (n % 2) 1) h, (omega arith, omega arith))

even_kind : (k : ℕ) → (k ≡ 2) ⊎ (k ≡ 4) → (eqb (k % 2) 1 ≡ false) × ((0 < k) × (k ≤ 4))
even_kind k (inl h) = (ap (λ (n : ℕ). eqb (n % 2) 1) h, (omega arith, omega arith))
even_kind k (inr h) = (ap (λ (n : ℕ). eqb (n % 2) 1) h, (omega arith, omega arith))

test_inside : (k : ℕ) → (eqb k 0 || ltb 4 k) ≡ false → (0 < k) × (k ≤ 4)
test_inside k h = by (eqb k 0) refl (ltb 4 k) refl h
  where
    by : (b : Bool) → eqb k 0 ≡ b → (c : Bool) → ltb 4 k ≡ c → (b || c) ≡ false → (0 < k) × (k ≤ 4)
    by true e c f q = absurd (let z : ◌≡◌ {A = ℕ} 0 1 = cc in omega arith)
    by false e true f q = absurd (let z : ◌≡◌ {A = ℕ} 0 1 = cc in omega arith)
    by false e false f q = (nonzero k e, ltb-false 4 k f)

inside_test : (k : ℕ) → 0 < k → k ≤ 4 → (eqb k 0 || ltb 4 k) ≡ false
inside_test k a b = let e = ne_eqb k 0 (λ q. omega arith) in let f = le-ltb 4 k b in rw (e, f)

-- ---- the four
under : (e : Entry) (seq : ℕ) → e.seq ≡ Some seq → Under e (four_of e seq)
unfolding four_of direction_of
under e seq q =
    record {
      domain = refl;
      route = refl;
      seq = q;
      reads = λ h. ap (λ (b : Bool). cond b 1 0) (le-ltb 2 e.kind h);
      writes = λ h. ap (λ (b : Bool). cond b 1 0) (lt-ltb 2 e.kind h);
    }

under_is : (e : Entry) (four : Four) → Under e four → four_of e four.seq ≡ four
unfolding four_of direction_of
under_is e four u =
    four_by_parts (four_of e four.seq) four (sym u.route) (sym u.domain) refl (direction (ltb 2 e.kind) refl)
  where
    direction : (b : Bool) → ltb 2 e.kind ≡ b → cond b 1 0 ≡ four.write
    direction true h = sym (u.writes (ltb-true 2 e.kind h))
    direction false h = sym (u.reads (ltb-false 2 e.kind h))

-- ---- what is computed is asked
asks_it : (e : Entry) → Asks e (ask_of e)
unfolding ask_of by_kind
asks_it e = by_dropped e.dropped refl (eqb e.kind 0 || ltb 4 e.kind) refl
  where
    by_kind_lem : e.dropped ≡ false → (seq : ℕ) → e.seq ≡ Some seq → Kind e.kind
        → Asks e (cond (eqb (e.kind % 2) 1) (A.Request (four_of e seq)) (A.Response (four_of e seq)))
    by_kind_lem d seq q (asks h k) = rw h (request d k (under e seq q))
    by_kind_lem d seq q (answers h k) = rw h (response d k (under e seq q))

    by_seq_lem : e.dropped ≡ false → Matchable e → (s : Option ℕ) → e.seq ≡ s → Asks e (by_seq e s)
    by_seq_lem d m (Some seq) q = by_kind_lem d seq q (kind_of e.kind m.0 m.1)
    by_seq_lem d m None q = no_seq d m q

    by_dropped : (d : Bool) → e.dropped ≡ d → (o : Bool) → (eqb e.kind 0 || ltb 4 e.kind) ≡ o → Asks e (cond d A.Dropped (cond o A.Other (by_seq e e.seq)))
    by_dropped true d o h = dropped d
    by_dropped false d true h = other d (λ m. let z = inside_test e.kind m.0 m.1 in let y : ◌≡◌ {A = ℕ} 0 1 = cc in omega arith)
    by_dropped false d false h = by_seq_lem d (test_inside e.kind h) e.seq refl

-- ---- what is asked is computed
computed : (e : Entry) (d o : Bool) (s : Option ℕ) → e.dropped ≡ d → (eqb e.kind 0 || ltb 4 e.kind) ≡ o → e.seq ≡ s
    → ask_of e ≡ cond d A.Dropped (cond o A.Other (by_seq e s))
unfolding ask_of
computed e d o s p q r = cc

test_outside : (k : ℕ) → ((0 < k) × (k ≤ 4) → ⊥) → (eqb k 0 || ltb 4 k) ≡ true
test_outside k n = by (eqb k 0 || ltb 4 k) refl
  where
    by : (b : Bool) → (eqb k 0 || ltb 4 k) ≡ b → (eqb k 0 || ltb 4 k) ≡ true
    by true h = h
    by false h = absurd (n (test_inside k h))

asked : (e : Entry) (a : Ask) → Asks e a → ask_of e ≡ a
unfolding by_kind
asked e a (dropped d) = computed e true (eqb e.kind 0 || ltb 4 e.kind) e.seq d refl refl
asked e a (other d n) = computed e false true e.seq d (test_outside e.kind n) refl
asked e a (no_seq d m q) = computed e false false None d (inside_test e.kind m.0 m.1) q
asked e a (request {four} d k u) =
    let o = odd_kind e.kind k in
    computed e false false (Some four.seq) d (inside_test e.kind o.1.0 o.1.1) u.seq ∙ rw o.0 (ap A.Request (under_is e four u))
asked e a (response {four} d k u) =
    let o = even_kind e.kind k in
    computed e false false (Some four.seq) d (inside_test e.kind o.1.0 o.1.1) u.seq ∙ rw o.0 (ap A.Response (under_is e four u))

pub asks_exactly : (e : Entry) (a : Ask) → (ask_of e ≡ a) ↔ Asks e a
asks_exactly e a = ((λ q. rw q at (asks_it e)), asked e a)
