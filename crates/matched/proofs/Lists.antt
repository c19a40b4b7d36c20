-- A sound table holds one list: at each rank from 1 on stands the four of the one slot that has it. Assumes nothing.
use Prim.Native.Nat.{ℕ, zero, suc, ◌+◌, ◌-◌, ◌<◌, ◌≤◌}
use native.Mathlib.Omega.{arith}
use mathlib.Core.Path.{◌≡◌, refl, sym, ◌∙◌, ap}
use mathlib.Core.Bool.{Bool, true, false, cond}
use mathlib.Core.List.{List, [], ◌∷◌}
use lib.ListN.{length}
use lib.Seq.{ext_get_or}
use lib.Dec.{eqb}
use borrow.Author.Tests.{eq-eqb}
use Rattle.refusal.specs.declared.Refusal.{Refusal}
use Rattle.slots.specs.declared.Four.{Four}
use Rattle.slots.specs.declared.Slot.{Slot}
use Rattle.slots.specs.Decide.{free_slot}
use Rattle.pending.specs.Table.{rank_at, four_at, Waits, waiting, tally, Sound, Table, Refuses, by_size, by_ranks}
use Rattle.matched.specs.Holds.{request_at, Holds, Empty}
use Rattle.pending.proofs.Looks.{waiting_most}
use Rattle.pending.proofs.Sounds.{tally_in, tally_some}
use Rattle.matched.proofs.Counts.{waiting_none}

-- the four of a rank
unfoldable pub four_of_rank : ℕ → List Slot → Four
four_of_rank k [] = free_slot.four
four_of_rank k (s ∷ t) = cond (eqb s.rank k) s.four (four_of_rank k t)

-- the fours of n ranks, from k on
unfoldable pub fours_from : ℕ → ℕ → List Slot → List Four
fours_from zero k t = []
fours_from (suc n) k t = four_of_rank k t ∷ fours_from n (suc k) t

fours_length : (n k : ℕ) (t : List Slot) → length (fours_from n k t) ≡ n
unfolding fours_from
fours_length zero k t = refl
fours_length (suc n) k t = ap suc (fours_length n (suc k) t)

fours_at : (n k : ℕ) (t : List Slot) (j : ℕ) → j < n → request_at (fours_from n k t) j ≡ four_of_rank (k + j) t
unfolding fours_from
fours_at zero k t j h = absurd (omega arith)
fours_at (suc n) k t zero h = let e : k + 0 ≡ k = omega arith in rw e
fours_at (suc n) k t (suc j) h = let e : k + suc j ≡ suc k + j = omega arith in rw e (fours_at n (suc k) t j (omega arith))

-- where one slot alone has the rank, its four is the rank's
four_is : (k : ℕ) (t : List Slot) (i : ℕ) → i < length t → rank_at t i ≡ k → tally k t ≡ 1 → four_of_rank k t ≡ four_at t i
unfolding four_of_rank tally
four_is k [] i h e o = absurd (omega arith)
four_is k (s ∷ t) zero h e o = let q = eq-eqb s.rank k e in rw q
four_is k (s ∷ t) (suc i) h e o = by (λ a. four_is k t i (omega arith) e a) (eqb s.rank k) o
  where
    by : (tally k t ≡ 1 → four_of_rank k t ≡ four_at t i) → (b : Bool) → cond b 1 0 + tally k t ≡ 1 → cond b s.four (four_of_rank k t) ≡ four_at t i
    by more true a = absurd (let c = tally_in i k t (omega arith) e in omega arith)
    by more false a = more (omega arith)

pub sound_holds : (t : List Slot) → Sound t → Holds t (fours_from (waiting t) 1 t)
sound_holds t g =
    let n = fours_length (waiting t) 1 t in
    record {
      many = sym n;
      once = λ k a b. g.once k a (omega arith);
      within = λ i h. let w = g.within i h in omega arith;
      placed = λ i w. placed i w (g.within i w.0);
      plain = g.plain;
      direction = g.direction;
    }
  where
    placed : (i : ℕ) → Waits t i → rank_at t i ≤ waiting t → four_at t i ≡ request_at (fours_from (waiting t) 1 t) (rank_at t i - 1)
    placed i w v =
        let z = w.1 in let e : 1 + (rank_at t i - 1) ≡ rank_at t i = omega arith in
        sym (fours_at (waiting t) 1 t (rank_at t i - 1) (omega arith) ∙ ap (λ (k : ℕ). four_of_rank k t) e
        ∙ four_is (rank_at t i) t i w.0 refl (g.once (rank_at t i) z v))

pub table_holds : (t : List Slot) → Table t → (l : List Four) × Holds t l
table_holds t g = (fours_from (waiting t) 1 t, sound_holds t g.sound)

pub holds_sound : (t : List Slot) (l : List Four) → Holds t l → Sound t
holds_sound t l hold =
    let m = hold.many in
    record {
      within = λ i h. let w = hold.within i h in omega arith;
      once = λ k a b. hold.once k a (omega arith);
      plain = hold.plain;
      direction = hold.direction;
    }

pub list_fits : (t : List Slot) (l : List Four) → Holds t l → length l ≤ length t
list_fits t l hold = let m = hold.many in let n = waiting_most t in omega arith

-- the slot of the request at a place of the list
pub record SlotOf (t : List Slot) (l : List Four) (j i : ℕ) : Type 0 where
  pub waits : Waits t i
  pub rank : rank_at t i ≡ suc j
  pub four : four_at t i ≡ request_at l j

pub slot_at : {t : List Slot} {l : List Four} → Holds t l → (j : ℕ) → j < length l → (i : ℕ) × SlotOf t l j i
slot_at {t} {l} hold j h =
    let s = tally_some (suc j) t (let o = hold.once (suc j) (omega arith) (omega arith) in omega arith) in
    let q : rank_at t s.0 ≡ suc j = s.1.1 in let e : rank_at t s.0 - 1 ≡ j = omega arith in
    let w : Waits t s.0 = (s.1.0, omega arith) in (s.0, record { waits = w; rank = q; four = hold.placed s.0 w ∙ ap (request_at l) e })

pub one_list : (t : List Slot) (l m : List Four) → Holds t l → Holds t m → l ≡ m
one_list t l m a b = ext_get_or free_slot.four l m (sym a.many ∙ b.many) each
  where
    each : (j : ℕ) → j < length l → request_at l j ≡ request_at m j
    each j h =
        let s = slot_at a j h in let q = s.1.rank in let e : rank_at t s.0 - 1 ≡ j = omega arith in
        sym s.1.four ∙ b.placed s.0 s.1.waits ∙ ap (request_at m) e

pub empty_holds : (t : List Slot) → Empty t → Holds t []
empty_holds t h =
    record {
      many = waiting_none t h;
      once = λ k a b. absurd (omega arith);
      within = λ i g. let z = h i g in omega arith;
      placed = λ i w. let z = h i w.0 in let v = w.1 in absurd (omega arith);
      plain = λ i w. let z = h i w.0 in let v = w.1 in absurd (omega arith);
      direction = λ i w. let z = h i w.0 in let v = w.1 in absurd (omega arith);
    }

-- a table is not refused
pub table_passes : {X : Type 0} {t : List Slot} {n : Refusal} → Table t → Refuses t n → X
table_passes g (by_size s) = absurd (s g.sized)
table_passes g (by_ranks z s) = absurd (s g.sound)
