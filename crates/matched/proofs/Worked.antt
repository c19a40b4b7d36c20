-- The worked history: each step by its own line of `Step`, its conditions looked up in the two slots; each table is one because the one before it was.
-- Assumes nothing.
use Rattle.std.specs.Prelude.{None, Some, Ok}
use Prim.Native.Nat.{ℕ, zero, suc, ◌+◌, ◌<◌, ◌≤◌, ◌^◌}
use native.Mathlib.Omega.{arith}
use mathlib.Core.Path.{◌≡◌, refl, sym, ap}
use mathlib.Core.Bool.{true, false}
use mathlib.Core.List.{List, [], ◌∷◌}
use lib.ListN.{replicate}
use Rattle.slots.specs.declared.Four.{Four}
use Rattle.slots.specs.declared.Slot.{Slot}
use Rattle.slots.specs.declared.decide.Report.TheVariants as R
use Rattle.slots.specs.Ask.{direction_of, four_of, by_kind, ask_of}
use Rattle.slots.specs.Decide.{free_slot, lower_of}
use Rattle.pending.specs.Table.{rank_at, four_at, waiting, tally, Table, by_size, by_ranks}
use Rattle.pending.specs.Step.{FirstFree, NoneWith, Step, refused_with, dropped, other, no_seq, taken, turned_away, answered, stray}
use Rattle.matched.specs.History.{History, none, more, how_many}
use Rattle.matched.specs.Worked.{entry, slot, entries, reports, left, Worked}
use Rattle.matched.proofs.Acts.{stays_a_table, empty_is_a_table}
use Rattle.matched.proofs.One.{one_history}
use Rattle.matched.proofs.Histories.{cleared_is_a_table}

-- one word for all that a step computes with
computes : Unit {0}
unfolding direction_of four_of by_kind ask_of lower_of waiting tally
computes = tt

one : (P : ℕ → Type 0) → P 0 → (i : ℕ) → i < 1 → P i
one P a zero h = a
one P a (suc i) h = absurd (omega arith)

two : (P : ℕ → Type 0) → P 0 → P 1 → (i : ℕ) → i < 2 → P i
two P a b zero h = a
two P a b (suc zero) h = b
two P a b (suc (suc i)) h = absurd (omega arith)

-- ---- the tables between the steps: the read r, twice; the write w
abbrev r : ℕ → Slot
r rank = slot 0 7 5 0 rank

abbrev w : ℕ → Slot
w rank = slot 1 9 6 1 rank

abbrev pair : Slot → Slot → List Slot
pair a b = a ∷ b ∷ []

-- ---- what a look at two slots finds
first_of_two : (a b : Slot) → a.rank ≡ 0 → FirstFree (pair a b) 0
first_of_two a b z = record { within = omega arith; free = z; first = λ j h. absurd (omega arith) }

second_of_two : (a b : Slot) → 0 < a.rank → b.rank ≡ 0 → FirstFree (pair a b) 1
second_of_two a b h z = record { within = omega arith; free = z; first = one (λ j. 0 < rank_at (pair a b) j) h }

none_with : (a b : Slot) (four : Four) → (0 < a.rank → a.four ≡ four → ⊥) → (0 < b.rank → b.four ≡ four → ⊥) → NoneWith (pair a b) four
none_with a b four f g i h q = two (λ j. 0 < rank_at (pair a b) j → four_at (pair a b) j ≡ four → ⊥) f g i h.0 h.1 q

table_0 : Table (pair free_slot free_slot)
table_0 = cleared_is_a_table 2 (omega arith) (omega arith)

step_1 : Step (entry 1 false 0 7 (Some 5)) (pair free_slot free_slot) (Ok (R.Taken 0)) (pair (r 1) free_slot)
unfolding computes
step_1 = taken table_0 refl (first_of_two free_slot free_slot refl)

table_1 : Table (pair (r 1) free_slot)
table_1 = stays_a_table _ _ _ _ table_0 step_1

step_2 : Step (entry 1 false 0 7 (Some 5)) (pair (r 1) free_slot) (Ok (R.Taken 1)) (pair (r 1) (r 2))
unfolding computes
step_2 = taken table_1 refl (second_of_two (r 1) free_slot (omega arith) refl)

table_2 : Table (pair (r 1) (r 2))
table_2 = stays_a_table _ _ _ _ table_1 step_2

step_3 : Step (entry 3 false 0 7 (Some 5)) (pair (r 1) (r 2)) (Ok R.TurnedAway) (pair (r 1) (r 2))
unfolding computes
step_3 = turned_away table_2 refl (two (λ j. 0 < rank_at (pair (r 1) (r 2)) j) (omega arith) (omega arith))

step_4 : Step (entry 2 false 1 7 (Some 5)) (pair (r 1) (r 2)) (Ok R.Stray) (pair (r 1) (r 2))
unfolding computes
step_4 = stray table_2 refl (none_with (r 1) (r 2) _ (λ h q. other_domain q) (λ h q. other_domain q))
  where
    other_domain : (r 0).four ≡ record { route = 7; domain = 1; seq = 5; write = 0 } → ⊥
    other_domain q = let z : ◌≡◌ {A = ℕ} 0 1 = ap (λ (x : Four). x.domain) q in omega arith

step_5 : Step (entry 4 false 0 7 (Some 5)) (pair (r 1) (r 2)) (Ok R.Stray) (pair (r 1) (r 2))
unfolding computes
step_5 = stray table_2 refl (none_with (r 1) (r 2) _ (λ h q. other_direction q) (λ h q. other_direction q))
  where
    other_direction : (r 0).four ≡ record { route = 7; domain = 0; seq = 5; write = 1 } → ⊥
    other_direction q = let z : ◌≡◌ {A = ℕ} 0 1 = ap (λ (x : Four). x.write) q in omega arith

step_6 : Step (entry 2 false 0 (2 ^ 63 + 7) (Some 5)) (pair (r 1) (r 2)) (Ok (R.Answered 0)) (pair (r 0) (r 1))
unfolding computes
step_6 = answered {i = 0} table_2 refl (record { waits = (omega arith, omega arith); same = refl; oldest = λ j v q. let h = v.1 in omega arith })

table_6 : Table (pair (r 0) (r 1))
table_6 = stays_a_table _ _ _ _ table_2 step_6

step_7 : Step (entry 1 true 0 9 (Some 6)) (pair (r 0) (r 1)) (Ok R.Dropped) (pair (r 0) (r 1))
unfolding computes
step_7 = dropped table_6 refl

step_8 : Step (entry 3 false 1 9 (Some 6)) (pair (r 0) (r 1)) (Ok (R.Taken 0)) (pair (w 2) (r 1))
unfolding computes
step_8 = taken table_6 refl (first_of_two (r 0) (r 1) refl)

table_8 : Table (pair (w 2) (r 1))
table_8 = stays_a_table _ _ _ _ table_6 step_8

-- the write's four are not the read's
other_route : (w 0).four ≡ (r 0).four → ⊥
other_route q = let z : ◌≡◌ {A = ℕ} 9 7 = ap (λ (x : Four). x.route) q in omega arith

step_9 : Step (entry 4 false 1 9 (Some 6)) (pair (w 2) (r 1)) (Ok (R.Answered 0)) (pair (w 0) (r 1))
unfolding computes
step_9 = answered {i = 0} table_8 refl (record { waits = (omega arith, omega arith); same = refl; oldest = λ j v q. each j v.0 q })
  where
    each : (j : ℕ) → j < 2 → four_at (pair (w 2) (r 1)) j ≡ (w 0).four → 2 ≤ rank_at (pair (w 2) (r 1)) j
    each = two (λ j. four_at (pair (w 2) (r 1)) j ≡ (w 0).four → 2 ≤ rank_at (pair (w 2) (r 1)) j) (λ q. omega arith) (λ q. absurd (other_route (sym q)))

table_9 : Table (pair (w 0) (r 1))
table_9 = stays_a_table _ _ _ _ table_8 step_9

step_10 : Step (entry 3 false 1 9 (Some 6)) (pair (w 0) (r 1)) (Ok (R.Taken 0)) (pair (w 2) (r 1))
unfolding computes
step_10 = taken table_9 refl (first_of_two (w 0) (r 1) refl)

table_10 : Table (pair (w 2) (r 1))
table_10 = stays_a_table _ _ _ _ table_9 step_10

step_11 : Step (entry 5 false 0 7 (Some 5)) (pair (w 2) (r 1)) (Ok R.Other) (pair (w 2) (r 1))
unfolding computes
step_11 = other table_10 refl

step_12 : Step (entry 1 false 0 7 None) (pair (w 2) (r 1)) (Ok R.NoSeq) (pair (w 2) (r 1))
unfolding computes
step_12 = no_seq table_10 refl

step_13 : Step (entry 2 true 0 7 (Some 5)) (pair (w 2) (r 1)) (Ok R.Dropped) (pair (w 2) (r 1))
unfolding computes
step_13 = dropped table_10 refl

step_14 : Step (entry 2 false 0 7 (Some 5)) (pair (w 2) (r 1)) (Ok (R.Answered 1)) (pair (w 1) (r 0))
unfolding computes
step_14 = answered {i = 1} table_10 refl (record { waits = (omega arith, omega arith); same = refl; oldest = λ j v q. let h = v.1 in omega arith })

table_14 : Table (pair (w 1) (r 0))
table_14 = stays_a_table _ _ _ _ table_10 step_14

step_15 : Step (entry 2 false 0 7 (Some 5)) (pair (w 1) (r 0)) (Ok R.Stray) (pair (w 1) (r 0))
unfolding computes
step_15 = stray table_14 refl (none_with (w 1) (r 0) _ (λ h q. other_route q) (λ h q. omega arith))

history : History entries (replicate 2 free_slot) reports left
history =
    more step_1 (more step_2 (more step_3 (more step_4 (more step_5 (more step_6 (more step_7 (more step_8 (more step_9 (more step_10 (more step_11
    (more step_12 (more step_13 (more step_14 (more step_15 none))))))))))))))

-- ---- tables that are refused
pub worked : Worked
unfolding computes how_many
worked =
    record {
      history = history;
      worked_only = λ rs u h. one_history entries (replicate 2 free_slot) u left rs reports h history;
      taken_in = refl;
      answered_in = refl;
      waits = refl;
      no_slot = λ e. refused_with (by_size (λ s. let h = s.0 in omega arith));
      too_many = λ e. refused_with (by_size (λ s. let h = s.1 in omega arith));
      too_many_and_broken = λ e. refused_with (by_size (λ s. let h = s.1 in omega arith));
      rank_missing = λ e. refused_with (by_ranks (omega arith, omega arith) (λ s. let h = s.within 0 (omega arith) in omega arith));
      rank_twice = λ e. refused_with (by_ranks (omega arith, omega arith) (λ s. let h = s.once 1 (omega arith) (omega arith) in omega arith));
      top_bit = λ e. refused_with (by_ranks (omega arith, omega arith) (λ s. let h = s.plain 0 (omega arith, omega arith) in omega arith));
      neither_direction = λ e. refused_with (by_ranks (omega arith, omega arith) (λ s. let h = s.direction 0 (omega arith, omega arith) in omega arith));
      free_slot_unjudged = empty_is_a_table (slot 0 (2 ^ 63) 5 2 0 ∷ []) (omega arith, omega arith) (one (λ i. rank_at (slot 0 (2 ^ 63) 5 2 0 ∷ []) i ≡ 0) refl);
    }
