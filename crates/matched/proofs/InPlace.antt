-- A request stays in its slot until it is answered: a newcomer goes to a free slot, and an answer lowers the ranks of those that came later by one and
-- of no other. Assumes nothing.
use Rattle.std.specs.Prelude.{Ok}
use Prim.Native.Nat.{ℕ, ◌<◌}
use native.Mathlib.Omega.{arith}
use mathlib.Core.Path.{◌≡◌, refl, sym, ap, subst}
use mathlib.Core.Bool.{Bool, true, false}
use mathlib.Core.List.{List}
use lib.ListN.{length}
use lib.Dec.{ltb}
use borrow.Author.Tests.{ltb-true, ltb-false}
use Rattle.entry.specs.declared.Entry.{Entry}
use Rattle.slots.specs.declared.Four.{Four}
use Rattle.slots.specs.declared.Slot.{Slot}
use Rattle.slots.specs.declared.decide.Report.TheVariants as R
use Rattle.pending.specs.Table.{rank_at, four_at, Waits, Sound}
use Rattle.pending.specs.Step.{Answer, Step}
use Rattle.pending.specs.Step as S
use Rattle.matched.specs.Matched.{TakenAt, AnsweredAt}
use Rattle.matched.proofs.Acts.{same_size}
use Rattle.matched.proofs.One.{one_slot}
use Rattle.matched.proofs.Slots.{each_slot_taken, each_slot_answered}

abbrev Stays : List Slot → List Slot → ℕ → Type 0
Stays t u j = Waits u j × (four_at u j ≡ four_at t j)

behind_taken : (t u : List Slot) (four : Four) (i j : ℕ) → length u ≡ length t → TakenAt t four i u → Waits t j → Stays t u j
behind_taken t u four i j l a w =
    let e = a.others j (λ q. let z = a.first.free in let v = subst (λ (k : ℕ). 0 < rank_at t k) q w.1 in omega arith) in
    let v = w.0 in ((omega arith, subst (λ (s : Slot). 0 < s.rank) (sym e) w.1), ap (λ (s : Slot). s.four) e)

behind_answered : (t u : List Slot) (four : Four) (i j : ℕ) → Sound t → length u ≡ length t → AnsweredAt t four i u → (i ≡ j → ⊥) → Waits t j → Stays t u j
behind_answered t u four i j sound l a n w = by (ltb (rank_at t i) (rank_at t j)) refl (ltb (rank_at t j) (rank_at t i)) refl
  where
    by : (b : Bool) → ltb (rank_at t i) (rank_at t j) ≡ b → (c : Bool) → ltb (rank_at t j) (rank_at t i) ≡ c → Stays t u j
    by true e c f = let h = ltb-true (rank_at t i) (rank_at t j) e in let k = a.later j h in let v = w.0 in let z = a.oldest.waits.1 in ((omega arith, omega arith), a.fours j)
    by false e true f = let k = a.earlier j (ltb-true (rank_at t j) (rank_at t i) f) in let v = w.0 in let z = w.1 in ((omega arith, omega arith), a.fours j)
    by false e false f = let h = ltb-false (rank_at t i) (rank_at t j) e in let k = ltb-false (rank_at t j) (rank_at t i) f in absurd (n (one_slot sound i j a.oldest.waits w (omega arith)))

pub stays_in_place : (e : Entry) (t u : List Slot) (r : Answer) (j : ℕ) → Step e t r u → Waits t j → (r ≡ Ok (R.Answered j) → ⊥) → Waits u j × (four_at u j ≡ four_at t j)
stays_in_place e t u r j (S.refused_with n) w a = (w, refl)
stays_in_place e t u r j (S.dropped g q) w a = (w, refl)
stays_in_place e t u r j (S.other g q) w a = (w, refl)
stays_in_place e t u r j (S.no_seq g q) w a = (w, refl)
stays_in_place e t u r j (S.taken {four} {i} g q f) w a =
    let s = each_slot_taken e t u i (S.taken g q f) in behind_taken t u s.0 i j (same_size e t u r (S.taken g q f)) s.2 w
stays_in_place e t u r j (S.turned_away g q f) w a = (w, refl)
stays_in_place e t u r j (S.answered {four} {i} g q o) w a =
    let s = each_slot_answered e t u i (S.answered g q o) in behind_answered t u s.0 i j g.sound (same_size e t u r (S.answered g q o)) s.2 (λ p. a (ap (λ (i : ℕ). Ok (R.Answered i)) p)) w
stays_in_place e t u r j (S.stray g q f) w a = (w, refl)
