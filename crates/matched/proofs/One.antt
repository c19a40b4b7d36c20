-- One answer: of two first free slots neither is before the other, and of two oldest slots with the four each is as old as the other, so they are one,
-- because a rank stands once. Assumes nothing.
use Rattle.std.specs.Prelude.{Ok, Err}
use Prim.Native.Nat.{ℕ}
use native.Mathlib.Omega.{arith}
use mathlib.Core.Path.{◌≡◌, refl, sym, ◌∙◌, ap}
use mathlib.Core.Bool.{Bool, true, false}
use mathlib.Core.List.{List}
use lib.ListN.{set}
use lib.Dec.{ltb}
use borrow.Author.Tests.{ltb-true, ltb-false}
use Rattle.text.specs.Told.{Told, is, refused}
use Rattle.refusal.specs.declared.Refusal.{Refusal}
use Rattle.refusal.specs.Number.{number_of}
use Rattle.entry.specs.declared.Entry.{Entry}
use Rattle.slots.specs.declared.Four.{Four}
use Rattle.slots.specs.declared.Slot.{Slot}
use Rattle.slots.specs.declared.ask.Ask.{Ask}
use Rattle.slots.specs.declared.decide.Report.TheVariants as R
use Rattle.slots.specs.Ask.{ask_of}
use Rattle.pending.specs.Table.{rank_at, Waits, Sound, Refuses, by_size, by_ranks, CountTold, counts, PlaceTold, lies, nowhere}
use Rattle.pending.specs.Table as T
use Rattle.pending.specs.Step.{Answer, FirstFree, NoneFree, OldestWith, NoneWith, newcomer, freed, Step}
use Rattle.matched.specs.History.{History, none, more}
use Rattle.matched.proofs.Counts.{tally_one}
use Rattle.matched.proofs.Does.{Does, dropped, other, no_seq, taken, turned_away, answered, stray, Judged, refuses, does, judged}
use Rattle.matched.proofs.Lists.{table_passes}

-- a rank stands at one place
pub one_slot : {t : List Slot} → Sound t → (i j : ℕ) → Waits t i → Waits t j → rank_at t i ≡ rank_at t j → i ≡ j
one_slot {t} g i j a b e =
    let w = g.within i a.0 in tally_one (rank_at t i) t i j (g.once (rank_at t i) a.1 w) a.0 b.0 refl (sym e)

pub one_first : (t : List Slot) (i j : ℕ) → FirstFree t i → FirstFree t j → i ≡ j
one_first t i j a b = by (ltb i j) refl (ltb j i) refl
  where
    by : (b : Bool) → ltb i j ≡ b → (c : Bool) → ltb j i ≡ c → i ≡ j
    by true e c f = let h = b.first i (ltb-true i j e) in let z = a.free in absurd (omega arith)
    by false e true f = let h = a.first j (ltb-true j i f) in let z = b.free in absurd (omega arith)
    by false e false f = let h = ltb-false i j e in let g = ltb-false j i f in omega arith

pub one_oldest : (t : List Slot) (four : Four) (i j : ℕ) → Sound t → OldestWith t four i → OldestWith t four j → i ≡ j
one_oldest t four i j g a b =
    let h = a.oldest j b.waits b.same in let k = b.oldest i a.waits a.same in one_slot g i j a.waits b.waits (omega arith)

free_or_none : {X : Type 0} {t : List Slot} {i : ℕ} → FirstFree t i → NoneFree t → X
free_or_none {X} {t} {i} a b = let z = a.free in let h = b i a.within in absurd (omega arith)

with_or_none : {X : Type 0} {t : List Slot} {four : Four} {i : ℕ} → OldestWith t four i → NoneWith t four → X
with_or_none {X} {t} {four} {i} a b = absurd (b i a.waits a.same)

one_does : (t u v : List Slot) (a : Ask) (r s : Answer) → Sound t → Does t a r u → Does t a s v → (r ≡ s) × (u ≡ v)
one_does t u v a r s g dropped dropped = (refl, refl)
one_does t u v a r s g other other = (refl, refl)
one_does t u v a r s g no_seq no_seq = (refl, refl)
one_does t u v a r s g (taken {four} {i} p) (taken {i = j} q) = let e = one_first t i j p q in (ap (λ (i : ℕ). Ok (R.Taken i)) e, ap (λ (k : ℕ). set t k (newcomer t four)) e)
one_does t u v a r s g (taken p) (turned_away q) = free_or_none p q
one_does t u v a r s g (turned_away p) (taken q) = free_or_none q p
one_does t u v a r s g (turned_away p) (turned_away q) = (refl, refl)
one_does t u v a r s g (answered {four} {i} p) (answered {i = j} q) =
    let e = one_oldest t four i j g p q in (ap (λ (i : ℕ). Ok (R.Answered i)) e, ap (λ (k : ℕ). freed (rank_at t k) t) e)
one_does t u v a r s g (answered p) (stray q) = with_or_none p q
one_does t u v a r s g (stray p) (answered q) = with_or_none q p
one_does t u v a r s g (stray p) (stray q) = (refl, refl)

pub one_number : {t : List Slot} {m n : Refusal} → Refuses t m → Refuses t n → m ≡ n
one_number (by_size a) (by_size b) = refl
one_number (by_size a) (by_ranks b c) = absurd (a b)
one_number (by_ranks a b) (by_size c) = absurd (c a)
one_number (by_ranks a b) (by_ranks c d) = refl

pub one_answer : (e : Entry) (t u v : List Slot) (r s : Answer) → Step e t r u → Step e t s v → (r ≡ s) × (u ≡ v)
one_answer e t u v r s a b = by (judged a) (judged b)
  where
    by : Judged t (ask_of e) r u → Judged t (ask_of e) s v → (r ≡ s) × (u ≡ v)
    by (refuses m p q) (refuses n p' q') = (p ∙ ap Err (one_number m n) ∙ sym p', q ∙ sym q')
    by (refuses m p q) (does g d) = table_passes g m
    by (does g d) (refuses n p q) = table_passes g n
    by (does g d) (does g' d') = one_does t u v (ask_of e) r s g.sound d d'

pub one_count : (t : List Slot) (a b : Told ℕ) → CountTold t a → CountTold t b → a ≡ b
one_count t a b (counts g) (counts h) = refl
one_count t a b (counts g) (T.refuses n) = table_passes g n
one_count t a b (T.refuses m) (counts h) = table_passes h m
one_count t a b (T.refuses m) (T.refuses n) = ap (λ (k : Refusal). refused (number_of k)) (one_number m n)

pub one_place : (t : List Slot) (k : ℕ) (a b : Told ℕ) → PlaceTold t k a → PlaceTold t k b → a ≡ b
one_place t k a b (lies {i} g w e) (lies {i = j} h v f) = ap is (one_slot g.sound i j w v (e ∙ sym f))
one_place t k a b (lies {i} g w e) (nowhere h n) = let z = w.1 in let v = g.sound.within i w.0 in absurd (n (omega arith) (omega arith))
one_place t k a b (lies g w e) (T.refuses n) = table_passes g n
one_place t k a b (nowhere h n) (lies {i} g w e) = let z = w.1 in let v = g.sound.within i w.0 in absurd (n (omega arith) (omega arith))
one_place t k a b (nowhere g m) (nowhere h n) = refl
one_place t k a b (nowhere g m) (T.refuses n) = table_passes g n
one_place t k a b (T.refuses m) (lies h v f) = table_passes h m
one_place t k a b (T.refuses m) (nowhere h n) = table_passes h m
one_place t k a b (T.refuses m) (T.refuses n) = ap (λ (k : Refusal). refused (number_of k)) (one_number m n)

pub one_history : (es : List Entry) (t u v : List Slot) (rs ss : List Answer) → History es t rs u → History es t ss v → (rs ≡ ss) × (u ≡ v)
one_history es t u v rs ss none none = (refl, refl)
one_history es t u v rs ss (more {e} {es = es₁} {r} {rs = rs₁} {t₁} a p) (more {r = s} {rs = ss₁} {t₁ = t₂} b q) =
    let o = one_answer e t t₁ t₂ r s a b in
    let h = one_history es₁ t₁ u v rs₁ ss₁ p (rw (← o.1) at q) in (rw (o.0, h.0), h.1)
