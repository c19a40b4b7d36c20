-- 50 and 51 come exactly when their conditions hold, 50 first, whatever the entry: a step that is no refusal has a table. Assumes nothing.
use Rattle.std.specs.Prelude.{Err}
use Prim.Native.Nat.{ℕ}
use native.Mathlib.Omega.{arith}
use mathlib.Core.Path.{◌≡◌, refl, sym, ◌∙◌, ap}
use mathlib.Core.List.{List}
use mathlib.Core.Logic.{◌↔◌}
use Rattle.text.specs.Told.{Told, refused, number_in}
use Rattle.refusal.specs.declared.Refusal.{Refusal}
use Rattle.refusal.specs.Number.{number_of}
use Rattle.entry.specs.declared.Entry.{Entry}
use Rattle.slots.specs.declared.Slot.{Slot}
use Rattle.slots.specs.declared.ask.Ask.{Ask}
use Rattle.slots.specs.Ask.{ask_of}
use Rattle.pending.specs.Table as T
use Rattle.pending.specs.Table.{Sized, Sound, Table, Refuses, by_size, by_ranks, CountTold, counts, PlaceTold, lies, nowhere}
use Rattle.pending.specs.Step.{Answer, Step}
use Rattle.pending.specs.Words.{report_told}
use Rattle.matched.proofs.Does.{Does, dropped, other, no_seq, taken, turned_away, answered, stray, Judged, refuses, does, judged}
use Rattle.matched.proofs.Lists.{table_passes}
use Rattle.matched.proofs.One.{one_number}

-- what is done is no refusal
done_tells : {X : Type 0} {t u : List Slot} {a : Ask} {r : Answer} {n : ℕ} → Does t a r u → report_told r ≡ refused n → X
unfolding report_told
done_tells dropped q = absurd (let z : ◌≡◌ {A = ℕ} 0 1 = cc in omega arith)
done_tells other q = absurd (let z : ◌≡◌ {A = ℕ} 0 1 = cc in omega arith)
done_tells no_seq q = absurd (let z : ◌≡◌ {A = ℕ} 0 1 = cc in omega arith)
done_tells (taken f) q = absurd (let z : ◌≡◌ {A = ℕ} 0 1 = cc in omega arith)
done_tells (turned_away f) q = absurd (let z : ◌≡◌ {A = ℕ} 0 1 = cc in omega arith)
done_tells (answered f) q = absurd (let z : ◌≡◌ {A = ℕ} 0 1 = cc in omega arith)
done_tells (stray f) q = absurd (let z : ◌≡◌ {A = ℕ} 0 1 = cc in omega arith)

refused_tells : {r : Answer} {n : Refusal} → r ≡ Err n → report_told r ≡ refused (number_of n)
unfolding report_told
refused_tells q = ap report_told q

-- a step told a number exactly when the number refuses the table
tells_refuses : {e : Entry} {t u : List Slot} {r : Answer} {n : ℕ} → Step e t r u → report_told r ≡ refused n → (k : Refusal) × Refuses t k × (number_of k ≡ n)
tells_refuses {e} {t} {u} {r} {n} step q = by (judged step)
  where
    by : Judged t (ask_of e) r u → (k : Refusal) × Refuses t k × (number_of k ≡ n)
    by (refuses {n = m} k p v) = (m, k, ap number_in (sym (refused_tells p) ∙ q))
    by (does g d) = done_tells d q

refuses_tells : {e : Entry} {t u : List Slot} {r : Answer} {n : Refusal} → Step e t r u → Refuses t n → report_told r ≡ refused (number_of n)
refuses_tells {e} {t} {u} {r} {n} step k = by (judged step)
  where
    by : Judged t (ask_of e) r u → report_told r ≡ refused (number_of n)
    by (refuses {n = m} j p v) = refused_tells p ∙ ap (λ (i : Refusal). refused (number_of i)) (one_number j k)
    by (does g d) = table_passes g k

by_fifty : {t : List Slot} {k : Refusal} → Refuses t k → number_of k ≡ 50 → Sized t → ⊥
by_fifty (by_size s) q = s
by_fifty (by_ranks z s) q = absurd (omega (arith, q))

by_fifty_one : {t : List Slot} {k : Refusal} → Refuses t k → number_of k ≡ 51 → Sized t × (Sound t → ⊥)
by_fifty_one (by_size s) q = absurd (omega (arith, q))
by_fifty_one (by_ranks z s) q = (z, s)

pub fifty_exactly : (e : Entry) (t u : List Slot) (r : Answer) → Step e t r u → (report_told r ≡ refused 50) ↔ (Sized t → ⊥)
fifty_exactly e t u r step = ((λ q. let k = tells_refuses step q in by_fifty k.1 k.2), (λ s. refuses_tells step (by_size s)))

pub fifty_one_exactly : (e : Entry) (t u : List Slot) (r : Answer) → Step e t r u → (report_told r ≡ refused 51) ↔ (Sized t × (Sound t → ⊥))
fifty_one_exactly e t u r step = ((λ q. let k = tells_refuses step q in by_fifty_one k.1 k.2), (λ s. refuses_tells step (by_ranks s.0 s.1)))

pub no_other_number : (e : Entry) (t u : List Slot) (r : Answer) (n : ℕ) → Step e t r u → report_told r ≡ refused n → (n ≡ 50 → ⊥) → n ≡ 51
no_other_number e t u r n step q b = let k = tells_refuses step q in by k.1 k.2 b
  where
    by : {k : Refusal} {m : ℕ} → Refuses t k → number_of k ≡ m → (m ≡ 50 → ⊥) → m ≡ 51
    by (by_size s) e c = absurd (c (sym e))
    by (by_ranks z s) e c = sym e

pub refusal_changes_nothing : (e : Entry) (t u : List Slot) (r : Answer) (n : ℕ) → Step e t r u → report_told r ≡ refused n → u ≡ t
refusal_changes_nothing e t u r n step q = by (judged step)
  where
    by : Judged t (ask_of e) r u → u ≡ t
    by (refuses k p v) = v
    by (does g d) = done_tells d q

pub never_refused : (e : Entry) (t u : List Slot) (r : Answer) (n : ℕ) → Table t → Step e t r u → report_told r ≡ refused n → ⊥
never_refused e t u r n g step q = let k = tells_refuses step q in table_passes g k.1

-- ---- `waiting` and `oldest` judge as `step` does
done_number : {t u : List Slot} {a : Ask} {r : Answer} → Does t a r u → number_in (report_told r) ≡ 0
unfolding report_told
done_number dropped = refl
done_number other = refl
done_number no_seq = refl
done_number (taken f) = refl
done_number (turned_away f) = refl
done_number (answered f) = refl
done_number (stray f) = refl

number_judged : {e : Entry} {t u : List Slot} {r : Answer} → Step e t r u → Table t → number_in (report_told r) ≡ 0
number_judged {e} {t} {u} {r} step g = by (judged step)
  where
    by : Judged t (ask_of e) r u → number_in (report_told r) ≡ 0
    by (refuses n p v) = table_passes g n
    by (does h d) = done_number d

number_refused : {e : Entry} {t u : List Slot} {r : Answer} {n : Refusal} → Step e t r u → Refuses t n → number_in (report_told r) ≡ number_of n
number_refused step k = ap number_in (refuses_tells step k)

pub count_refused_alike : (e : Entry) (t u : List Slot) (r : Answer) (a : Told ℕ) → Step e t r u → CountTold t a → number_in (report_told r) ≡ number_in a
count_refused_alike e t u r a step (counts g) = number_judged step g
count_refused_alike e t u r a step (T.refuses k) = number_refused step k

pub place_refused_alike : (e : Entry) (t u : List Slot) (r : Answer) (k : ℕ) (a : Told ℕ) → Step e t r u → PlaceTold t k a
    → number_in (report_told r) ≡ number_in a
place_refused_alike e t u r k a step (lies g w q) = number_judged step g
place_refused_alike e t u r k a step (nowhere g n) = number_judged step g
place_refused_alike e t u r k a step (T.refuses n) = number_refused step n
