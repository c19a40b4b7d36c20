-- What a step does to each slot: by cases on the step, one slot at a time; a slot that was freed is free, so the next request is taken. Assumes nothing.
use Rattle.std.specs.Prelude.{Ok}
use Prim.Native.Nat.{ℕ, ◌+◌, ◌<◌}
use native.Mathlib.Omega.{arith}
use mathlib.Core.Path.{◌≡◌, refl, ap}
use mathlib.Core.List.{List}
use mathlib.Core.Logic.{◌↔◌}
use lib.ListN.{length, length-map}
use lib.Seq.{get_or-set_same, get_or-set_other}
use Rattle.text.specs.Told.{is}
use Rattle.entry.specs.declared.Entry.{Entry}
use Rattle.slots.specs.declared.Four.{Four}
use Rattle.slots.specs.declared.Slot.{Slot}
use Rattle.slots.specs.declared.ask.Ask.TheVariants as A
use Rattle.slots.specs.declared.decide.Report.TheVariants as R
use Rattle.slots.specs.Ask.{ask_of}
use Rattle.slots.specs.Decide.{free_slot, lowered_of}
use Rattle.pending.specs.Table.{rank_at, Sound, Table}
use Rattle.pending.specs.Step as S
use Rattle.pending.specs.Step.{Answer, FirstFree, NoneFree, OldestWith, NoneWith, newcomer, freed, Step}
use Rattle.pending.specs.Words as W
use Rattle.pending.specs.Words.{report_told}
use Rattle.matched.specs.Matched.{TakenAt, AnsweredAt}
use Rattle.matched.proofs.Counts.{Lowered, this, later, earlier, lowered_is}
use Rattle.matched.proofs.Kept.{freed_at}
use Rattle.matched.proofs.Does.{taken, turned_away, answered, stray, Judged, refuses, does, judged}
use Rattle.matched.proofs.Lists.{table_passes}
use Rattle.matched.proofs.Acts.{stays_a_table}
use Rattle.matched.proofs.One.{one_slot, one_first}

-- ---- slot by slot
pub each_slot_taken : (e : Entry) (t u : List Slot) (i : ℕ) → Step e t (Ok (R.Taken i)) u → (four : Four) × (ask_of e ≡ A.Request four) × TakenAt t four i u
each_slot_taken e t u i (S.taken {four} g q f) = (
  four,
  q,
  record {
    first = f;
    there = get_or-set_same t i (newcomer t four) free_slot f.within;
    others = λ j n. get_or-set_other t i j (newcomer t four) free_slot n;
  },
)

-- the rank of a slot once the rank r is freed
freed_rank : (r : ℕ) (t : List Slot) (j : ℕ) → 0 < r → Lowered r (rank_at t j) (rank_at (freed r t) j)
freed_rank r t j w = rw (rank_at, freed_at r t j) (lowered_is r (rank_at t j) w)

rank_freed : {r x y : ℕ} → Lowered r x y → x ≡ r → y ≡ 0
rank_freed (this a b) e = b
rank_freed (later a b) e = absurd (omega arith)
rank_freed (earlier a b) e = absurd (omega arith)

rank_later : {r x y : ℕ} → Lowered r x y → r < x → y + 1 ≡ x
rank_later (this a b) h = absurd (omega arith)
rank_later (later a b) h = b
rank_later (earlier a b) h = absurd (omega arith)

rank_earlier : {r x y : ℕ} → Lowered r x y → x < r → y ≡ x
rank_earlier (this a b) h = absurd (omega arith)
rank_earlier (later a b) h = absurd (omega arith)
rank_earlier (earlier a b) h = b

rank_waits : {r x y : ℕ} → Lowered r x y → 0 < r → 0 < x → (x ≡ r → ⊥) → 0 < y
rank_waits (this a b) w z n = absurd (n a)
rank_waits (later a b) w z n = omega arith
rank_waits (earlier a b) w z n = omega arith

freed_slots : (t : List Slot) (four : Four) (i : ℕ) → OldestWith t four i → AnsweredAt t four i (freed (rank_at t i) t)
freed_slots t four i o =
    let w = o.waits.1 in
    record {
      oldest = o;
      free = rank_freed (freed_rank (rank_at t i) t i w) refl;
      later = λ j h. rank_later (freed_rank (rank_at t i) t j w) h;
      earlier = λ j h. rank_earlier (freed_rank (rank_at t i) t j w) h;
      fours = λ j. ap (λ (s : Slot). s.four) (freed_at (rank_at t i) t j);
    }

pub each_slot_answered : (e : Entry) (t u : List Slot) (i : ℕ) → Step e t (Ok (R.Answered i)) u
    → (four : Four) × (ask_of e ≡ A.Response four) × AnsweredAt t four i u
each_slot_answered e t u i step = by i u step
  where
    by : (i : ℕ) (u : List Slot) → Step e t (Ok (R.Answered i)) u → (four : Four) × (ask_of e ≡ A.Response four) × AnsweredAt t four i u
    by i u (S.answered {four} g q o) = (four, q, freed_slots t four i o)

pub else_unchanged : (e : Entry) (t u : List Slot) (r : Answer) → Step e t r u → ((i : ℕ) → r ≡ Ok (R.Taken i) → ⊥) → ((i : ℕ) → r ≡ Ok (R.Answered i) → ⊥)
    → u ≡ t
else_unchanged e t u r (S.refused_with n) a b = refl
else_unchanged e t u r (S.dropped g q) a b = refl
else_unchanged e t u r (S.other g q) a b = refl
else_unchanged e t u r (S.no_seq g q) a b = refl
else_unchanged e t u r (S.taken {i} g q f) a b = absurd (a i refl)
else_unchanged e t u r (S.turned_away g q f) a b = refl
else_unchanged e t u r (S.answered {i} g q f) a b = absurd (b i refl)
else_unchanged e t u r (S.stray g q f) a b = refl

-- ---- exactly when
pub turned_away_exactly : (e : Entry) (t u : List Slot) (r : Answer) (four : Four) → Table t → ask_of e ≡ A.Request four → Step e t r u
    → (report_told r ≡ is W.turned_away) ↔ NoneFree t
unfolding report_told
turned_away_exactly e t u r four g q step = by (rw q at (judged step))
  where
    by : {s : Answer} {v : List Slot} → Judged t (A.Request four) s v → (report_told s ≡ is W.turned_away) ↔ NoneFree t
    by (refuses n p v) = table_passes g n
    by (does h (taken {i} f)) =
        ((λ p. absurd (let z : ◌≡◌ {A = ℕ} 0 1 = cc in omega arith)), (λ n. let z = f.free in let w = n i f.within in absurd (omega arith)))
    by (does h (turned_away f)) = ((λ p. f), (λ n. refl))

pub stray_exactly : (e : Entry) (t u : List Slot) (r : Answer) (four : Four) → Table t → ask_of e ≡ A.Response four → Step e t r u
    → (report_told r ≡ is W.stray) ↔ NoneWith t four
unfolding report_told
stray_exactly e t u r four g q step = by (rw q at (judged step))
  where
    by : {s : Answer} {v : List Slot} → Judged t (A.Response four) s v → (report_told s ≡ is W.stray) ↔ NoneWith t four
    by (refuses n p v) = table_passes g n
    by (does h (answered {i} o)) = ((λ p. absurd (let z : ◌≡◌ {A = ℕ} 0 1 = cc in omega arith)), (λ n. absurd (n i o.waits o.same)))
    by (does h (stray f)) = ((λ p. f), (λ n. refl))

-- ---- freed slots are used again
inside_freed : (t : List Slot) (four : Four) (i : ℕ) → OldestWith t four i → i < length (freed (rank_at t i) t)
inside_freed t four i o = let n = length-map t (lowered_of (rank_at t i)) in let w = o.waits.0 in omega arith

behind : (e f : Entry) (t : List Slot) (i : ℕ) (u v : List Slot) (r : Answer) (four : Four) → Step e t (Ok (R.Answered i)) u → ask_of f ≡ A.Request four
    → Step f u r v → report_told r ≡ is W.taken
unfolding report_told
behind e f t i u v r four (S.answered {four = was} g q o) p step = by (rw p at (judged step))
  where
    by : {s : Answer} {w : List Slot} → Judged (freed (rank_at t i) t) (A.Request four) s w → report_told s ≡ is W.taken
    by (refuses n k m) = table_passes (stays_a_table e t (freed (rank_at t i) t) (Ok (R.Answered i)) g (S.answered g q o)) n
    by (does h (taken a)) = refl
    by (does h (turned_away a)) = let z = (freed_slots t was i o).free in let w = a i (inside_freed t was i o) in absurd (omega arith)

pub used_again : (e f : Entry) (t u v : List Slot) (r : Answer) (i : ℕ) (four : Four) → Step e t (Ok (R.Answered i)) u → ask_of f ≡ A.Request four
    → Step f u r v → report_told r ≡ is W.taken
used_again e f t u v r i four answer p step = behind e f t i u v r four answer p step

-- no other slot becomes free
pub first_freed : (t : List Slot) (four : Four) (i : ℕ) → Sound t → OldestWith t four i → ((j : ℕ) → j < i → 0 < rank_at t j)
    → FirstFree (freed (rank_at t i) t) i
first_freed t four i g o before =
    record {
      within = inside_freed t four i o;
      free = (freed_slots t four i o).free;
      first = λ j h. rank_waits (freed_rank (rank_at t i) t j o.waits.1) o.waits.1 (before j h)
          (λ e. let w = o.waits.0 in let k = one_slot g j i (omega arith, before j h) o.waits e in omega arith);
    }

at_once : (e f : Entry) (t : List Slot) (i : ℕ) (u v : List Slot) (r : Answer) (four : Four) → Step e t (Ok (R.Answered i)) u → ask_of f ≡ A.Request four
    → Step f u r v → ((j : ℕ) → j < i → 0 < rank_at t j) → r ≡ Ok (R.Taken i)
at_once e f t i u v r four (S.answered {four = was} g q o) p step before = by (rw p at (judged step))
  where
    by : {s : Answer} {w : List Slot} → Judged (freed (rank_at t i) t) (A.Request four) s w → s ≡ Ok (R.Taken i)
    by (refuses n k m) = table_passes (stays_a_table e t (freed (rank_at t i) t) (Ok (R.Answered i)) g (S.answered g q o)) n
    by (does h (taken {i = j} a)) = ap (λ (i : ℕ). Ok (R.Taken i)) (one_first (freed (rank_at t i) t) j i a (first_freed t was i g.sound o before))
    by (does h (turned_away a)) = let z = (freed_slots t was i o).free in let w = a i (inside_freed t was i o) in absurd (omega arith)

pub used_at_once : (e f : Entry) (t u v : List Slot) (r : Answer) (i : ℕ) (four : Four) → Step e t (Ok (R.Answered i)) u → ask_of f ≡ A.Request four
    → Step f u r v → ((j : ℕ) → j < i → 0 < rank_at t j) → r ≡ Ok (R.Taken i)
used_at_once e f t u v r i four answer p step before = at_once e f t i u v r four answer p step before
