-- A step is a refusal, or what a table does for what the entry asks: by cases on the step. Assumes nothing.
use Rattle.std.specs.Prelude.{None, Option, Some, Ok, Err}
use Prim.Native.Nat.{ℕ, ◌%◌, ◌^◌, ◌<◌, ◌≤◌}
use native.Mathlib.Omega.{arith}
use native.Mathlib.Nat.{mod-lt}
use mathlib.Core.Path.{◌≡◌, refl}
use mathlib.Core.Bool.{Bool, true, false, cond, ◌||◌}
use mathlib.Core.List.{List}
use lib.ListN.{set}
use lib.Dec.{eqb, ltb, lit<}
use Rattle.refusal.specs.declared.Refusal.{Refusal}
use Rattle.entry.specs.declared.Entry.{Entry}
use Rattle.slots.specs.declared.Four.{Four}
use Rattle.slots.specs.declared.Slot.{Slot}
use Rattle.slots.specs.declared.ask.Ask.{Ask}
use Rattle.slots.specs.declared.ask.Ask.TheVariants as A
use Rattle.slots.specs.declared.decide.Report.TheVariants as R
use Rattle.slots.specs.Ask.{direction_of, four_of, by_kind, by_seq, ask_of}
use Rattle.pending.specs.Table.{rank_at, Table, Refuses}
use Rattle.pending.specs.Step as S
use Rattle.pending.specs.Step.{Answer, FirstFree, NoneFree, OldestWith, NoneWith, newcomer, freed, Step}

-- what a table does for an ask, with what it reports
pub data Does (t : List Slot) : Ask → Answer → List Slot → Type 0 where
  dropped : Does t A.Dropped (Ok R.Dropped) t
  other : Does t A.Other (Ok R.Other) t
  no_seq : Does t A.NoSeq (Ok R.NoSeq) t
  taken : {four : Four} {i : ℕ} → FirstFree t i → Does t (A.Request four) (Ok (R.Taken i)) (set t i (newcomer t four))
  turned_away : {four : Four} → NoneFree t → Does t (A.Request four) (Ok R.TurnedAway) t
  answered : {four : Four} {i : ℕ} → OldestWith t four i → Does t (A.Response four) (Ok (R.Answered i)) (freed (rank_at t i) t)
  stray : {four : Four} → NoneWith t four → Does t (A.Response four) (Ok R.Stray) t

pub data Judged (t : List Slot) (a : Ask) (r : Answer) (u : List Slot) : Type 0 where
  refuses : {n : Refusal} → Refuses t n → r ≡ Err n → u ≡ t → Judged t a r u
  does : Table t → Does t a r u → Judged t a r u

pub judged : {e : Entry} {t u : List Slot} {r : Answer} → Step e t r u → Judged t (ask_of e) r u
judged (S.refused_with n) = refuses n refl refl
judged (S.dropped g q) = does g (rw q dropped)
judged (S.other g q) = does g (rw q other)
judged (S.no_seq g q) = does g (rw q no_seq)
judged (S.taken g q f) = does g (rw q (taken f))
judged (S.turned_away g q f) = does g (rw q (turned_away f))
judged (S.answered g q f) = does g (rw q (answered f))
judged (S.stray g q f) = does g (rw q (stray f))

-- ---- the four of a request has no top bit, and reads or writes
abbrev pub Plain : Ask → Type 0
Plain A.Dropped = Unit
Plain A.Other = Unit
Plain A.NoSeq = Unit
Plain (A.Request four) = (four.route < 2 ^ 63) × (four.write ≤ 1)
Plain (A.Response four) = Unit
Plain (A.Rank k) = Unit

plain_four : (e : Entry) (seq : ℕ) → ((four_of e seq).route < 2 ^ 63) × ((four_of e seq).write ≤ 1)
unfolding four_of direction_of
plain_four e seq = (mod-lt e.route (lit< tt), by (ltb 2 e.kind))
  where
    by : (b : Bool) → cond b 1 0 ≤ 1
    by true = omega arith
    by false = omega arith

plain_seq : (e : Entry) (s : Option ℕ) → Plain (by_seq e s)
unfolding by_kind
plain_seq e (Some seq) = by (eqb (e.kind % 2) 1)
  where
    by : (b : Bool) → Plain (cond b (A.Request (four_of e seq)) (A.Response (four_of e seq)))
    by true = plain_four e seq
    by false = tt
plain_seq e None = tt

pub plain_ask : (e : Entry) → Plain (ask_of e)
unfolding ask_of
plain_ask e = by e.dropped (eqb e.kind 0 || ltb 4 e.kind)
  where
    by : (b c : Bool) → Plain (cond b A.Dropped (cond c A.Other (by_seq e e.seq)))
    by true c = tt
    by false true = tt
    by false false = plain_seq e e.seq
