-- Each step acts as the list does: a free slot is room in the list, and the oldest slot with the four is the first request that has it. Assumes nothing.
use Prim.Native.Nat.{ℕ, suc, ◌-◌, ◌<◌}
use native.Mathlib.Omega.{arith}
use mathlib.Core.Path.{◌≡◌, refl, sym, ◌∙◌, ap, subst}
use mathlib.Core.List.{List, [], ◌∷◌, ◌++◌}
use lib.ListN.{length, take, drop, length-append, length-set, length-map}
use lib.Seq.{take_all, take_at}
use borrow.Author.Tests.{lt-ltb, le-ltb}
use Rattle.text.specs.Told.{is}
use Rattle.entry.specs.declared.Entry.{Entry}
use Rattle.slots.specs.declared.Four.{Four}
use Rattle.slots.specs.declared.Slot.{Slot}
use Rattle.slots.specs.declared.ask.Ask.{Ask}
use Rattle.slots.specs.declared.ask.Ask.TheVariants as A
use Rattle.slots.specs.Ask.{ask_of}
use Rattle.slots.specs.Decide.{lowered_of}
use Rattle.pending.specs.Table.{rank_at, Sized, Table}
use Rattle.pending.specs.Step as S
use Rattle.pending.specs.Step.{Answer, OldestWith, NoneWith, newcomer, freed, Step}
use Rattle.pending.specs.Words.{report_told}
use Rattle.matched.specs.Requests.{without, word_of, next_of}
use Rattle.matched.specs.Holds.{request_at, Holds, Empty}
use Rattle.pending.proofs.Looks.{waiting_all, waiting_less}
use Rattle.matched.proofs.Fours.{FirstAt, has_at, without_at, has_none, without_none}
use Rattle.matched.proofs.Kept.{holds_take, holds_free}
use Rattle.matched.proofs.Does.{Does, dropped, other, no_seq, taken, turned_away, answered, stray, Judged, refuses, does, judged, Plain, plain_ask}
use Rattle.matched.proofs.Lists.{table_holds, holds_sound, empty_holds, slot_at, table_passes}

-- a step keeps the number of slots
pub same_size : (e : Entry) (t u : List Slot) (r : Answer) → Step e t r u → length u ≡ length t
same_size e t u r (S.refused_with n) = refl
same_size e t u r (S.dropped g q) = refl
same_size e t u r (S.other g q) = refl
same_size e t u r (S.no_seq g q) = refl
same_size e t u r (S.taken {four} {i} g q f) = length-set t i (newcomer t four)
same_size e t u r (S.turned_away g q f) = refl
same_size e t u r (S.answered {four} {i} g q f) = length-map t (lowered_of (rank_at t i))
same_size e t u r (S.stray g q f) = refl

module _ (t : List Slot) (l : List Four) (hold : Holds t l) where
  -- what is reported is the list's word, and the table holds the list's next
  abbrev Plays : Ask → Answer → List Slot → Type 0
  Plays a r u = (report_told r ≡ is (word_of (length t) a l)) × Holds u (next_of (length t) a l)

  -- where there is room, the list grows behind; where there is none, it stays
  next_taken : (four : Four) → length l < length t → next_of (length t) (A.Request four) l ≡ l ++ (four ∷ [])
  unfolding next_of
  next_taken four h =
      let n = length-append l (four ∷ []) in cc (take_all (length t) (l ++ (four ∷ [])) (omega arith))

  next_turned_away : (four : Four) → length l ≡ length t → next_of (length t) (A.Request four) l ≡ l
  unfolding next_of
  next_turned_away four e = cc (take_at l (four ∷ []) (length t) e)

  -- the first request with the four is the oldest slot's
  first_at : (four : Four) (i : ℕ) → OldestWith t four i → FirstAt four l (rank_at t i - 1)
  first_at four i o =
      let z = o.waits.1 in let v = hold.within i o.waits.0 in
      record {
        inside = omega arith;
        here = sym (hold.placed i o.waits) ∙ o.same;
        before = λ j h q. let s = slot_at hold j (omega arith) in let k = s.1.rank in let m = o.oldest s.0 s.1.waits (s.1.four ∙ q) in omega arith;
      }

  none_at : (four : Four) → NoneWith t four → (j : ℕ) → j < length l → request_at l j ≡ four → ⊥
  none_at four f j h q = let s = slot_at hold j h in f s.0 s.1.waits (s.1.four ∙ q)

  frees : (four : Four) (i : ℕ) → OldestWith t four i → Holds (freed (rank_at t i) t) (without four l)
  frees four i o =
      let z = o.waits.1 in let v = hold.within i o.waits.0 in let s : suc (rank_at t i - 1) ≡ rank_at t i = omega arith in
      let w : without four l ≡ take (rank_at t i - 1) l ++ drop (rank_at t i) l
      = without_at four l (rank_at t i - 1) (first_at four i o) ∙ ap (λ (k : ℕ). take (rank_at t i - 1) l ++ drop k l) s in
      rw w (holds_free t l hold (rank_at t i) z v)

  plays : (a : Ask) (r : Answer) (u : List Slot) → Plain a → Does t a r u → Plays a r u
  unfolding report_told word_of next_of
  plays a r u p dropped = (refl, hold)
  plays a r u p other = (refl, hold)
  plays a r u p no_seq = (refl, hold)
  plays a r u p (taken {four} {i} f) =
      let m = hold.many in let v = waiting_less t i f.within f.free in let h : length l < length t = omega arith in
      let c = lt-ltb (length l) (length t) h in
      (rw c, subst (Holds _) (sym (next_taken four h)) (holds_take t l hold i four f.within f.free p.0 p.1))
  plays a r u p (turned_away {four} f) =
      let m = hold.many in let v = waiting_all t f in let h : length l ≡ length t = omega arith in
      let c = le-ltb (length l) (length t) (omega arith) in (rw c, subst (Holds _) (sym (next_turned_away four h)) hold)
  plays a r u p (answered {four} {i} o) = (rw (has_at four l (rank_at t i - 1) (first_at four i o)), frees four i o)
  plays a r u p (stray {four} f) = (rw (has_none four l (none_at four f)), rw (without_none four l (none_at four f)) hold)

pub acts_as_list : (e : Entry) (t u : List Slot) (r : Answer) (l : List Four) → Sized t → Holds t l → Step e t r u
    → (report_told r ≡ is (word_of (length t) (ask_of e) l)) × Holds u (next_of (length t) (ask_of e) l)
acts_as_list e t u r l sized hold step = by (judged step)
  where
    by : Judged t (ask_of e) r u → Plays t l hold (ask_of e) r u
    by (refuses n q p) = table_passes (record { sized = sized; sound = holds_sound t l hold }) n
    by (does g d) = plays t l hold (ask_of e) r u (plain_ask e) d

-- a table stays a table
pub stays_a_table : (e : Entry) (t u : List Slot) (r : Answer) → Table t → Step e t r u → Table u
stays_a_table e t u r g step =
    let h = table_holds t g in let a = acts_as_list e t u r h.0 g.sized h.1 step in let n = same_size e t u r step in
    let p = g.sized.0 in let q = g.sized.1 in record { sized = (omega arith, omega arith); sound = holds_sound u _ a.1 }

pub empty_is_a_table : (t : List Slot) → Sized t → Empty t → Table t
empty_is_a_table t s h = record { sized = s; sound = holds_sound t [] (empty_holds t h) }
