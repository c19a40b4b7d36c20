-- What document 02 a) promises, over the contracts of the calls: `Step` is that of `step`, `CountTold` that of `waiting`, `PlaceTold` that of `oldest`.
-- How to read it: `a ≡ b` is "a equals b"; `P → Q` "if P then Q"; `P → ⊥` "P never holds"; `P × Q` "P and Q"; `(x : A) × P` "there is an x so that P";
-- `(x : A) → P` "for every x, P"; `↔` "exactly when". Of a step, t is the table before it and u the table after it.
use Rattle.std.specs.Prelude.{ℕ, ◌+◌, ◌-◌, ◌<◌, ◌≤◌, ◌≡◌, List, [], map, ◌↔◌, length, get_or, replicate, Ok}
use Rattle.text.specs.Told.{Told, is, absent, refused, number_in}
use Rattle.entry.specs.declared.Entry.{Entry}
use Rattle.slots.specs.declared.Four.{Four}
use Rattle.slots.specs.declared.Slot.{Slot}
use Rattle.slots.specs.declared.ask.Ask.{Ask}
use Rattle.slots.specs.declared.ask.Ask.TheVariants as A
use Rattle.slots.specs.declared.decide.Report.TheVariants as R
use Rattle.slots.specs.Ask.{ask_of}
use Rattle.slots.specs.Decide.{free_slot}
use Rattle.pending.specs.Table.{rank_at, four_at, Waits, waiting, Sized, Sound, Table, CountTold, PlaceTold}
use Rattle.pending.specs.Step.{Answer, FirstFree, NoneFree, OldestWith, NoneWith, newcomer, Step}
use Rattle.pending.specs.Words.{taken, turned_away, stray, report_told}
use Rattle.matched.specs.Asks.{Asks}
use Rattle.matched.specs.Requests.{word_of, next_of, words_of, left_of}
use Rattle.matched.specs.Holds.{request_at, Holds, Empty}
use Rattle.matched.specs.History.{History, taken_in, answered_in}

-- A request with the four was taken at slot i.
pub record TakenAt (t : List Slot) (four : Four) (i : ℕ) (u : List Slot) : Type 0 where
  -- It was the first free slot.
  pub first : FirstFree t i
  -- The request stands there with the four, and is the youngest.
  pub there : get_or u i free_slot ≡ newcomer t four
  -- Every other slot is as before.
  pub others : (j : ℕ) → (j ≡ i → ⊥) → get_or u j free_slot ≡ get_or t j free_slot

-- A response with the four freed slot i.
pub record AnsweredAt (t : List Slot) (four : Four) (i : ℕ) (u : List Slot) : Type 0 where
  -- It was the oldest with the same four.
  pub oldest : OldestWith t four i
  -- It is free now.
  pub free : rank_at u i ≡ 0
  -- The rank of each later one is one less.
  pub later : (j : ℕ) → rank_at t i < rank_at t j → rank_at u j + 1 ≡ rank_at t j
  -- Each earlier one, and each free slot, has its rank still.
  pub earlier : (j : ℕ) → rank_at t j < rank_at t i → rank_at u j ≡ rank_at t j
  -- Freeing changes ranks alone: each slot has its four still, the freed one too.
  pub fours : (j : ℕ) → four_at u j ≡ four_at t j

pub record Matched : Type 0 where
  -- What an entry asks is what document 02 says: nothing if dropped; else nothing if not of the kinds 1 to 4; else nothing without `seq`; else a slot, or
  -- an answer, under its four.
  pub asks_exactly : (e : Entry) (a : Ask) → (ask_of e ≡ a) ↔ Asks e a
  -- ---- as a plain list
  -- Each step acts as the plain list does, cut to the slot count: the report is the list's word, and the table holds the list's next.
  pub acts_as_list : (e : Entry) (t u : List Slot) (r : Answer) (l : List Four) → Sized t → Holds t l → Step e t r u
      → (report_told r ≡ is (word_of (length t) (ask_of e) l)) × Holds u (next_of (length t) (ask_of e) l)
  -- So does each history: the reports are the list's words, none a refusal, and what waits in the end is what the list has left.
  pub replays_as_list : (es : List Entry) (t u : List Slot) (rs : List Answer) (l : List Four) → Sized t → Holds t l → History es t rs u
      → (map report_told rs ≡ map is (words_of (length t) es l)) × Holds u (left_of (length t) es l)
  -- An empty table holds the empty list.
  pub empty_holds_none : (t : List Slot) → Empty t → Holds t []
  -- Every table holds a list.
  pub holds_some : (t : List Slot) → Table t → (l : List Four) × Holds t l
  -- It holds one list alone.
  pub one_list : (t : List Slot) (l m : List Four) → Holds t l → Holds t m → l ≡ m
  -- What holds a list is sound: its waiting slots carry the ranks 1 to their number once each, their routes plain.
  pub holding_is_sound : (t : List Slot) (l : List Four) → Holds t l → Sound t
  -- A list that is held is no longer than there are slots.
  pub list_fits : (t : List Slot) (l : List Four) → Holds t l → length l ≤ length t
  -- `waiting` tells how long the list is.
  pub count_of_the_list : (t : List Slot) (l : List Four) (a : Told ℕ) → Sized t → Holds t l → CountTold t a → a ≡ is (length l)
  -- `oldest` tells for k from 1 to that number where the k-th of the list waits, so a caller can read the whole list.
  pub place_in_the_list : (t : List Slot) (l : List Four) (k : ℕ) (a : Told ℕ) → Sized t → Holds t l → 0 < k → k ≤ length l → PlaceTold t k a
      → (i : ℕ) × (a ≡ is i) × Waits t i × (four_at t i ≡ request_at l (k - 1))
  -- For every other k it tells that there is none.
  pub nowhere_else : (t : List Slot) (l : List Four) (k : ℕ) (a : Told ℕ) → Sized t → Holds t l → (0 < k → k ≤ length l → ⊥) → PlaceTold t k a
      → a ≡ absent
  -- ---- slot by slot
  -- A step keeps the number of slots.
  pub same_size : (e : Entry) (t u : List Slot) (r : Answer) → Step e t r u → length u ≡ length t
  -- A request that is taken goes to the first free slot, as the youngest, and no other slot changes.
  pub each_slot_taken : (e : Entry) (t u : List Slot) (i : ℕ) → Step e t (Ok (R.Taken i)) u
      → (four : Four) × (ask_of e ≡ A.Request four) × TakenAt t four i u
  -- A response frees the oldest slot with the same four, and changes ranks alone.
  pub each_slot_answered : (e : Entry) (t u : List Slot) (i : ℕ) → Step e t (Ok (R.Answered i)) u
      → (four : Four) × (ask_of e ≡ A.Response four) × AnsweredAt t four i u
  -- Whatever else is reported or refused, no slot changes.
  pub else_unchanged : (e : Entry) (t u : List Slot) (r : Answer) → Step e t r u → ((i : ℕ) → r ≡ Ok (R.Taken i) → ⊥)
      → ((i : ℕ) → r ≡ Ok (R.Answered i) → ⊥) → u ≡ t
  -- A request stays in its slot, under its four, until it is answered; so a caller can keep what else is known of it beside the table.
  pub stays_in_place : (e : Entry) (t u : List Slot) (r : Answer) (j : ℕ) → Step e t r u → Waits t j → (r ≡ Ok (R.Answered j) → ⊥)
      → Waits u j × (four_at u j ≡ four_at t j)
  -- A request is turned away exactly when no slot is free.
  pub turned_away_exactly : (e : Entry) (t u : List Slot) (r : Answer) (four : Four) → Table t → ask_of e ≡ A.Request four → Step e t r u
      → (report_told r ≡ is turned_away) ↔ NoneFree t
  -- A response is stray exactly when no waiting slot has the four.
  pub stray_exactly : (e : Entry) (t u : List Slot) (r : Answer) (four : Four) → Table t → ask_of e ≡ A.Response four → Step e t r u
      → (report_told r ≡ is stray) ↔ NoneWith t four
  -- Freed slots are used again: behind an answer a request is taken.
  pub used_again : (e f : Entry) (t u v : List Slot) (r : Answer) (i : ℕ) (four : Four) → Step e t (Ok (R.Answered i)) u → ask_of f ≡ A.Request four
      → Step f u r v → report_told r ≡ is taken
  -- It goes to the slot that was freed, unless one before that was free.
  pub used_at_once : (e f : Entry) (t u v : List Slot) (r : Answer) (i : ℕ) (four : Four) → Step e t (Ok (R.Answered i)) u → ask_of f ≡ A.Request four
      → Step f u r v → ((j : ℕ) → j < i → 0 < rank_at t j) → r ≡ Ok (R.Taken i)
  -- ---- refusals
  -- 50 refuses exactly what has no or over 64 slots, whatever the entry.
  pub fifty_exactly : (e : Entry) (t u : List Slot) (r : Answer) → Step e t r u → (report_told r ≡ refused 50) ↔ (Sized t → ⊥)
  -- 51 refuses exactly what has 1 to 64 slots and is not sound, whatever the entry.
  pub fifty_one_exactly : (e : Entry) (t u : List Slot) (r : Answer) → Step e t r u
      → (report_told r ≡ refused 51) ↔ (Sized t × (Sound t → ⊥))
  -- There is no other refusal.
  pub no_other_number : (e : Entry) (t u : List Slot) (r : Answer) (n : ℕ) → Step e t r u → report_told r ≡ refused n
      → (n ≡ 50 → ⊥) → n ≡ 51
  -- `waiting` refuses with the number that `step` refuses with, and only then.
  pub count_refused_alike : (e : Entry) (t u : List Slot) (r : Answer) (a : Told ℕ) → Step e t r u → CountTold t a
      → number_in (report_told r) ≡ number_in a
  -- So does `oldest`.
  pub place_refused_alike : (e : Entry) (t u : List Slot) (r : Answer) (k : ℕ) (a : Told ℕ) → Step e t r u → PlaceTold t k a
      → number_in (report_told r) ≡ number_in a
  -- A refusal changes no slot.
  pub refusal_changes_nothing : (e : Entry) (t u : List Slot) (r : Answer) (n : ℕ) → Step e t r u → report_told r ≡ refused n → u ≡ t
  -- A table stays a table, so 51 cannot come later in a history.
  pub stays_a_table : (e : Entry) (t u : List Slot) (r : Answer) → Table t → Step e t r u → Table u
  -- A table is never refused.
  pub never_refused : (e : Entry) (t u : List Slot) (r : Answer) (n : ℕ) → Table t → Step e t r u → report_told r ≡ refused n → ⊥
  -- ---- one answer
  -- Every entry has a report and a next table, whatever the slots are.
  pub some_answer : (e : Entry) (t : List Slot) → (r : Answer) × (u : List Slot) × Step e t r u
  -- So every list of entries has a history.
  pub some_history : (es : List Entry) (t : List Slot) → (rs : List Answer) × (u : List Slot) × History es t rs u
  -- No second report and no second table keeps the contract of `step`.
  pub one_answer : (e : Entry) (t u v : List Slot) (r s : Answer) → Step e t r u → Step e t s v → (r ≡ s) × (u ≡ v)
  -- No second number keeps that of `waiting`.
  pub one_count : (t : List Slot) (a b : Told ℕ) → CountTold t a → CountTold t b → a ≡ b
  -- No second place keeps that of `oldest`.
  pub one_place : (t : List Slot) (k : ℕ) (a b : Told ℕ) → PlaceTold t k a → PlaceTold t k b → a ≡ b
  -- A history has one outcome.
  pub one_history : (es : List Entry) (t u v : List Slot) (rs ss : List Answer) → History es t rs u → History es t ss v → (rs ≡ ss) × (u ≡ v)
  -- ---- counted from the history
  -- Those that waited and those taken in are those answered and those that wait.
  pub counted : (es : List Entry) (t u : List Slot) (rs : List Answer) → Table t → History es t rs u
      → waiting t + taken_in rs ≡ answered_in rs + waiting u
  -- From an empty table, requests taken in equal answered plus waiting.
  pub from_empty : (es : List Entry) (t u : List Slot) (rs : List Answer) → Sized t → Empty t → History es t rs u
      → taken_in rs ≡ answered_in rs + waiting u
  -- 1 to 64 free slots are a table.
  pub empty_is_a_table : (t : List Slot) → Sized t → Empty t → Table t
  -- What `clear` leaves is empty.
  pub cleared_is_empty : (n : ℕ) → Empty (replicate n free_slot)
  -- So it is a table, for 1 to 64 slots.
  pub cleared_is_a_table : (n : ℕ) → 0 < n → n ≤ 64 → Table (replicate n free_slot)
