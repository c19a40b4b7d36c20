-- What the plan does is a step, and what the questions answer is so: the look at all slots is taken apart, the table is sound or refused, and each
-- ask is decided by the first free slot or the oldest that is asked for. Assumes nothing.
use Rattle.std.specs.Prelude.{Err, None, Ok, Option, Result, Some}
use Rattle.refusal.specs.declared.Refusal.{Refusal}
use Rattle.refusal.specs.declared.Refusal.TheVariants as Number
use Rattle.refusal.specs.Told.{told, told_maybe}
use mathlib.Core.Path.{◌≡◌, refl, sym, ◌∙◌, ap, subst}
use Prim.Native.Nat.{ℕ, zero, suc, ◌+◌, ◌%◌, ◌<◌, ◌≤◌}
use native.Mathlib.Omega.{arith}
use mathlib.Core.Bool.{Bool, true, false, cond, ◌||◌}
use mathlib.Core.List.{List}
use lib.Dec.{eqb, ltb}
use lib.ListN.{length, set}
use borrow.Author.Tests.{lt-ltb, le-ltb, eq-eqb, eqb-true, eqb-false, ltb-true, ltb-false}
use Rattle.entry.specs.declared.Entry.{Entry}
use Rattle.slots.specs.declared.Four.{Four}
use Rattle.slots.specs.declared.Slot.{Slot}
use Rattle.slots.specs.declared.ask.Ask.{Ask}
use Rattle.slots.specs.declared.ask.Ask.TheVariants as A
use Rattle.slots.specs.declared.look.Oldest.{Oldest}
use Rattle.slots.specs.declared.look.Seen.{Seen}
use Rattle.slots.specs.declared.decide.Change.{Change}
use Rattle.slots.specs.declared.decide.Change.TheVariants as C
use Rattle.slots.specs.declared.decide.Plan.{Plan}
use Rattle.slots.specs.declared.decide.Report.TheVariants as R
use Rattle.slots.specs.Ask.{ask_of, by_kind, by_seq, four_of}
use Rattle.slots.specs.Look.{asked_of, is_asked}
use Rattle.slots.specs.Decide.{still_of, take_of, free_of, sound_of, check_of, request_of, response_of, judged, unless, decide_of, count_of, place_in, place_of}
use Rattle.pending.specs.Over.{look_all}
use Rattle.pending.specs.Table.{rank_at, four_at, Waits, waiting, tally, Sized, Sound, Table, Refuses, by_size, by_ranks, CountTold, PlaceTold}
use Rattle.pending.specs.Table as Tables
use Rattle.pending.specs.Step.{Answer, Step, FirstFree, NoneFree, OldestWith, NoneWith, newcomer, freed}
use Rattle.pending.specs.Step as Do
use Rattle.pending.proofs.Fold.{first_all, ranks_all, oldest_all, parts}
use Rattle.pending.proofs.Fours.{one_four, same_four_lem}
use Rattle.pending.proofs.Looks.{FirstIs, spare, full, first_is, waiting_most, waiting_less, OldestIs, hit, miss, oldest_is}
use Rattle.pending.proofs.Marks.{unlike}
use Rattle.pending.proofs.Sounds.{r₀, tally_some, count_is, sound_found, found_sound}

-- the table after a change
abbrev pub changed : Change → List Slot → List Slot
changed C.Nothing t = t
changed (C.Put i s) t = set t i s
changed (C.Free k) t = freed k t

-- ---- what is seen of a table
abbrev seen_by : Ask → List Slot → Seen
seen_by ask t = record { ask = ask; size = length t; free = first_all t 0 (length t); ranks = ranks_all t r₀; oldest = oldest_all t 0 ask None }

seen_is : (ask : Ask) (t : List Slot) → look_all t 0 (asked_of ask (length t)) ≡ seen_by ask t
seen_is ask t = parts t 0 (asked_of ask (length t))

-- ---- a table, or the refusal
data Judged (t : List Slot) : Result Unit Refusal → Type 0 where
  well : Table t → Judged t (Ok tt)
  ill : {r : Refusal} → Refuses t r → Judged t (Err r)

judge : (ask : Ask) (t : List Slot) → Judged t (check_of (seen_by ask t))
unfolding check_of
judge ask t = by_size₀ (eqb (length t) 0) refl (ltb 64 (length t)) refl
  where
    by_sound : Sized t → (b : Bool) → sound_of (ranks_all t r₀) ≡ b → Judged t (cond b (Ok tt) (Err Number.BrokenTable))
    by_sound z true e = well (record { sized = z; sound = found_sound t z.1 e })
    by_sound z false e = ill (by_ranks z (λ s. unlike (sym (sound_found t s z.1) ∙ e)))

    by_size₀ : (a : Bool) → eqb (length t) 0 ≡ a → (b : Bool) → ltb 64 (length t) ≡ b
        → Judged t (cond (a || b) (Err Number.TableSize) (cond (sound_of (ranks_all t r₀)) (Ok tt) (Err Number.BrokenTable)))
    by_size₀ true e b f = ill (by_size (λ z. let q = eqb-true (length t) 0 e in let y = z.0 in omega (arith, q, y)))
    by_size₀ false e true f = ill (by_size (λ z. let q = ltb-true 64 (length t) f in let y = z.1 in omega (arith, q, y)))
    by_size₀ false e false f = by_sound (positive (length t) (eqb-false (length t) 0 e), ltb-false 64 (length t) f) (sound_of (ranks_all t r₀)) refl
      where
        positive : (n : ℕ) → (n ≡ 0 → ⊥) → 0 < n
        positive zero h = absurd (h refl)
        positive (suc n) h = omega arith

-- ---- each ask over a table
few : (t : List Slot) → Table t → waiting t ≤ 64
few t good = let a = waiting_most t in let b = good.sized.1 in omega (arith, a, b)

module _ (e : Entry) (t : List Slot) where
  abbrev Does : Plan → Type 0
  Does p = Step e t (Ok p.report) (changed p.change t)

  module _ (good : Table t) where
    asks_request : (four : Four) → ask_of e ≡ A.Request four → FirstIs t 0 (length t) (first_all t 0 (length t)) → Does (request_of (seen_by (A.Request four) t) four)
    unfolding request_of
    asks_request four q (spare m g z b r) =
        let c = count_is t good.sound good.sized.1 in let v = waiting_less t m g z in let l = good.sized.1 in
        let e₂ = lt-ltb (waiting t) 64 (omega (arith, v, l)) in let k : 0 + m ≡ m = omega arith in
        let f = lt-ltb m (length t) g in
        subst Does (sym (let p : request_of (seen_by (A.Request four) t) four ≡ take_of m (waiting t + 1) four = rw (r, k, f, c, e₂) in p)) (Do.taken good q (record { within = g; free = z; first = b }))
    asks_request four q (full a r) =
        let f = le-ltb (length t) (length t) (omega arith) in
        subst Does (sym (let p : request_of (seen_by (A.Request four) t) four ≡ still_of R.TurnedAway = rw (r, f) in p)) (Do.turned_away good q a)

    asks_response : (four : Four) → ask_of e ≡ A.Response four → OldestIs t 0 (A.Response four) None (oldest_all t 0 (A.Response four) None) → Does (response_of (seen_by (A.Response four) t))
    unfolding response_of is_asked
    asks_response four q (hit m g f p less all) =
        let k : 0 + m ≡ m = omega arith in
        let is-plan : response_of (seen_by (A.Response four) t) ≡ free_of m (rank_at t m) = rw (p, k) in
        subst Does (sym is-plan)
        (Do.answered good q (record {
          waits = (g, f.0);
          same = one_four (four_at t m) four f.1;
          oldest = (λ j w y. all j w.0 (w.1, same_four_lem (four_at t j) four y));
        }))
    asks_response four q (miss r all) =
        let is-plan : response_of (seen_by (A.Response four) t) ≡ still_of R.Stray = rw r in
        subst Does (sym is-plan) (Do.stray good q (λ j w y. unlike (all j w.0 (w.1, same_four_lem (four_at t j) four y))))

    does : (ask : Ask) → ask_of e ≡ ask → ((k : ℕ) → ask ≡ A.Rank k → ⊥) → Does (judged (seen_by ask t) ask)
    does A.Dropped q n = Do.dropped good q
    does A.Other q n = Do.other good q
    does A.NoSeq q n = Do.no_seq good q
    does (A.Request four) q n = asks_request four q (first_is t 0 (length t) (omega arith))
    does (A.Response four) q n = asks_response four q (oldest_is t 0 (A.Response four) None)
    does (A.Rank k) q n = absurd (n k refl)

-- ---- no entry asks for a rank
abbrev asks_rank : Ask → ℕ
asks_rank A.Dropped = 0
asks_rank A.Other = 0
asks_rank A.NoSeq = 0
asks_rank (A.Request four) = 0
asks_rank (A.Response four) = 0
asks_rank (A.Rank k) = 1

no_rank : (e : Entry) → asks_rank (ask_of e) ≡ 0
unfolding ask_of by_kind
no_rank e = by_d e.dropped (eqb e.kind 0 || ltb 4 e.kind) e.seq
  where
    by_k : (b : Bool) (four : Four) → asks_rank (cond b (A.Request four) (A.Response four)) ≡ 0
    by_k true four = refl
    by_k false four = refl

    by_d : (d o : Bool) (q : Option ℕ) → asks_rank (cond d A.Dropped (cond o A.Other (by_seq e q))) ≡ 0
    by_d true o q = refl
    by_d false true q = refl
    by_d false false (Some n) = by_k (eqb (e.kind % 2) 1) (four_of e n)
    by_d false false None = refl

-- ---- the step
abbrev Follows : Entry → List Slot → Result Plan Refusal → Type 0
Follows e t (Ok p) = Does e t p
Follows e t (Err r) = Step e t (Err r) t

follows : (e : Entry) (t : List Slot) → Follows e t (decide_of (seen_by (ask_of e) t))
unfolding decide_of
follows e t = by_table (judge (ask_of e) t)
  where
    by_table : {x : Result Unit Refusal} → Judged t x → Follows e t (unless x (judged (seen_by (ask_of e) t) (ask_of e)))
    by_table (well g) = does e t g (ask_of e) refl (λ k q. let a = no_rank e in let b : asks_rank (ask_of e) ≡ 1 = ap asks_rank q in omega (arith, a, b))
    by_table (ill r) = Do.refused_with r

-- what a look at all slots decides, for an entry
abbrev pub Decided : Entry → List Slot → Result Plan Refusal → Type 0
Decided e t x = x ≡ decide_of (look_all t 0 (asked_of (ask_of e) (length t)))

pub step_refused : (e : Entry) (t : List Slot) (r : Refusal) → Decided e t (Err r) → Step e t (Err r) t
step_refused e t r h = subst (Follows e t) (sym (h ∙ ap decide_of (seen_is (ask_of e) t))) (follows e t)

pub step_done : (e : Entry) (t : List Slot) (p : Plan) (u : List Slot) → Decided e t (Ok p) → u ≡ changed p.change t → Step e t (Ok p.report) u
step_done e t p u h g = subst (Step e t (Ok p.report)) (sym g) (subst (Follows e t) (sym (h ∙ ap decide_of (seen_is (ask_of e) t))) (follows e t))

-- there is always an answer
pub some_step : (e : Entry) (t : List Slot) → (r : Answer) × (u : List Slot) × Step e t r u
some_step e t = by (decide_of (seen_by (ask_of e) t)) (follows e t)
  where
    by : (x : Result Plan Refusal) → Follows e t x → (r : Answer) × (u : List Slot) × Step e t r u
    by (Ok p) s = (Ok p.report, changed p.change t, s)
    by (Err r) s = (Err r, t, s)

-- ---- the questions
pub count_told : (t : List Slot) (r : Result ℕ Refusal) → r ≡ count_of (look_all t 0 (asked_of (A.Rank 0) (length t))) → CountTold t (told r)
unfolding count_of
count_told t r h = subst (λ (x : Result ℕ Refusal). CountTold t (told x)) (sym (h ∙ ap count_of (seen_is (A.Rank 0) t))) (by_table (judge (A.Rank 0) t))
  where
    by_table : {x : Result Unit Refusal} → Judged t x → CountTold t (told (unless x (ranks_all t r₀).count))
    by_table (well g) = rw (count_is t g.sound g.sized.1) (Tables.counts g)
    by_table (ill f) = Tables.refuses f

pub place_told : (t : List Slot) (k : ℕ) (r : Result (Option ℕ) Refusal) → r ≡ place_of (look_all t 0 (asked_of (A.Rank k) (length t))) → PlaceTold t k (told_maybe r)
unfolding place_of is_asked
place_told t k r h =
    subst (λ (x : Result (Option ℕ) Refusal). PlaceTold t k (told_maybe x)) (sym (h ∙ ap place_of (seen_is (A.Rank k) t)))
    (by_table (judge (A.Rank k) t) (oldest_is t 0 (A.Rank k) None))
  where
    by_table : {x : Result Unit Refusal} {o : Option Oldest} → Judged t x → OldestIs t 0 (A.Rank k) None o → PlaceTold t k (told_maybe (unless x (place_in o)))
    by_table (ill f) o = Tables.refuses f
    by_table (well g) (hit m l f p less all) =
        let z : 0 + m ≡ m = omega arith in rw (p, z) (Tables.lies g (l, f.0) (eqb-true (rank_at t m) k f.1))
    by_table (well g) (miss q all) =
        rw q (Tables.nowhere g (λ a b.
        let n = tally_some k t (let o = g.sound.once k a b in omega (arith, o)) in let y = n.1.1 in
        unlike (all n.0 n.1.0 (omega (arith, y, a), eq-eqb (rank_at t n.0) k y))))
