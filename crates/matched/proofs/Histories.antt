-- Histories, by induction over their steps: each step acts as the list's, and taken in equals answered plus waiting because a taken request is one more
-- that waits, an answered one is one less, and nothing else changes their number. Assumes nothing.
use Prim.Native.Nat.{ℕ, ◌+◌, ◌<◌, ◌≤◌}
use native.Mathlib.Omega.{arith}
use mathlib.Core.Path.{◌≡◌, refl, ap}
use mathlib.Core.Bool.{cond}
use mathlib.Core.List.{List, map}
use lib.ListN.{length, replicate, length-replicate, get_or-replicate}
use Rattle.text.specs.Told.{is}
use Rattle.entry.specs.declared.Entry.{Entry}
use Rattle.slots.specs.declared.Four.{Four}
use Rattle.slots.specs.declared.Slot.{Slot}
use Rattle.slots.specs.declared.ask.Ask.{Ask}
use Rattle.slots.specs.Ask.{ask_of}
use Rattle.slots.specs.Decide.{free_slot}
use Rattle.pending.specs.Table.{rank_at, waiting, Sized, Table}
use Rattle.pending.specs.Step.{Answer, newcomer}
use Rattle.pending.specs.Words.{report_told}
use Rattle.matched.specs.Requests.{next_of, words_of, left_of}
use Rattle.matched.specs.Holds.{Holds, Empty}
use Rattle.matched.specs.History.{History, none, more, is_taken, is_answered, how_many, taken_in, answered_in}
use Rattle.matched.proofs.Counts.{waiting_none, waiting_take, waiting_free}
use Rattle.matched.proofs.Does.{Does, dropped, other, no_seq, taken, turned_away, answered, stray, Judged, refuses, does, judged}
use Rattle.matched.proofs.Lists.{table_passes}
use Rattle.matched.proofs.Acts.{same_size, acts_as_list, stays_a_table, empty_is_a_table}

step_counts : (t u : List Slot) (a : Ask) (r : Answer) → Table t → Does t a r u → waiting t + cond (is_taken r) 1 0 ≡ cond (is_answered r) 1 0 + waiting u
step_counts t u a r g dropped = omega arith
step_counts t u a r g other = omega arith
step_counts t u a r g no_seq = omega arith
step_counts t u a r g (taken {four} {i} f) = let m = waiting_take (newcomer t four) (omega arith) t i f.within f.free in omega arith
step_counts t u a r g (turned_away f) = omega arith
step_counts t u a r g (answered {four} {i} o) =
    let w = o.waits.1 in let m = waiting_free (rank_at t i) w t in
    let n = g.sound.once (rank_at t i) w (g.sound.within i o.waits.0) in omega arith
step_counts t u a r g (stray f) = omega arith

pub counted : (es : List Entry) (t u : List Slot) (rs : List Answer) → Table t → History es t rs u → waiting t + taken_in rs ≡ answered_in rs + waiting u
unfolding how_many
counted es t u rs g none = omega arith
counted es t u rs g (more {e} {es = es₁} {r} {rs = rs₁} {t₁} step h) =
    let m = counted es₁ t₁ u rs₁ (stays_a_table e t t₁ r g step) h in let n = by (judged step) in omega arith
  where
    by : Judged t (ask_of e) r t₁ → waiting t + cond (is_taken r) 1 0 ≡ cond (is_answered r) 1 0 + waiting t₁
    by (refuses n p v) = table_passes g n
    by (does k d) = step_counts t t₁ (ask_of e) r g d

-- step by step, the tables and the lists go together
pub replays_as_list : (es : List Entry) (t u : List Slot) (rs : List Answer) (l : List Four) → Sized t → Holds t l → History es t rs u
    → (map report_told rs ≡ map is (words_of (length t) es l)) × Holds u (left_of (length t) es l)
unfolding words_of left_of
replays_as_list es t u rs l s hold none = (refl, hold)
replays_as_list es t u rs l s hold (more {e} {es = es₁} {r} {rs = rs₁} {t₁} step h) =
    let a = acts_as_list e t t₁ r l s hold step in let n : length t₁ ≡ length t = same_size e t t₁ r step in
    let p = s.0 in let q = s.1 in
    let m = replays_as_list es₁ t₁ u rs₁ (next_of (length t) (ask_of e) l) (omega arith, omega arith) a.1 h in
    let k = rw n at m in (rw (a.0, k.0), k.1)

pub from_empty : (es : List Entry) (t u : List Slot) (rs : List Answer) → Sized t → Empty t → History es t rs u → taken_in rs ≡ answered_in rs + waiting u
from_empty es t u rs s z h = let m = counted es t u rs (empty_is_a_table t s z) h in let n = waiting_none t z in omega arith

pub cleared_is_empty : (n : ℕ) → Empty (replicate n free_slot)
cleared_is_empty n i h = let m = length-replicate n free_slot in ap (λ (s : Slot). s.rank) (get_or-replicate n i free_slot free_slot (omega arith))

pub cleared_is_a_table : (n : ℕ) → 0 < n → n ≤ 64 → Table (replicate n free_slot)
cleared_is_a_table n a b =
    let m = length-replicate n free_slot in empty_is_a_table (replicate n free_slot) (omega arith, omega arith) (cleared_is_empty n)
