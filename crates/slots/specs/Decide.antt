-- What is done with what was found.
use Rattle.refusal.specs.declared.Refusal.{Refusal}
use Rattle.std.specs.Prelude.{ℕ, ◌+◌, ◌-◌, ◌^◌, ◌/◌, Bool, false, cond, ◌||◌, eqb, ltb, Err, None, Ok, Option, Result, Some}
use Rattle.slots.specs.declared.Four.{Four}
use Rattle.slots.specs.declared.Slot.{Slot}
use Rattle.slots.specs.declared.ask.Ask.{Ask}
use Rattle.slots.specs.declared.ask.Ask.TheVariants as A
use Rattle.slots.specs.declared.look.Ranks.{Ranks}
use Rattle.slots.specs.declared.look.Seen.{Seen}
use Rattle.slots.specs.declared.decide.Report.{Report}
use Rattle.slots.specs.declared.decide.Report.TheVariants as R
use Rattle.slots.specs.declared.decide.Change.TheVariants as C
use Rattle.slots.specs.declared.decide.Plan.{Plan}
use Rattle.slots.specs.declared.look.Oldest.{Oldest}

-- a slot of an empty table
abbrev pub free_slot : Slot
free_slot = record { four = record { route = 0; domain = 0; seq = 0; write = 0 }; rank = 0 }

abbrev pub still_of : Report → Plan
still_of report = record { change = C.Nothing; report = report }

abbrev pub take_of : ℕ → ℕ → Four → Plan
take_of at rank four = record { change = C.Put at (record { four = four; rank = rank }); report = R.Taken at }

abbrev pub free_of : ℕ → ℕ → Plan
free_of place rank = record { change = C.Free rank; report = R.Answered place }

-- the first free place, if there is one below the size
abbrev pub free_in : ℕ → ℕ → Option ℕ
free_in free size = cond (ltb free size) (Some free) None

abbrev pub request_at : Option ℕ → ℕ → Four → Plan
request_at (Some i) count four = cond (ltb count 64) (take_of i (count + 1) four) (still_of R.TurnedAway)
request_at None count four = still_of R.TurnedAway

unfoldable pub request_of : Seen → Four → Plan
request_of a four = request_at (free_in a.free a.size) a.ranks.count four

abbrev pub response_to : Option Oldest → Plan
response_to (Some o) = free_of o.place o.rank
response_to None = still_of R.Stray

unfoldable pub response_of : Seen → Plan
response_of a = response_to a.oldest

unfoldable pub ones_of : ℕ → ℕ
ones_of c = cond (eqb c 0) 0 (cond (ltb 63 c) (2 ^ 64 - 1) ((2 ^ 64 - 1) / 2 ^ (64 - c)))

unfoldable pub sound_of : Ranks → Bool
sound_of r = cond r.well (eqb r.mask (ones_of r.count)) false

-- the refusal of a table, if any
unfoldable pub check_of : Seen → Result Unit Refusal
check_of a = cond (eqb a.size 0 || ltb 64 a.size) (Err Refusal.TableSize) (cond (sound_of a.ranks) (Ok tt) (Err Refusal.BrokenTable))

abbrev pub judged : Seen → Ask → Plan
judged a A.Dropped = still_of R.Dropped
judged a A.Other = still_of R.Other
judged a A.NoSeq = still_of R.NoSeq
judged a (A.Request four) = request_of a four
judged a (A.Response four) = response_of a
judged a (A.Rank k) = still_of R.Other

-- what is said of a table that is not refused, or its refusal
abbrev pub unless : {X : Type 0} → Result Unit Refusal → X → Result X Refusal
unless (Ok u) x = Ok x
unless (Err r) x = Err r

unfoldable pub decide_of : Seen → Result Plan Refusal
decide_of a = unless (check_of a) (judged a a.ask)

unfoldable pub count_of : Seen → Result ℕ Refusal
count_of a = unless (check_of a) a.ranks.count

abbrev pub place_in : Option Oldest → Option ℕ
place_in (Some o) = Some o.place
place_in None = None

unfoldable pub place_of : Seen → Result (Option ℕ) Refusal
place_of a = unless (check_of a) (place_in a.oldest)

-- the rank of a slot once another rank is freed; rank 0 frees nothing
unfoldable pub lower_of : ℕ → ℕ → ℕ
lower_of freed mine = cond (eqb freed 0) mine (cond (eqb mine freed) 0 (cond (ltb freed mine) (mine - 1) mine))

abbrev pub lowered_of : ℕ → Slot → Slot
lowered_of freed s = record { four = s.four; rank = lower_of freed s.rank }
