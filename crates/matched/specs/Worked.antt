-- One history over two slots, step by step, and tables that are refused: what a reader can check by hand.
use Rattle.std.specs.Prelude.{ℕ, ◌+◌, ◌^◌, ◌≡◌, Bool, true, false, List, [], ◌∷◌, replicate, None, Option, Some, Ok, Err}
use Rattle.refusal.specs.declared.Refusal.TheVariants as N
use Rattle.entry.specs.declared.Entry.{Entry}
use Rattle.slots.specs.declared.Slot.{Slot}
use Rattle.slots.specs.declared.decide.Report.TheVariants as R
use Rattle.slots.specs.Decide.{free_slot}
use Rattle.pending.specs.Table.{waiting, Table}
use Rattle.pending.specs.Step.{Answer, Step}
use Rattle.matched.specs.History.{History, taken_in, answered_in}

-- an entry of a kind, dropped or not, with domain, route and `seq`; what else an entry says is the same for all
abbrev pub entry : ℕ → Bool → ℕ → ℕ → Option ℕ → Entry
entry kind dropped domain route seq =
    record {
      task_at = 0;
      task_len = 1;
      pid = 1;
      cpu = 0;
      seconds = 0;
      microseconds = 0;
      function_at = 3;
      function_len = 1;
      kind = kind;
      size = 3;
      dropped = dropped;
      domain = domain;
      route = route;
      offset = None;
      code = None;
      len = None;
      port = None;
      config = None;
      seq = seq;
      unplug = None;
      dwords = 3;
    }

-- a slot with domain, route, `seq`, read (0) or write (1), and its rank
abbrev pub slot : ℕ → ℕ → ℕ → ℕ → ℕ → Slot
slot domain route seq write rank = record { four = record { route = route; domain = domain; seq = seq; write = write }; rank = rank }

-- the entries in file order
abbrev pub entries : List Entry
entries =
    -- 1, 2: the same request twice
    entry 1 false 0 7 (Some 5)
    ∷ entry 1 false 0 7 (Some 5)
    -- 3: a third has no slot
    ∷ entry 3 false 0 7 (Some 5)
    -- 4: a response of another domain
    ∷ entry 2 false 1 7 (Some 5)
    -- 5: a write's response, where reads wait
    ∷ entry 4 false 0 7 (Some 5)
    -- 6: the response, its route with the top bit
    ∷ entry 2 false 0 (2 ^ 63 + 7) (Some 5)
    -- 7: a dropped request
    ∷ entry 1 true 0 9 (Some 6)
    -- 8: another request
    ∷ entry 3 false 1 9 (Some 6)
    -- 9: its response, before that of the older one
    ∷ entry 4 false 1 9 (Some 6)
    -- 10: that request again
    ∷ entry 3 false 1 9 (Some 6)
    -- 11: an error, which neither asks nor answers
    ∷ entry 5 false 0 7 (Some 5)
    -- 12: a request without `seq`
    ∷ entry 1 false 0 7 None
    -- 13: a dropped response
    ∷ entry 2 true 0 7 (Some 5)
    -- 14, 15: the response to the older one, twice
    ∷ entry 2 false 0 7 (Some 5)
    ∷ entry 2 false 0 7 (Some 5)
    ∷ []

-- their reports
abbrev pub reports : List Answer
reports =
    -- 1, 2: the first free slot each time
    Ok (R.Taken 0)
    ∷ Ok (R.Taken 1)
    -- 3: no slot is free
    ∷ (Ok R.TurnedAway)
    -- 4, 5: no slot has the four
    ∷ (Ok R.Stray)
    ∷ (Ok R.Stray)
    -- 6: of the two that have it the oldest
    ∷ Ok (R.Answered 0)
    -- 7
    ∷ (Ok R.Dropped)
    -- 8: the freed slot again
    ∷ Ok (R.Taken 0)
    -- 9: the younger one; the older one stays where it is
    ∷ Ok (R.Answered 0)
    -- 10
    ∷ Ok (R.Taken 0)
    -- 11, 12
    ∷ (Ok R.Other)
    ∷ (Ok R.NoSeq)
    -- 13: it frees nothing
    ∷ (Ok R.Dropped)
    -- 14: the second of the first two
    ∷ Ok (R.Answered 1)
    -- 15: its four still stand in slot 1, but none waits there
    ∷ (Ok R.Stray)
    ∷ []

-- the write of step 10 waits still, the oldest by now
abbrev pub left : List Slot
left = slot 1 9 6 1 1 ∷ slot 0 7 5 0 0 ∷ []

pub record Worked : Type 0 where
  -- Over two cleared slots these entries are so reported and leave this table.
  pub history : History entries (replicate 2 free_slot) reports left
  -- No other reports and no other table are possible.
  pub worked_only : (rs : List Answer) (u : List Slot) → History entries (replicate 2 free_slot) rs u → (rs ≡ reports) × (u ≡ left)
  -- Four were taken in.
  pub taken_in : taken_in reports ≡ 4
  -- Three are answered.
  pub answered_in : answered_in reports ≡ 3
  -- One waits.
  pub waits : waiting left ≡ 1
  -- No slot: 50, whatever the entry.
  pub no_slot : (e : Entry) → Step e [] (Err N.TableSize) []
  -- 65 slots: 50.
  pub too_many : (e : Entry) → Step e (replicate 65 free_slot) (Err N.TableSize) (replicate 65 free_slot)
  -- 50 comes first: 65 slots that carry rank 1 each.
  pub too_many_and_broken : (e : Entry) → Step e (replicate 65 (slot 0 7 5 0 1)) (Err N.TableSize) (replicate 65 (slot 0 7 5 0 1))
  -- Rank 2 without rank 1: 51, whatever the entry.
  pub rank_missing : (e : Entry) → Step e (slot 0 7 5 0 2 ∷ []) (Err N.BrokenTable) (slot 0 7 5 0 2 ∷ [])
  -- A rank twice: 51.
  pub rank_twice : (e : Entry) → Step e (slot 0 7 5 0 1 ∷ slot 0 9 5 0 1 ∷ []) (Err N.BrokenTable) (slot 0 7 5 0 1 ∷ slot 0 9 5 0 1 ∷ [])
  -- A waiting slot's route with its top bit set: 51.
  pub top_bit : (e : Entry) → Step e (slot 0 (2 ^ 63) 5 0 1 ∷ []) (Err N.BrokenTable) (slot 0 (2 ^ 63) 5 0 1 ∷ [])
  -- A waiting slot that neither reads nor writes: 51.
  pub neither_direction : (e : Entry) → Step e (slot 0 7 5 2 1 ∷ []) (Err N.BrokenTable) (slot 0 7 5 2 1 ∷ [])
  -- Of a free slot nothing but its rank is judged.
  pub free_slot_unjudged : Table (slot 0 (2 ^ 63) 5 2 0 ∷ [])
