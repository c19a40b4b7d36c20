-- Texts that wait in a buffer, and rows that were written whole.
use Rattle.std.specs.Prelude.{ℕ, ◌+◌, ◌-◌, ◌^◌, ◌≤◌, ◌<◌, min, ◌≡◌, true, cond, List, [], ◌∷◌, eqb, length, take, Option, Some, None, is_some, Result, Ok, Err}
use Rattle.std.proofs.lemmas.List.Edits.{sets}
use Rattle.channel.specs.declared.fault.Fault.{Fault}
use Rattle.channel.specs.declared.writing.Cut.{Cut}
use Rattle.channel.specs.declared.sink.Sink.{Sink}
use Rattle.channel.specs.declared.sink.Outlet.{Outlet}

-- a newline ends one row, and no other byte ends any
unfoldable pub row_end : ℕ → ℕ
row_end b = cond (eqb b 10) 1 0

-- how many rows end in a text
unfoldable pub rows_in : List ℕ → ℕ
rows_in [] = 0
rows_in (b ∷ s) = row_end b + rows_in s

-- how many bytes of a text were written, and the fault that kept the others
abbrev pub bytes_of : Result ℕ Cut → ℕ
bytes_of (Ok n) = n
bytes_of (Err cut) = cut.bytes

abbrev pub fault_of : Result ℕ Cut → Option Fault
fault_of (Ok n) = None
fault_of (Err cut) = Some cut.fault

-- nothing waits; the rows that ended in what was written of a text are counted, and its fault is kept
pub record Counted (text : List ℕ) (whole : ℕ) (wrote : Result ℕ Cut) (r : Sink) : Type 0 where
  pub empty : r.at ≡ 0
  pub rows : r.whole ≡ min (whole + rows_in (take (bytes_of wrote) text)) (2 ^ 64 - 1)
  pub fault : r.fault ≡ fault_of wrote

-- nothing waits; the rows that ended in what was written are counted; there is no fault exactly when all of the text was written
pub record Passed (text : List ℕ) (whole : ℕ) (r : Sink) : Type 0 where
  pub bytes : ℕ
  pub within : bytes ≤ length text
  pub all : r.fault ≡ None → bytes ≡ length text
  pub cut : is_some r.fault ≡ true → bytes < length text
  pub empty : r.at ≡ 0
  pub rows : r.whole ≡ min (whole + rows_in (take bytes text)) (2 ^ 64 - 1)

-- what waited was passed on; after a write that failed nothing is
pub record Flushed (out : List ℕ) (sink r : Sink) : Type 0 where
  pub after_fault : is_some sink.fault ≡ true → r ≡ sink
  pub passed : sink.fault ≡ None → Passed (take (min sink.at (length out)) out) sink.whole r

-- the text stands in the buffer from a place on, all else as found, and waits there
pub record Waits (out : List ℕ) (at : ℕ) (text exit : List ℕ) (whole : ℕ) (r : Sink) : Type 0 where
  pub buffer : exit ≡ sets out at text
  pub place : r.at ≡ at + length text
  pub rows : r.whole ≡ whole
  pub sound : r.fault ≡ None

-- after a write that failed nothing is put; where there is room the text waits behind what waited; else what waited is written and the text waits alone, or goes out by itself where the buffer is too short for it
pub record Said (out : List ℕ) (sink : Sink) (text exit : List ℕ) (r : Sink) : Type 0 where
  pub after_fault : is_some sink.fault ≡ true → (r ≡ sink) × (exit ≡ out)
  pub behind : sink.fault ≡ None → sink.at + length text ≤ length out → Waits out sink.at text exit sink.whole r
  pub alone : sink.fault ≡ None → sink.at ≤ length out → length out < sink.at + length text → length text ≤ length out → r.fault ≡ None →
      Waits out 0 text exit (min (sink.whole + rows_in (take sink.at out)) (2 ^ 64 - 1)) r
  pub past : sink.fault ≡ None → length out < length text → r.at ≡ 0
  pub within : sink.at ≤ length out → r.at ≤ length out

-- an outlet's buffer is the one that was lent, and as long, and what waited within it waits within it
pub record Kept (s r : Outlet) : Type 0 where
  pub to : r.to ≡ s.to
  pub same : r.out.ghost_name ≡ s.out.ghost_name
  pub size : length r.out.now ≡ length s.out.now
  pub within : s.sink.at ≤ length s.out.now → r.sink.at ≤ length r.out.now

-- what waited in an outlet was passed on, and its buffer is as found; after a write that failed all is
pub record FlushedThrough (s r : Outlet) : Type 0 where
  pub after_fault : is_some s.sink.fault ≡ true → r ≡ s
  pub flushed : Flushed s.out.now s.sink r.sink
  pub buffer : r.out.now ≡ s.out.now
  pub kept : Kept s r

-- a text was said through an outlet; after a write that failed all is as found
pub record SaidThrough (s : Outlet) (text : List ℕ) (r : Outlet) : Type 0 where
  pub after_fault : is_some s.sink.fault ≡ true → r ≡ s
  pub said : Said s.out.now s.sink text r.out.now r.sink
  pub kept : Kept s r
