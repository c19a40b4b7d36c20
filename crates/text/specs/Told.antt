-- What a call tells, whatever enum its answer is: each crate says for each of its answers what each case tells.
-- Assumes nothing.
use Rattle.std.specs.Prelude.{ℕ, zero, suc, None, Option, Some}

-- a value; "none", which is no number; or the one number that refuses
pub data Told (A : Type 0) : Type 0 where
  is : A → Told A
  absent : Told A
  refused : ℕ → Told A

-- a value, or none
abbrev pub maybe : {A : Type 0} → Option A → Told A
maybe (Some a) = is a
maybe None = absent

-- document 01's number, 0 where nothing is refused
abbrev pub number_in : {A : Type 0} → Told A → ℕ
number_in (is a) = 0
number_in absent = 0
number_in (refused k) = k

-- what is told, unless a number comes first
abbrev pub unless : {A : Type 0} → ℕ → Told A → Told A
unless zero told = told
unless (suc k) told = refused (suc k)

-- what a value leads to; "none" and a number stay as they are
abbrev pub and_then : {A B : Type 0} → Told A → (A → Told B) → Told B
and_then (is a) next = next a
and_then absent next = absent
and_then (refused k) next = refused k
