-- Calls one after the other on the parts of an input, and what is promised of them.
-- How to read it: `a ≡ b` is "a equals b"; `P → Q` "if P then Q"; `(x : A) → P` "for every x, P"; `P × Q` "P and Q"; `(x : A) × P` "there is an x so that P"; `a ++ b` is a and then b.
use Rattle.std.specs.Prelude.{ℕ, ◌^◌, ◌<◌, ◌≡◌, List, [], ◌++◌, length, take}
use Rattle.tlv.specs.Number.{Bytes}
use Rattle.scan.specs.declared.Pieces.{Pieces}
use Rattle.units.specs.declared.Framing.{Framing}
use Rattle.units.specs.declared.Framing.TheVariants.{Lines, Both}
use Rattle.units.specs.declared.State.{State}
use Rattle.units.specs.Units.{Units}
use Rattle.units.specs.Feeding.{between}
use Rattle.filters.specs.declared.Filter.{Filter}
use Rattle.filters.specs.declared.Filter.TheVariants as F
use Rattle.filters.specs.declared.Counts.{Counts}
use Rattle.filters.specs.declared.Run.{Run}
use Rattle.filters.specs.Texts.{framing_of}
use Rattle.filters.specs.Calls.{Took, Finished}
use Rattle.whole_output.specs.Output.{listing_of, packing_of, packing_tells, unpacking_of}

-- the counts before the first unit
abbrev pub fresh : Counts
fresh = record { units = 0; entries = 0 }

-- nothing is held of a stream that has not begun
abbrev pub begun : State
begun = record { held = 0; passed = 0 }

-- Calls of `take_some`, one after the other: the bytes that they took, the bytes that they put out and told, and what is held, kept and counted after
-- them. Each call has a part and buffers of its own choice; the unit's buffer has 8,192 bytes, what is held passes from call to call, and so do the state
-- and the counts.
pub data Calls (f : Filter) : List ℕ → List ℕ → List ℕ → List ℕ → State → Counts → Type 0 where
  none : Calls f [] [] [] [] begun fresh
  call : {taken put told held : List ℕ} {st : State} {c : Counts} (s unit out tell : List ℕ) (run : Run) (unit' out' tell' : List ℕ) (r : Run)
      → Calls f taken put told held st c
      → length unit ≡ 8192 → take st.held unit ≡ held → run.state ≡ st → run.counts ≡ c
      → Took f s unit out tell run unit' out' tell' r
      → Calls f (taken ++ between s run.from r.from) (put ++ between out' run.at r.at) (told ++ between tell' run.told r.told) (take r.state.held unit') r.state r.counts

-- An input went through a filter: calls took all of it, and then `finish` was called. All that was put out, in order, and all that was told.
pub record Went (f : Filter) (input put told : List ℕ) : Type 0 where
  -- The input is bytes, as every input is, and has fewer units than 64 bits count.
  pub bytes : Bytes input
  pub few : (us : List (List ℕ)) → Units (framing_of f) input us → length us < 2 ^ 64
  -- The calls took the input.
  pub put_before : List ℕ
  pub told_before : List ℕ
  pub held : List ℕ
  pub state : State
  pub counts : Counts
  pub calls : Calls f input put_before told_before held state counts
  -- The end.
  pub unit : List ℕ
  pub size : length unit ≡ 8192
  pub held_is : take state.held unit ≡ held
  pub out : List ℕ
  pub tell : List ℕ
  pub run : Run
  pub state_passes : run.state ≡ state
  pub counts_pass : run.counts ≡ counts
  pub out' : List ℕ
  pub tell' : List ℕ
  pub r : Run
  pub finish : Finished f unit out tell run out' tell' r
  -- All that was put out and told.
  pub put_is : put ≡ put_before ++ between out' run.at r.at
  pub told_is : told ≡ told_before ++ between tell' run.told r.told

-- However the input is cut into parts, and whatever room each call finds, what is put out in order is the definition for the input's units.
pub record WholeOutput : Type 0 where
  -- Every input has units, lines or lines and records.
  pub has_units : (f : Framing) (s : List ℕ) → (us : List (List ℕ)) × Units f s us
  -- It has one list of them.
  pub one_list : (f : Framing) (s : List ℕ) (us vs : List (List ℕ)) → Units f s us → Units f s vs → us ≡ vs
  -- The listing puts out the listing of the input's lines, and tells nothing beside it.
  pub listing : (input put told : List ℕ) (us : List (List ℕ)) → Went F.Listing input put told → Units Lines input us → (put ≡ listing_of us) × (told ≡ [])
  -- `pack` puts out the records of what the input's lines and records say, read by its choice, and tells which were refused and the totals.
  pub packing : (pieces : Pieces) (input put told : List ℕ) (us : List (List ℕ)) → Went (F.Pack pieces) input put told → Units Both input us
      → (put ≡ packing_of pieces us) × (told ≡ packing_tells pieces us)
  -- `unpack` puts out the listing of the input's lines and records, read by its choice, and tells nothing beside it.
  pub unpacking : (pieces : Pieces) (input put told : List ℕ) (us : List (List ℕ)) → Went (F.Unpack pieces) input put told → Units Both input us
      → (put ≡ unpacking_of pieces us) × (told ≡ [])
