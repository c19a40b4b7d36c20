-- What a call puts out, by the units that end in the bytes that it took.
use Rattle.std.specs.Prelude.{ℕ, ◌+◌, ◌≤◌, ◌≡◌, true, List, ◌++◌, length, take}
use Rattle.listing_rows.specs.Rows.{Put}
use Rattle.units.specs.declared.Unit.{Unit}
use Rattle.units.specs.Units.{Rest, Sofar, closing}
use Rattle.units.specs.Kept.{Keeps, is_kept}
use Rattle.units.specs.Feeding.{between, text_length}
use Rattle.filters.specs.declared.Filter.{Filter}
use Rattle.filters.specs.declared.Run.{Run}
use Rattle.filters.specs.Texts.{framing_of, seen_by, cut_told}
use Rattle.filters.specs.Filter.{out_by, tell_by, out_text, told_text, counted, next_counts, last_out, last_told, after, texts}

-- the texts of a unit that was cut off stand behind what was put out before, no other byte is changed, and the unit is counted
pub record CutPut (f : Filter) (cut : Unit) (unit out told : List ℕ) (run : Run) (out' told' : List ℕ) (r : Run) : Type 0 where
  pub from_is : r.from ≡ run.from
  pub state_is : r.state ≡ run.state
  pub counts_is : r.counts ≡ counted run.counts (seen_by (cut_told f cut unit))
  pub put : Put out run.at (out_by f run.counts (take (text_length cut) unit) (cut_told f cut unit)) out' r.at
  pub tells : Put told run.told (tell_by f run.counts (cut_told f cut unit)) told' r.told
  pub short : r.at ≤ run.at + 5300
  pub told_short : r.told ≤ run.told + 300

-- what the end puts out stands behind what was put out before
pub record LastPut (f : Filter) (out told : List ℕ) (run : Run) (out' told' : List ℕ) (r : Run) : Type 0 where
  pub counts_is : r.counts ≡ run.counts
  pub put : Put out run.at (last_out f run.counts) out' r.at
  pub tells : Put told run.told (last_told f run.counts) told' r.told

-- A call went on with the open unit u: these units have ended since and these bytes are open, of which the unit buffer keeps what a stream keeps;
-- the units are counted, and their texts and no other byte were put out.
pub record WentOn (f : Filter) (u s out told : List ℕ) (run : Run) (unit' out' told' : List ℕ) (r : Run) : Type 0 where
  pub units : List (List ℕ)
  pub since : List ℕ
  pub so_far : Sofar (framing_of f) (u ++ between s run.from r.from) units since
  pub keeps : Keeps (framing_of f) since unit' r.state.held r.state.passed
  pub counts_is : r.counts ≡ after (next_counts f) run.counts units
  pub put : Put out run.at (texts (next_counts f) (out_text f) run.counts units) out' r.at
  pub tells : Put told run.told (texts (next_counts f) (told_text f) run.counts units) told' r.told

-- a call took the part from one place to another; so for every unit that may be open here and is kept so
pub record Took (f : Filter) (s unit out told : List ℕ) (run : Run) (unit' out' told' : List ℕ) (r : Run) : Type 0 where
  pub up : run.from ≤ r.from
  pub within : r.from ≤ length s
  pub kept : is_kept (framing_of f) unit' r.state.held r.state.passed ≡ true
  pub went : (u : List ℕ) → Rest (framing_of f) u → Keeps (framing_of f) u unit run.state.held run.state.passed → WentOn f u s out told run unit' out' told' r

-- the end of the input put out the text of the open unit u, if it has a byte, and what the end puts out
pub record EndPut (f : Filter) (u out told : List ℕ) (run : Run) (out' told' : List ℕ) (r : Run) : Type 0 where
  pub counts_is : r.counts ≡ after (next_counts f) run.counts (closing u)
  pub put : Put out run.at (texts (next_counts f) (out_text f) run.counts (closing u) ++ last_out f (after (next_counts f) run.counts (closing u))) out' r.at
  pub tells : Put told run.told (texts (next_counts f) (told_text f) run.counts (closing u) ++ last_told f (after (next_counts f) run.counts (closing u))) told' r.told

-- so for every unit that may be open here and is kept so
abbrev pub Finished : Filter → List ℕ → List ℕ → List ℕ → Run → List ℕ → List ℕ → Run → Type 0
Finished f unit out told run out' told' r = (u : List ℕ) → Rest (framing_of f) u → Keeps (framing_of f) u unit run.state.held run.state.passed → EndPut f u out told run out' told' r
