-- The word run that starts at a place of a payload: its end, and whose key it is.
use Rattle.std.specs.Prelude.{ℕ, suc, ◌+◌, ◌*◌, ◌-◌, ◌^◌, ◌%◌, ◌≤◌, ◌<◌, ◌≡◌, cond, List, [], ◌∷◌, ◌++◌, eqb, length, get_or}
use Rattle.text.specs.Class.{is_word}
use Rattle.text.specs.Place.{is_at}
use Rattle.text.specs.Run.{EndsAt}
use Rattle.text.specs.Word.{word_of}
use Rattle.pairs.specs.declared.keys.Form.TheVariants.{Text}
use Rattle.walk.specs.declared.start.Start.{Start}
use Rattle.walk.specs.declared.start.Candidate.{Candidate}
use Rattle.pairs.specs.Pair.{part}
use Rattle.pairs.specs.Table.{Row, keys, row_at, key_named}

-- the number that two bytes of s from i on choose a row by
unfoldable pub chosen_at : List ℕ → ℕ → ℕ
chosen_at s i = (get_or s i 0 + get_or s (i + 1) 0) % 32

-- a name and its `=`
abbrev pub with_equals : List ℕ → List ℕ
with_equals name = name ++ (61 ∷ [])

-- a row, numbered k, as it stands in a text
unfoldable pub candidate_for : ℕ → Row → Candidate
candidate_for k q =
    record {
      want = word_of (with_equals q.name);
      mask = 2 ^ (8 * suc (length q.name)) - 1;
      size = suc (length q.name);
      row = k;
      form = q.form;
    }

-- what a number chooses behind these rows, which are numbered from k on: a row takes the number of its own name
unfoldable pub candidate_after : ℕ → ℕ → List Row → Candidate → Candidate
candidate_after chosen k [] c = c
candidate_after chosen k (q ∷ qs) c =
    candidate_after chosen (suc k) qs (cond (eqb (chosen_at q.name 0) chosen) (candidate_for k q) c)

-- what a number chooses: a row of the table, the first one where no name has the number
unfoldable pub candidate_of : ℕ → Candidate
candidate_of chosen = candidate_after chosen 0 keys (candidate_for 0 (row_at 0))

-- a word run that ends at m and is no key of ours: of the row behind the table if an `=` follows, else of none
unfoldable pub other_start : List ℕ → ℕ → Start
other_start s m = record { row = cond (is_at 61 s m) (length keys) (suc (length keys)); form = Text; end = m }

-- an answer is the end of the word run from i; an `=` follows exactly where the answer has a row, and then it is the row and form of the run's text
pub record Started (s : List ℕ) (i : ℕ) (r : Start) : Type 0 where
  pub ends : EndsAt is_word s i r.end
  pub fits : r.row ≤ suc (length keys)
  pub no_key : r.row ≡ suc (length keys) → get_or s r.end 0 ≡ 61 → ⊥
  pub sign : r.row < suc (length keys) → get_or s r.end 0 ≡ 61
  pub named : r.row < suc (length keys) → key_named (part s i r.end) ≡ record { row = r.row; form = r.form }
