-- Numbers 15, 18, 16 and 17, in this order: the dwords of a payload, and the slots they go into.
use Rattle.refusal.specs.declared.Refusal.{Refusal}
use Rattle.refusal.specs.Told.{told}
use Rattle.std.specs.Prelude.{ℕ, ◌≡◌, Bool, false, cond, List, [], ltb, length, None, Option, Result, Some}
use Rattle.text.specs.Told.{Told, is, absent, refused}
use Rattle.text.specs.Quote.{bytes}
use Rattle.pairs.specs.Pair.{last_pair}
use Rattle.pairs.specs.Data.{data_of, bad_data, filled}
use Rattle.scan.specs.declared.Pieces.{Pieces}
use Rattle.scan.specs.declared.Pieces.TheVariants.{Strict, Lenient}
use Rattle.scan.specs.Need.{need}
use Rattle.scan.specs.Body.{text_at}

-- the dwords of the last pair of `data`
unfoldable pub payload_data : List ℕ → Option (List ℕ)
payload_data p = need None (text_at p (last_pair p (bytes "data"))) data_of

-- is a piece of the last pair of `data` bad?
unfoldable pub payload_bad : List ℕ → Bool
payload_bad p = need false (text_at p (last_pair p (bytes "data"))) bad_data

-- is a line refused, by whether a piece of its data is bad? This is all that strict and lenient differ in
unfoldable pub refuses : Pieces → Bool → Bool
refuses Strict bad = bad
refuses Lenient bad = false

-- 16 counts dwords, then 17 the slots
abbrev pub data16 : ℕ → List ℕ → Told ℕ
data16 room ds = cond (ltb 256 (length ds)) (refused 16) (cond (ltb room (length ds)) (refused 17) (is (length ds)))

-- 18 before them: whether the choice refuses the pieces
abbrev pub data18 : Bool → ℕ → List ℕ → Told ℕ
data18 refused-piece room ds = cond refused-piece (refused 18) (data16 room ds)

-- numbers 15, 18, 16 and 17 in this order, or the count of dwords
unfoldable pub data_answer : Pieces → List ℕ → ℕ → Told ℕ
data_answer pieces p room = need (refused 15) (payload_data p) (data18 (refuses pieces (payload_bad p)) room)

-- the dwords, none where there is no data
abbrev pub or_empty : Option (List ℕ) → List ℕ
or_empty (Some ds) = ds
or_empty None = []

-- the slots by what is told: success writes the dwords from the first and no others, a refusal none
unfoldable pub data_slots : Told ℕ → List ℕ → List ℕ → List ℕ
data_slots (is n) ds out = filled ds out
data_slots absent ds out = out
data_slots (refused k) ds out = out

-- the answer, and each slot
pub record DataRead (pieces : Pieces) (p out exit : List ℕ) (r : Result ℕ Refusal) : Type 0 where
  pub answer : told r ≡ data_answer pieces p (length out)
  pub slots : exit ≡ data_slots (told r) (or_empty (payload_data p)) out
