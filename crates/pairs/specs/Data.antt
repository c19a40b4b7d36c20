-- The dwords of a bracketed value.
use Rattle.std.specs.Prelude.{ℕ, zero, suc, ◌+◌, ◌-◌, ◌≤◌, ◌<◌, ◌^◌, ◌≡◌, Bool, true, false, cond, ◌&&◌, ◌||◌, List, [], ◌∷◌, ◌++◌, ltb, eqb, length, get_or, take, drop, IfSome, None, Option, Some}
use Rattle.text.specs.declared.class.Class.TheVariants.{NotClose}
use Rattle.text.specs.Class.{in_class}
use Rattle.text.specs.Number.{HexNumber, hex_number_of}
use Rattle.text.specs.Place.{is_at, first_in}
use Rattle.text.specs.Run.{Inside, run_end}
use Rattle.pairs.specs.declared.pair.Span.{Span}
use Rattle.pairs.specs.declared.dwords.NextPiece.{NextPiece}
use Rattle.pairs.specs.declared.dwords.Tally.{Tally}
use Rattle.pairs.specs.Pair.{part, span}

-- no comma-space stands in the piece
abbrev pub Whole : List ℕ → Type 0
Whole p = (k : ℕ) → get_or p k 0 ≡ 44 → get_or p (k + 1) 0 ≡ 32 → ⊥

-- the text is cut into these pieces at each comma-space
pub data Cut : List ℕ → List (List ℕ) → Type 0 where
  last : {l : List ℕ} → Whole l → Cut l (l ∷ [])
  more : {l p r : List ℕ} {ps : List (List ℕ)} → Whole p → l ≡ p ++ (44 ∷ 32 ∷ r) → Cut r ps → Cut l (p ∷ ps)

-- pieces, each with the comma-space behind it
unfoldable pub joined : List (List ℕ) → List ℕ
joined [] = []
joined (p ∷ ps) = p ++ (44 ∷ 32 ∷ joined ps)

-- the piece of that number, from 0, and where it stands: from a up to b, behind the pieces before it
pub record PieceIn (pieces : List (List ℕ)) (i : ℕ) (piece : List ℕ) (a b : ℕ) : Type 0 where
  pub before : List (List ℕ)
  pub after : List (List ℕ)
  pub are : pieces ≡ before ++ (piece ∷ after)
  pub count : length before ≡ i
  pub starts : a ≡ length (joined before)
  pub ends : b ≡ a + length piece

-- a piece that is not 32-bit hex
abbrev pub NoDword : List ℕ → Type 0
NoDword p = (v : ℕ) → HexNumber (2 ^ 32 - 1) p v → ⊥

-- the dwords of the pieces, in order: those that are not 32-bit hex are left out
pub data Dwords : List (List ℕ) → List ℕ → Type 0 where
  empty : Dwords [] []
  dword : {p : List ℕ} {v : ℕ} {ps : List (List ℕ)} {ds : List ℕ} → HexNumber (2 ^ 32 - 1) p v → Dwords ps ds →
      Dwords (p ∷ ps) (v ∷ ds)
  left_out : {p : List ℕ} {ps : List (List ℕ)} {ds : List ℕ} → NoDword p → Dwords ps ds → Dwords (p ∷ ps) ds

-- one of the pieces is not 32-bit hex
pub record BadAmong (pieces : List (List ℕ)) : Type 0 where
  pub before : List (List ℕ)
  pub piece : List ℕ
  pub after : List (List ℕ)
  pub are : pieces ≡ before ++ (piece ∷ after)
  pub bad : NoDword piece

-- a value in brackets, with the dwords of what stands in them
pub record Data (value ds : List ℕ) : Type 0 where
  pub inner : List ℕ
  pub brackets : value ≡ 91 ∷ inner ++ (93 ∷ [])
  pub some : 0 < length inner
  pub no_close : Inside (in_class NotClose) inner 0 (length inner)
  pub pieces : List (List ℕ)
  pub cut_at : Cut inner pieces
  pub dwords : Dwords pieces ds

-- a byte in front of the first piece
unfoldable pub ahead : ℕ → List (List ℕ) → List (List ℕ)
ahead b [] = (b ∷ []) ∷ []
ahead b (p ∷ ps) = (b ∷ p) ∷ ps

-- the pieces between comma-spaces
unfoldable pub cut : List ℕ → List (List ℕ)
cut [] = [] ∷ []
cut (a ∷ []) = (a ∷ []) ∷ []
cut (a ∷ b ∷ l) = cond (eqb a 44 && eqb b 32) ([] ∷ cut l) (ahead a (cut (b ∷ l)))

-- what a piece is
unfoldable pub piece_of : List ℕ → Option ℕ
piece_of p = (hex_number_of (2 ^ 32 - 1) p)

-- what a piece adds to the dwords of those behind it
unfoldable pub taken : Option ℕ → List ℕ → List ℕ
taken (Some v) ds = v ∷ ds
taken None ds = ds

-- the dwords of the pieces
unfoldable pub dwords_in : List (List ℕ) → List ℕ
dwords_in [] = []
dwords_in (p ∷ ps) = taken (piece_of p) (dwords_in ps)

-- the dwords of a text between brackets
unfoldable pub dwords_of : List ℕ → List ℕ
dwords_of l = dwords_in (cut l)

-- is a piece bad?
unfoldable pub is_bad : Option ℕ → Bool
is_bad (Some v) = false
is_bad None = true

-- is one of the pieces bad?
unfoldable pub any_bad : List (List ℕ) → Bool
any_bad [] = false
any_bad (p ∷ ps) = is_bad (piece_of p) || any_bad ps

-- is a piece of a text between brackets bad?
unfoldable pub bad_of : List ℕ → Bool
bad_of l = any_bad (cut l)

-- a comma-space stands at place k
unfoldable pub comma_space : List ℕ → ℕ → Bool
comma_space l k = is_at 44 l k && is_at 32 l (k + 1)

-- where the piece from a place on ends: at the next comma-space, else with the text
unfoldable pub piece_end : List ℕ → ℕ → ℕ
piece_end l from = first_in (comma_space l) (length l) from

-- the i-th of the pieces from a place on: the next ones start behind the comma-space that ends the one before
unfoldable pub nth_piece : ℕ → List ℕ → ℕ → Option Span
nth_piece zero l from = span from (piece_end l from)
nth_piece (suc i) l from = cond (ltb (piece_end l from) (length l)) (nth_piece i l (piece_end l from + 2)) None

-- what stands between the brackets of a value
unfoldable pub inside_of : List ℕ → Option Span
inside_of value =
    let c : ℕ = run_end (in_class NotClose) value 1 in
    cond (is_at 91 value 0 && ltb 1 c && eqb (c + 1) (length value)) (span 1 c) None

-- the dwords of a part
unfoldable pub data_in : List ℕ → Option Span → Option (List ℕ)
data_in value (Some w) = Some (dwords_of (part value w.from w.to))
data_in value None = None

-- the dwords of a value in brackets
unfoldable pub data_of : List ℕ → Option (List ℕ)
data_of value = data_in value (inside_of value)

-- is a piece of a part bad?
unfoldable pub bad_in : List ℕ → Option Span → Bool
bad_in value (Some w) = bad_of (part value w.from w.to)
bad_in value None = false

-- is a piece of a value in brackets bad?
unfoldable pub bad_data : List ℕ → Bool
bad_data value = bad_in value (inside_of value)

-- the dwords in the first slots, and the rest as found
abbrev pub filled : List ℕ → List ℕ → List ℕ
filled ds out = ds ++ drop (length ds) out

-- an answer is what stands between the brackets, and lies within the value
pub record Bracketed (value : List ℕ) (r : Option Span) : Type 0 where
  pub is : r ≡ inside_of value
  pub within : IfSome r (λ w. (w.from < w.to) × (w.to ≤ length value))

-- an answer is the piece's end; a comma-space stands there, or the text ends
pub record EndsPiece (l : List ℕ) (from e : ℕ) : Type 0 where
  pub is : e ≡ piece_end l from
  pub up : from ≤ e
  pub within : e ≤ length l
  pub more : e < length l → e + 2 ≤ length l

-- an answer is the i-th piece, and lies within the text
pub record NthPiece (l : List ℕ) (i : ℕ) (r : Option Span) : Type 0 where
  pub is : r ≡ nth_piece i l 0
  pub within : IfSome r (λ w. (w.from ≤ w.to) × (w.to ≤ length l))

-- an answer is the number of dwords, and whether a piece is bad
pub record Tallied (inner : List ℕ) (r : Tally) : Type 0 where
  pub dwords_are : r.dwords ≡ length (dwords_of inner)
  pub bad_is : r.bad ≡ bad_of inner

-- an answer is the piece from a place on: its end, and what it is
pub record PieceHere (l : List ℕ) (from : ℕ) (r : NextPiece) : Type 0 where
  pub ends : EndsPiece l from r.end
  pub is : piece_of (part l from r.end) ≡ r.dword

-- an answer tallies the pieces; their dwords stand from the first place on, as many as there are places, and the other places are as found
pub record Taken (inner own exit : List ℕ) (r : Tally) : Type 0 where
  pub tally : Tallied inner r
  pub kept : exit ≡ filled (take 256 (dwords_of inner)) own
