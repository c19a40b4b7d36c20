-- The column "required" of the table of keys, both ways: a line has a pair of every key that it must have, since the grammar asks for it; and
-- a line that has these alone is one. Assumes nothing.
use Rattle.std.specs.Prelude.{None, Option, Some}
use Prim.Native.Nat.{ℕ}
use mathlib.Core.Path.{◌≡◌, refl}
use mathlib.Core.Bool.{Bool, true, false, ◌&&◌, ◌||◌}
use mathlib.Core.List.{List, [], ◌∷◌, ◌++◌}
use native.Mathlib.Omega.{arith}
use Rattle.text.specs.Quote.{bytes}
use Rattle.text.specs.Told as T
use Rattle.entry.specs.Entry.{EntryValue}
use Rattle.pairs.specs.declared.pair.Span.{Span}
use Rattle.pairs.specs.Pair.{last_pair}
use Rattle.pairs.specs.Table.{Row, keys}
use Rattle.scan.specs.declared.Pieces.{Pieces}
use Rattle.scan.specs.declared.Pieces.TheVariants.{Strict, Lenient}
use Rattle.scan.specs.Frame.{frame_of}
use Rattle.scan.specs.Line.{KeyText, Line}
use Rattle.scan.specs.Parse.{payload_of, parse_of}
use Rattle.scan.proofs.Cases.{computes, plain_entry}

-- every row of a table is so
pub data Each (P : Row → Type 0) : List Row → Type 0 where
  end : Each P []
  row : {q : Row} {qs : List Row} → P q → Each P qs → Each P (q ∷ qs)

-- a payload has a pair of a key
abbrev pub PairOf : List ℕ → List ℕ → Type 0
PairOf p key = (text : List ℕ) × KeyText p key text

-- what is not required asks for nothing
not_asked : {A : Type 0} → false ≡ true → A
not_asked e = absurd (let z : ◌≡◌ {A = ℕ} 0 1 = cc in omega arith)

pub required_are_there : {pieces : Pieces} {t : List ℕ} {v : EntryValue} (line : Line pieces t v) →
    Each (λ q. q.required ≡ true → PairOf line.payload q.name) keys
unfolding keys
required_are_there line =
    Each.row (λ e. (line.kind.name, line.kind.type))
    (Each.row (λ e. (line.size.text, line.size.found))
    (Each.row (λ e. (line.domain.text, line.domain.found))
    (Each.row (λ e. (line.route.text, line.route.found))
    (Each.row (λ e. (line.dwords.value, line.dwords.found))
    (Each.row not_asked
    (Each.row not_asked
    (Each.row not_asked
    (Each.row not_asked
    (Each.row not_asked
    (Each.row not_asked
    (Each.row not_asked
    (Each.row not_asked Each.end))))))))))))

-- no pair was found
pub is_none : Option Span → Bool
is_none (Some w) = false
is_none None = true

-- of the rows each is required, or the payload has no pair of its key
pub required_alone : List ℕ → List Row → Bool
required_alone p [] = true
required_alone p (q ∷ qs) = (q.required || is_none (last_pair p q.name)) && required_alone p qs

abbrev pub plain_payload : List ℕ
plain_payload = bytes "type=t size=3 domain=0 route=0 data=[1]"

abbrev pub plain_line : List ℕ
plain_line = bytes "a-1 [002] 1.2: f: " ++ plain_payload

-- a line whose payload has the required keys alone is an entry
pub record RequiredSuffice (pieces : Pieces) : Type 0 where
  pub entry : parse_of pieces plain_line 256 ≡ T.is (plain_entry 1)
  pub colon : frame_of plain_line ≡ T.is 16
  pub payload : payload_of plain_line 16 ≡ plain_payload
  pub alone : required_alone plain_payload keys ≡ true

pub required_suffice : (pieces : Pieces) → RequiredSuffice pieces
unfolding computes keys is_none required_alone
required_suffice Strict = record { entry = refl; colon = refl; payload = refl; alone = refl }
required_suffice Lenient = record { entry = refl; colon = refl; payload = refl; alone = refl }
