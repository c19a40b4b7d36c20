-- What each answer means, without a search: which text of the payload is asked for, where it stands in the line, and what it reads as.
use Rattle.refusal.specs.declared.Refusal.{Refusal}
use Rattle.refusal.specs.Told.{told_maybe}
use Rattle.text.specs.declared.number.BadNumber.{BadNumber}
use Rattle.text.specs.declared.number.BadNumber.TheVariants as BadNumber
use Rattle.std.specs.Prelude.{ℕ, zero, suc, ◌+◌, ◌-◌, ◌^◌, ◌≤◌, ◌<◌, ◌≡◌, ◌↔◌, List, [], ◌∷◌, length, Err, None, Ok, Option, Result, Some}
use Rattle.text.specs.Told.{Told, is, absent, refused}
use Rattle.text.specs.Number.{Means, hex_of}
use Rattle.std.specs.Result.{result_ok}
use Rattle.text.specs.Quote.{bytes}
use Rattle.entry.specs.Entry.{EntryValue}
use Rattle.pairs.specs.Pair.{part, LastPair}
use Rattle.pairs.specs.Data.{Data, PieceIn}
use Rattle.scan.specs.declared.Pieces.{Pieces}
use Rattle.scan.specs.declared.Pieces.TheVariants.{Strict}
use Rattle.scan.specs.Frame.{Split}
use Rattle.scan.specs.Line.{Line, Condition, Applies}
use Rattle.reasons.specs.declared.Key.{Key}
use Rattle.reasons.specs.declared.Key.TheVariants as K
use Rattle.reasons.specs.declared.HexText.{HexText}
use Rattle.reasons.specs.Reasons.{name_of, limit_of, key_answer, piece_answer}

-- a text of the payload, from a place of it up to another
abbrev pub Spot : Type 1
Spot = List ℕ → List ℕ → ℕ → ℕ → Type 0

-- the value of the last pair of the key
pub record KeyAt (key : Key) (p text : List ℕ) (a b : ℕ) : Type 0 where
  pub last : LastPair p (name_of key) a b
  pub is : text ≡ part p a b

-- the piece of that number, from 0, of the value in brackets of the last `data`: it stands behind the bracket and the pieces before it
pub record PieceAt (i : ℕ) (p text : List ℕ) (a b : ℕ) : Type 0 where
  pub from : ℕ
  pub to : ℕ
  pub last : LastPair p (bytes "data") from to
  pub dwords : List ℕ
  pub in_brackets : Data (part p from to) dwords
  pub first : ℕ
  pub behind : ℕ
  pub piece : PieceIn in_brackets.pieces i text first behind
  pub starts : a ≡ from + 1 + first
  pub ends : b ≡ from + 1 + behind

-- where the payload starts in the line: behind what stands before the last colon, behind that colon, and behind the blanks
abbrev pub start_in : {t header payload : List ℕ} → Split t header payload → ℕ
start_in split = length split.before + 1 + length split.payload_stripped.front

-- the line has such a text there, and it reads so within the limit
pub record Says (At : Spot) (limit : ℕ) (t : List ℕ) (said : HexText) : Type 0 where
  pub header : List ℕ
  pub payload : List ℕ
  pub split : Split t header payload
  pub text : List ℕ
  pub a : ℕ
  pub b : ℕ
  pub there : At payload text a b
  pub from : said.from ≡ start_in split + a
  pub to : said.to ≡ start_in split + b
  pub stands : part t said.from said.to ≡ text
  pub reads : Means limit text said.reading

-- the line has no such text
abbrev pub NoText : Spot → List ℕ → Type 0
NoText At t = (header payload text : List ℕ) (a b : ℕ) → Split t header payload → At payload text a b → ⊥

-- none of the numbers 1 to 4 applies, so there is a payload to ask; they ask neither for slots nor for the choice, so 0 stands for any number of
-- slots and `Strict` for either choice
abbrev pub Asked : List ℕ → Type 0
Asked t = (k : ℕ) → k ≤ 4 → Condition Strict t 0 k → ⊥

-- what is told of a line, and what it means
abbrev pub Tells : Spot → ℕ → List ℕ → Told HexText → Type 0
Tells At limit t (is said) = Asked t × Says At limit t said
Tells At limit t absent = Asked t × NoText At t
Tells At limit t (refused k) = (k ≤ 4) × Applies Strict t 0 k

-- ---- beside the entry

-- the number that is told: none where the text is absent, for each reason, and where the line has no payload
abbrev pub number_told : Told HexText → Option ℕ
number_told (is said) = (result_ok said.reading)
number_told absent = None
number_told (refused k) = None

-- absent, or one of the three reasons
pub data NoNumber : Told HexText → Type 0 where
  missing : NoNumber absent
  empty : {said : HexText} → said.reading ≡ (Err BadNumber.Empty) → NoNumber (is said)
  bad : {said : HexText} (place : ℕ) → said.reading ≡ Err (BadNumber.BadDigit place) → NoNumber (is said)
  wide : {said : HexText} → said.reading ≡ (Err BadNumber.TooWide) → NoNumber (is said)

-- a number
pub record SaysNumber (told : Told HexText) (v : ℕ) : Type 0 where
  pub said : HexText
  pub found : told ≡ is said
  pub reads : said.reading ≡ Ok v

-- the entry's field of a key: the route is always there
abbrev pub field_of : Key → EntryValue → Option ℕ
field_of K.Route v = Some v.route
field_of K.Offset v = v.offset
field_of K.Error v = v.code
field_of K.Config v = v.config
field_of K.Unplug v = v.unplug

-- a number in front, where there is one
abbrev pub kept : Option ℕ → List ℕ → List ℕ
kept (Some v) ds = v ∷ ds
kept None ds = ds

-- the numbers that n pieces from the i-th on say, in order
unfoldable pub piece_numbers : List ℕ → ℕ → ℕ → List ℕ
piece_numbers t zero i = []
piece_numbers t (suc n) i = kept (number_told (piece_answer t i)) (piece_numbers t n (suc i))

-- these dwords are the numbers that the line's pieces say, in order: so many pieces are told of, behind them none
pub record InOrder (t ds : List ℕ) : Type 0 where
  pub count : ℕ
  pub there : (i : ℕ) → i < count → (said : HexText) × (piece_answer t i ≡ is said)
  pub behind : (i : ℕ) → count ≤ i → piece_answer t i ≡ absent
  pub are : ds ≡ piece_numbers t count 0

-- one of the line's pieces, by its number from 0, is told of and says no number
pub record PieceWithout (t : List ℕ) : Type 0 where
  pub which : ℕ
  pub said : HexText
  pub told : piece_answer t which ≡ is said
  pub no_number : NoNumber (is said)

-- ---- the promise, in one place

-- `Result<Option<HexText>, Refusal>` is what the calls `ask_key` and `ask_piece` hand out; their contracts are `told_maybe r ≡ key_answer t key` and `≡ piece_answer t i`
pub record WhyUnreadable : Type 0 where
  -- of every text and within every limit exactly one case holds, and it is the hex reader's answer
  pub hex_exactly : (limit : ℕ) (s : List ℕ) (r : Result ℕ BadNumber) → (hex_of limit s ≡ r) ↔ Means limit s r
  pub one_case : (limit : ℕ) (s : List ℕ) (r q : Result ℕ BadNumber) → Means limit s r → Means limit s q → r ≡ q
  -- for every line and hex key the answer is what it means, and what is meant is the answer
  pub key_exactly : (t : List ℕ) (key : Key) (told : Told HexText) → (key_answer t key ≡ told) ↔ Tells (KeyAt key) (limit_of key) t told
  -- likewise for every line and number of a piece
  pub piece_exactly : (t : List ℕ) (i : ℕ) (told : Told HexText) → (piece_answer t i ≡ told) ↔ Tells (PieceAt i) (2 ^ 32 - 1) t told
  -- of a line that either choice accepts a key says a number exactly when the entry's field is that number
  pub number_exactly : (pieces : Pieces) (t : List ℕ) {v : EntryValue} → Line pieces t v → (key : Key) (n : ℕ) → SaysNumber (key_answer t key) n ↔ (field_of key v ≡ Some n)
  -- and it is absent or gives a reason exactly when the field is none
  pub none_exactly : (pieces : Pieces) (t : List ℕ) {v : EntryValue} → Line pieces t v → (key : Key) → NoNumber (key_answer t key) ↔ (field_of key v ≡ None)
  -- of a line refused with 14 the route is absent or gives a reason
  pub no_route : (pieces : Pieces) (t : List ℕ) (room : ℕ) → Applies pieces t room 14 → NoNumber (key_answer t K.Route)
  -- no second answer meets either contract
  pub one_answer : (a b : Result (Option HexText) Refusal) → told_maybe a ≡ told_maybe b → a ≡ b
  -- the dwords of an accepted line are the numbers that its pieces say, in order
  pub in_order : (pieces : Pieces) (t : List ℕ) {v : EntryValue} → Line pieces t v → InOrder t v.dwords
  -- strict says 18 of a line exactly when none of 1 to 15 applies and one of its pieces says no number
  pub bad_exactly : (t : List ℕ) (room : ℕ) → Applies Strict t room 18 ↔ (((k : ℕ) → k ≤ 15 → Condition Strict t room k → ⊥) × PieceWithout t)
