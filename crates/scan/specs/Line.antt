-- The line grammar, in document 01's order: a text belongs to it with the entry that it says. No search stands here: where the document
-- says "first" or "last", the record says that nothing fits before or after. It is one grammar over document 02's choice: `Line Strict`, `Line Lenient`.
use Rattle.std.specs.Prelude.{ℕ, ◌+◌, ◌-◌, ◌^◌, ◌≤◌, ◌<◌, ◌≡◌, Bool, true, false, cond, List, ltb, eqb, length, None, Option, Some}
use Rattle.text.specs.Number.{Decimal, HexNumber}
use Rattle.text.specs.Quote.{bytes}
use Rattle.entry.specs.Entry.{EntryValue}
use Rattle.entry.specs.Kind.{kind_of}
use Rattle.header.specs.Dash.{Task, Pid}
use Rattle.header.specs.Cpu.{Cpu}
use Rattle.header.specs.Stamp.{Timestamp}
use Rattle.header.specs.Function.{Function}
use Rattle.pairs.specs.Pair.{part, LastPair}
use Rattle.pairs.specs.Data.{BadAmong, Data}
use Rattle.scan.specs.declared.Pieces.{Pieces}
use Rattle.scan.specs.declared.Pieces.TheVariants.{Strict, Lenient}
use Rattle.scan.specs.Frame.{Idle, High, Split}

-- the last pair of a key has this text as its value
pub record KeyText (p key text : List ℕ) : Type 0 where
  pub from : ℕ
  pub to : ℕ
  pub last : LastPair p key from to
  pub is : text ≡ part p from to

-- it reads as this decimal number within the width
pub record KeyDecimal (p key : List ℕ) (limit v : ℕ) : Type 0 where
  pub text : List ℕ
  pub found : KeyText p key text
  pub reads : Decimal limit text v

-- it reads as this hex number within the width
pub record KeyHex (p key : List ℕ) (limit v : ℕ) : Type 0 where
  pub text : List ℕ
  pub found : KeyText p key text
  pub reads : HexNumber limit text v

-- an optional field: its value, or none if missing or unreadable
abbrev pub Optional : (ℕ → Type 0) → Option ℕ → Type 0
Optional Reads (Some v) = Reads v
Optional Reads None = (v : ℕ) → Reads v → ⊥

-- `dropped` is true if it reads as 1 in decimal 8 bits, else false
abbrev pub Dropped : List ℕ → Bool → Type 0
Dropped p true = KeyDecimal p (bytes "dropped") (2 ^ 8 - 1) 1
Dropped p false = KeyDecimal p (bytes "dropped") (2 ^ 8 - 1) 1 → ⊥

-- the kind goes by the text of `type` and the function
pub record Kind (p function : List ℕ) (kind : ℕ) : Type 0 where
  pub name : List ℕ
  pub type : KeyText p (bytes "type") name
  pub is : kind_of name function ≡ kind

-- `data` is in brackets, and these are its dwords
pub record Dwords (p ds : List ℕ) : Type 0 where
  pub value : List ℕ
  pub found : KeyText p (bytes "data") value
  pub brackets : Data value ds

-- a piece of `data` is not 32-bit hex
pub record BadPiece (p : List ℕ) : Type 0 where
  pub dwords : List ℕ
  pub are : Dwords p dwords
  pub piece : BadAmong are.brackets.pieces

-- what the choice refuses: strict a payload with a bad piece, lenient none
abbrev pub BadFor : Pieces → List ℕ → Type 0
BadFor Strict p = BadPiece p
BadFor Lenient p = ⊥

-- a line and what it says
pub record Line (pieces : Pieces) (t : List ℕ) (v : EntryValue) : Type 0 where
  pub busy : Idle t → ⊥
  pub short : length t ≤ 4096
  pub ascii : High t → ⊥
  pub header : List ℕ
  pub payload : List ℕ
  pub split : Split t header payload
  pub task : Task header v.task
  pub pid : Pid header v.pid
  pub cpu : Cpu header v.cpu
  pub timestamp : Timestamp header v.seconds v.microseconds
  pub function : Function header v.function
  pub kind : Kind payload v.function v.kind
  pub size : KeyDecimal payload (bytes "size") (2 ^ 16 - 1) v.size
  pub dropped : Dropped payload v.dropped
  pub domain : KeyDecimal payload (bytes "domain") (2 ^ 32 - 1) v.domain
  pub route : KeyHex payload (bytes "route") (2 ^ 64 - 1) v.route
  pub offset : Optional (KeyHex payload (bytes "offset") (2 ^ 16 - 1)) v.offset
  pub code : Optional (KeyHex payload (bytes "error") (2 ^ 8 - 1)) v.code
  pub len : Optional (KeyDecimal payload (bytes "len") (2 ^ 16 - 1)) v.len
  pub port : Optional (KeyDecimal payload (bytes "port") (2 ^ 8 - 1)) v.port
  pub config : Optional (KeyHex payload (bytes "config") (2 ^ 8 - 1)) v.config
  pub seq : Optional (KeyDecimal payload (bytes "seq") (2 ^ 8 - 1)) v.seq
  pub unplug : Optional (KeyHex payload (bytes "unplug") (2 ^ 8 - 1)) v.unplug
  pub dwords : Dwords payload v.dwords
  pub good : BadFor pieces payload → ⊥
  pub few : length v.dwords ≤ 256

-- nothing that header and payload of the line could be has it
abbrev pub Missing : List ℕ → {A : Type 0} → (List ℕ → List ℕ → A → Type 0) → Type 0
Missing t {A} P = (header payload : List ℕ) → Split t header payload → (a : A) → P header payload a → ⊥

-- a line whose payload has this
pub record Has (t : List ℕ) (P : List ℕ → Type 0) : Type 0 where
  pub header : List ℕ
  pub payload : List ℕ
  pub split : Split t header payload
  pub there : P payload

-- the payload's dwords are more than this many
pub record MoreThan (n : ℕ) (payload : List ℕ) : Type 0 where
  pub dwords : List ℕ
  pub are : Dwords payload dwords
  pub more : n < length dwords

-- a moment of two numbers
pub record Stamped (header : List ℕ) : Type 0 where
  pub seconds : ℕ
  pub microseconds : ℕ
  pub timestamp : Timestamp header seconds microseconds

-- when a number applies, given the choice and the number of slots: the table of document 01 without 10, which document 02 takes out, and 18 of
-- document 02; no other number does. From 5 on the conditions speak of the header and payload, so without a colon some hold of nothing: 4 comes first
-- there
unfoldable pub Condition : Pieces → List ℕ → ℕ → ℕ → Type 0
Condition pieces t room k =
    cond (eqb k 1) (Idle t)
    (cond (eqb k 2) (4096 < length t)
    (cond (eqb k 3) (High t)
    (cond (eqb k 4) ((header payload : List ℕ) → Split t header payload → ⊥)
    (cond (eqb k 5) (Missing t (λ (h p task : List ℕ). Task h task))
    (cond (eqb k 6) (Missing t (λ (h p : List ℕ) (pid : ℕ). Pid h pid))
    (cond (eqb k 7) (Missing t (λ (h p : List ℕ) (cpu : ℕ). Cpu h cpu))
    (cond (eqb k 8) ((header payload : List ℕ) → Split t header payload → Stamped header → ⊥)
    (cond (eqb k 9) (Missing t (λ (h p function : List ℕ). Function h function))
    (cond (eqb k 11) (Missing t (λ (h p name : List ℕ). KeyText p (bytes "type") name))
    (cond (eqb k 12) (Missing t (λ (h p : List ℕ) (v : ℕ). KeyDecimal p (bytes "size") (2 ^ 16 - 1) v))
    (cond (eqb k 13) (Missing t (λ (h p : List ℕ) (v : ℕ). KeyDecimal p (bytes "domain") (2 ^ 32 - 1) v))
    (cond (eqb k 14) (Missing t (λ (h p : List ℕ) (v : ℕ). KeyHex p (bytes "route") (2 ^ 64 - 1) v))
    (cond (eqb k 15) (Missing t (λ (h p ds : List ℕ). Dwords p ds))
    (cond (eqb k 18) (Has t (BadFor pieces))
    (cond (eqb k 16) (Has t (MoreThan 256)) (cond (eqb k 17) (Has t (MoreThan room)) ⊥))))))))))))))))

-- where a number stands among the checks: in number order, but 18 after 15 and before 16
unfoldable pub order_of : ℕ → ℕ
order_of k = cond (eqb k 18) 16 (cond (ltb k 16) k (k + 1))

-- a number is the answer when it applies and no number of an earlier check does
pub record Applies (pieces : Pieces) (t : List ℕ) (room k : ℕ) : Type 0 where
  pub holds : Condition pieces t room k
  pub first : (j : ℕ) → order_of j < order_of k → Condition pieces t room j → ⊥
