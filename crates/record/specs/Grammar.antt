-- The record of an entry, as what its bytes are made from. Nothing here searches: the bytes are a function of what the entry says.
-- Assumes nothing.
use Rattle.std.specs.Prelude.{ℕ, ◌+◌, ◌≤◌, ◌<◌, ◌^◌, ◌≡◌, Bool, true, cond, List, [], ◌∷◌, ◌++◌, length, None, Option, Some}
use Rattle.std.specs.Option.{option_map}
use Rattle.text.specs.Class.{is_word}
use Rattle.tlv.specs.Number.{number_bytes}
use Rattle.tlv.specs.Grammar.{Piece, field_bytes, fields_bytes, All}
use Rattle.entry.specs.Entry.{EntryValue}

-- a field of the record: its tag, and its body where the field is there
pub record Row : Type 0 where
  pub tag : ℕ
  pub body : Option (List ℕ)

-- a field that every record has
abbrev pub required : ℕ → List ℕ → Row
required tag body = record { tag = tag; body = Some body }

-- a number of k bytes that is there exactly when the entry has it
abbrev pub optional : ℕ → ℕ → Option ℕ → Row
optional tag k n = record { tag = tag; body = option_map (number_bytes k) n }

-- a flag as a number, 0 or 1
abbrev pub flag : Bool → ℕ
flag b = cond b 1 0

-- 4 bytes a dword
unfoldable pub dwords_bytes : List ℕ → List ℕ
dwords_bytes [] = []
dwords_bytes (d ∷ ds) = number_bytes 4 d ++ dwords_bytes ds

-- the fields of the record, tags (in hex) ascending
unfoldable pub rows_of : EntryValue → List Row
rows_of v =
    required 0x01 v.task
    ∷ required 0x02 (number_bytes 4 v.pid)
    ∷ required 0x03 (number_bytes 2 v.cpu)
    ∷ required 0x04 (number_bytes 8 v.seconds)
    ∷ required 0x05 (number_bytes 8 v.microseconds)
    ∷ required 0x06 v.function
    ∷ required 0x07 (number_bytes 1 v.kind)
    ∷ required 0x08 (number_bytes 2 v.size)
    ∷ required 0x09 (number_bytes 1 (flag v.dropped))
    ∷ required 0x0A (number_bytes 4 v.domain)
    ∷ required 0x0B (number_bytes 8 v.route)
    ∷ optional 0x0C 2 v.offset
    ∷ optional 0x0D 1 v.code
    ∷ optional 0x0E 2 v.len
    ∷ optional 0x0F 1 v.port
    ∷ optional 0x10 1 v.config
    ∷ optional 0x11 1 v.seq
    ∷ optional 0x12 1 v.unplug
    ∷ required 0x13 (dwords_bytes v.dwords)
    ∷ []

-- a field in front of others, where it is there
abbrev pub placed : ℕ → Option (List ℕ) → List Piece → List Piece
placed tag None ps = ps
placed tag (Some body) ps = record { tag = tag; body = body } ∷ ps

-- the fields that are there
unfoldable pub present : List Row → List Piece
present [] = []
present (r ∷ rs) = placed r.tag r.body (present rs)

-- the bytes of the record: byte A1, two-byte length (low byte first) of what follows, then the fields
unfoldable pub record_bytes : EntryValue → List ℕ
record_bytes v = field_bytes 0xA1 (fields_bytes (present (rows_of v)))

-- a value that may be absent is below a bound
abbrev pub Below : ℕ → Option ℕ → Type 0
Below bound None = Unit {0}
Below bound (Some n) = n < bound

-- a task: one or more bytes below 128, none 32
pub record TaskText (s : List ℕ) : Type 0 where
  pub some : 0 < length s
  pub letters : All (λ b. (b < 128) × (b ≡ 32 → ⊥)) s

-- a function: one or more word bytes
pub record FunctionText (s : List ℕ) : Type 0 where
  pub some : 0 < length s
  pub letters : All (λ b. is_word b ≡ true) s

-- the ranges of the record's fields
pub record Ranged (v : EntryValue) : Type 0 where
  pub task : TaskText v.task
  pub pid : v.pid < 2 ^ 32
  pub cpu : v.cpu ≤ 999
  pub seconds : v.seconds < 2 ^ 63
  pub microseconds : v.microseconds < 2 ^ 63
  pub function : FunctionText v.function
  pub together : length v.task + length v.function ≤ 4096
  pub kind : v.kind ≤ 12
  pub size : v.size < 2 ^ 16
  pub domain : v.domain < 2 ^ 32
  pub route : v.route < 2 ^ 64
  pub offset : Below (2 ^ 16) v.offset
  pub code : Below (2 ^ 8) v.code
  pub len : Below (2 ^ 16) v.len
  pub port : Below (2 ^ 8) v.port
  pub config : Below (2 ^ 8) v.config
  pub seq : Below (2 ^ 8) v.seq
  pub unplug : Below (2 ^ 8) v.unplug
  pub dwords : All (λ d. d < 2 ^ 32) v.dwords
  pub few : length v.dwords ≤ 256

-- t is the record of an entry that says v
pub record IsRecord (t : List ℕ) (v : EntryValue) : Type 0 where
  pub ranged : Ranged v
  pub bytes : record_bytes v ≡ t
