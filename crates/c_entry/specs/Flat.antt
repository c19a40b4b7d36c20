-- The entry as plain numbers, and back.
use Rattle.std.specs.Prelude.{ℕ, ◌<◌, Bool, true, false, cond, ◌&&◌, ◌||◌, eqb, ltb, leb, None, Option, Some}
use Rattle.text.specs.Told.{Told, is, refused}
use Rattle.entry.specs.declared.Entry.{Entry}
use Rattle.c_entry.specs.declared.Flat.{Flat}

-- what stands for an absent field
abbrev pub absent : ℕ
absent = 0xffffffff

-- a flag, and each optional, as one number
abbrev pub flag_number : Bool → ℕ
flag_number true = 1
flag_number false = 0

unfoldable pub flat_byte : Option ℕ → ℕ
flat_byte (Some b) = b
flat_byte None = absent

unfoldable pub flat_word : Option ℕ → ℕ
flat_word (Some w) = w
flat_word None = absent

unfoldable pub flat_flag : Option Bool → ℕ
flat_flag (Some b) = flag_number b
flat_flag None = absent

-- an entry as its numbers, in its order, given those of its optional fields
abbrev pub flat_with : Entry → (offset code len port config seq unplug : ℕ) → Flat
flat_with e offset code len port config seq unplug =
    record {
      task_at = e.task_at;
      task_len = e.task_len;
      pid = e.pid;
      cpu = e.cpu;
      seconds = e.seconds;
      microseconds = e.microseconds;
      function_at = e.function_at;
      function_len = e.function_len;
      kind = e.kind;
      size = e.size;
      dropped = flag_number e.dropped;
      domain = e.domain;
      route = e.route;
      offset = offset;
      code = code;
      len = len;
      port = port;
      config = config;
      seq = seq;
      unplug = unplug;
      dwords = e.dwords;
    }

unfoldable pub flat_of : Entry → Flat
flat_of e =
    flat_with e (flat_word e.offset) (flat_byte e.code) (flat_word e.len) (flat_byte e.port) (flat_byte e.config)
    (flat_byte e.seq) (flat_byte e.unplug)

-- a number as an optional of one byte, of two
unfoldable pub byte_of : ℕ → Option ℕ
byte_of n = cond (ltb n 256) (Some n) None

unfoldable pub word_of : ℕ → Option ℕ
word_of n = cond (ltb n 65536) (Some n) None

-- the entry of the numbers, given its optional fields
abbrev pub entry_with : Flat → Option ℕ → Option ℕ → Option ℕ → Option ℕ → Option ℕ → Option ℕ → Option ℕ → Entry
entry_with f offset code len port config seq unplug =
    record {
      task_at = f.task_at;
      task_len = f.task_len;
      pid = f.pid;
      cpu = f.cpu;
      seconds = f.seconds;
      microseconds = f.microseconds;
      function_at = f.function_at;
      function_len = f.function_len;
      kind = f.kind;
      size = f.size;
      dropped = eqb f.dropped 1;
      domain = f.domain;
      route = f.route;
      offset = offset;
      code = code;
      len = len;
      port = port;
      config = config;
      seq = seq;
      unplug = unplug;
      dwords = f.dwords;
    }

unfoldable pub entry_of : Flat → Entry
entry_of f =
    entry_with f (word_of f.offset) (byte_of f.code) (word_of f.len) (byte_of f.port) (byte_of f.config) (byte_of f.seq)
    (byte_of f.unplug)

-- within its width, or absent
abbrev pub is_below : (width n : ℕ) → Bool
is_below width n = ltb n width || eqb n absent

unfoldable pub is_byte : ℕ → Bool
is_byte = is_below 256

unfoldable pub is_word : ℕ → Bool
is_word = is_below 65536

unfoldable pub bytes_in_range : Flat → Bool
bytes_in_range f = is_byte f.code && is_byte f.port && is_byte f.config && is_byte f.seq && is_byte f.unplug

-- numbers that some entry flattens to
unfoldable pub in_range : Flat → Bool
in_range f = leb f.dropped 1 && is_word f.offset && is_word f.len && bytes_in_range f

-- what each case of a raised entry tells: the entry, or 37, since numbers that no entry has are out of the record's ranges
abbrev pub raised_told : Option Entry → Told Entry
raised_told (Some e) = is e
raised_told None = refused 37

-- what is told of the numbers
unfoldable pub raise_of : Flat → Told Entry
raise_of f = cond (in_range f) (is (entry_of f)) (refused 37)

-- an entry as code can hold it: each optional fits its type
unfoldable pub ByteFits : Option ℕ → Type 0
ByteFits (Some b) = b < 256
ByteFits None = Unit {0}

unfoldable pub WordFits : Option ℕ → Type 0
WordFits (Some w) = w < 65536
WordFits None = Unit {0}

pub record OptionalsFit (e : Entry) : Type 0 where
  pub offset : WordFits e.offset
  pub code : ByteFits e.code
  pub len : WordFits e.len
  pub port : ByteFits e.port
  pub config : ByteFits e.config
  pub seq : ByteFits e.seq
  pub unplug : ByteFits e.unplug
