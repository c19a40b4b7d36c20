-- The condition of each number from 30 to 35: what the text has that no record has, with nothing wrong before it.
-- Assumes nothing.
use Rattle.std.specs.Prelude.{ℕ, ◌≤◌, ◌<◌, ◌≡◌, true, length}
use mathlib.Core.List.{List, [], ◌∷◌, Memᴰ}
use Rattle.tlv.specs.Grammar.{Piece, fields_bytes, FieldAt, RunsPast}
use Rattle.tlv.specs.Reading.{between}
use Rattle.entry.specs.Entry.{EntryValue}
use Rattle.record.specs.Grammar.{IsRecord}
use Rattle.record.specs.Rule.{rule_of, is_known, fits_rule}
use Rattle.record.specs.Judging.{task_size, required_tags}

-- a field that may come behind the tag `last`: its tag is known and above it, its body as its rule asks
pub record GoodField (task last : ℕ) (p : Piece) : Type 0 where
  pub ascends : last < p.tag
  pub known : is_known (rule_of p.tag) ≡ true
  pub fits : fits_rule (rule_of p.tag) task p.body ≡ true

-- fields that may come behind the tag `last`, one after the other
abbrev pub GoodFields : ℕ → ℕ → List Piece → Type 0
GoodFields task last [] = Unit {0}
GoodFields task last (p ∷ ps) = GoodField task last p × GoodFields task p.tag ps

-- the tag of the last field
abbrev pub last_tag : ℕ → List Piece → ℕ
last_tag last [] = last
last_tag last (p ∷ ps) = last_tag p.tag ps

-- A1 and the length of the rest are in order: the whole text is one field of tag A1
abbrev pub Framed : List ℕ → Type 0
Framed t = FieldAt t 0 0xA1 3 (length t)

-- the text is in order up to a place: its frame, and the fields ps up to there
pub record GoodUpTo (t : List ℕ) (at : ℕ) (ps : List Piece) : Type 0 where
  pub frame : Framed t
  pub from : 3 ≤ at
  pub within : at ≤ length t
  pub fields : between t 3 at ≡ fields_bytes ps
  pub good : GoodFields (task_size t) 0 ps

-- none of the fields has the tag
abbrev pub Lacks : ℕ → List Piece → Type 0
Lacks tag [] = Unit {0}
Lacks tag (p ∷ ps) = (p.tag ≡ tag → ⊥) × Lacks tag ps

-- what each number from 30 to 34 says of a text: 30; field by field 31, 32, 34; then 33
pub data Breaks (t : List ℕ) (k : ℕ) : Type 0 where
  unframed : k ≡ 30 → (Framed t → ⊥) → Breaks t k
  runs_past : k ≡ 31 → (at : ℕ) (ps : List Piece) → GoodUpTo t at ps → RunsPast t at → Breaks t k
  wrong_tag : k ≡ 32 → (at : ℕ) (ps : List Piece) (tag from to : ℕ) → GoodUpTo t at ps → FieldAt t at tag from to
      → (last_tag 0 ps < tag → is_known (rule_of tag) ≡ true → ⊥) → Breaks t k
  wrong_body : k ≡ 34 → (at : ℕ) (ps : List Piece) (tag from to : ℕ) → GoodUpTo t at ps → FieldAt t at tag from to
      → last_tag 0 ps < tag → is_known (rule_of tag) ≡ true
      → (fits_rule (rule_of tag) (task_size t) (between t from to) ≡ true → ⊥) → Breaks t k
  lacks_tag : k ≡ 33 → (ps : List Piece) (tag : ℕ) → GoodUpTo t (length t) ps → Memᴰ tag required_tags → Lacks tag ps → Breaks t k

-- 35: the text is a record, of an entry with more dwords than slots are lent
pub record TooFewSlots (t : List ℕ) (slots : ℕ) : Type 0 where
  pub value : EntryValue
  pub is_record : IsRecord t value
  pub fewer : slots < length value.dwords

-- what each number says of a text and the slots lent: 30 to 34, which look at the text alone; then 35
pub data Refuses (t : List ℕ) (slots k : ℕ) : Type 0 where
  breaks : Breaks t k → Refuses t slots k
  few_slots : k ≡ 35 → TooFewSlots t slots → Refuses t slots k
