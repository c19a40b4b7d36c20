-- What the texts of the definition mean, in the words of the two grammars and their numbers.
-- How to read it: as Chains; `P → ⊥` is "P never holds", `(x : A) × P` "there is an x so that P", `↔` "exactly when". `S.` before a name tells what a row says.
use Rattle.std.specs.Prelude.{ℕ, ◌≤◌, ◌<◌, ◌≡◌, true, false, List, [], ◌∷◌, ◌++◌, ◌↔◌, length}
use Rattle.tlv.specs.Number.{Bytes}
use Rattle.entry.specs.Entry.{EntryValue}
use Rattle.scan.specs.declared.Pieces.{Pieces}
use Rattle.scan.specs.declared.Pieces.TheVariants.{Lenient}
use Rattle.scan.specs.Line.{Line, Applies}
use Rattle.record.specs.Grammar.{record_bytes, IsRecord}
use Rattle.record.specs.Conditions.{Breaks}
use Rattle.intake.specs.Intake.{starts_a1, Belongs}
use Rattle.units.specs.declared.Framing.{Framing}
use Rattle.units.specs.Units.{stated, Units, Open}
use Rattle.stream.specs.Answers.{answer_of}
use Rattle.filters.specs.declared.Filter.TheVariants as F
use Rattle.filters.specs.Seen as S
use Rattle.filters.specs.Texts.{seen_of, seen_line, seen_record, record_by}
use Rattle.whole_output.specs.Output.{packing_of}

-- a value of this kind and with so many dwords that a text says, by a grammar
pub record Tells (Says : EntryValue → Type 0) (kind dwords : ℕ) : Type 0 where
  pub value : EntryValue
  pub says : Says value
  pub kind_is : value.kind ≡ kind
  pub dwords_are : length value.dwords ≡ dwords

-- What rows and records say of the lines and records that they are put out for, whatever the choice that a line is read by.
pub record TextsMean : Type 0 where
  -- A row has a line's kind and its number of dwords exactly when the line belongs to the grammar, and these are what it says.
  pub line_row : (pieces : Pieces) (u : List ℕ) (kind dwords : ℕ) → (seen_line pieces u ≡ S.Entry kind dwords) ↔ Tells (Line pieces u) kind dwords
  -- It says that a line is refused with k exactly when number k applies to it, given 256 slots.
  pub line_refused : (pieces : Pieces) (u : List ℕ) (k : ℕ) → (seen_line pieces u ≡ S.Refused k) ↔ Applies pieces u 256 k
  -- A row has a record's kind and its number of dwords exactly when the text belongs to the grammar, and these are what it says.
  pub record_row : (u : List ℕ) → Bytes u → (kind dwords : ℕ) → (seen_record u ≡ S.Entry kind dwords) ↔ Tells (IsRecord u) kind dwords
  -- It says that a record is refused with k exactly when number k applies to it.
  pub record_refused : (u : List ℕ) → Bytes u → (k : ℕ) → (seen_record u ≡ S.Refused k) ↔ Breaks u k
  -- The listing sees every unit as a line, leniently.
  pub listing_sees : (u : List ℕ) → seen_of F.Listing u ≡ seen_line Lenient u
  -- `pack` and `unpack` see a unit alike.
  pub both_see : (pieces : Pieces) (u : List ℕ) → seen_of (F.Pack pieces) u ≡ seen_of (F.Unpack pieces) u
  -- One that does not start with A1 they see as a line.
  pub sees_a_line : (pieces : Pieces) (u : List ℕ) → starts_a1 u ≡ false → seen_of (F.Unpack pieces) u ≡ seen_line pieces u
  -- One that does, says at most 5,227 bytes and has them, they see as a record.
  pub sees_a_record : (pieces : Pieces) (u : List ℕ) → starts_a1 u ≡ true → stated u ≤ 5227 → stated u ≤ length u → seen_of (F.Unpack pieces) u ≡ seen_record u
  -- One that says more is refused with 55.
  pub sees_a_long_one : (pieces : Pieces) (u : List ℕ) → starts_a1 u ≡ true → 5227 < stated u → seen_of (F.Unpack pieces) u ≡ S.Refused 55
  -- Another that has not the bytes that it says is refused with 54.
  pub sees_a_cut_one : (pieces : Pieces) (u : List ℕ) → starts_a1 u ≡ true → stated u ≤ 5227 → length u < stated u → seen_of (F.Unpack pieces) u ≡ S.Refused 54
  -- What is packed for a unit of either grammar is the record of what it says.
  pub unit_record : (pieces : Pieces) (u : List ℕ) → Bytes u → (v : EntryValue) → Belongs pieces u v → record_by u (answer_of pieces u 256) ≡ record_bytes v
  -- Nothing is packed for any other.
  pub no_record : (pieces : Pieces) (u : List ℕ) → Bytes u → ((v : EntryValue) → Belongs pieces u v → ⊥) → record_by u (answer_of pieces u 256) ≡ []
  -- A record that is packed is put out as it is.
  pub record_as_it_is : (pieces : Pieces) (u : List ℕ) → Bytes u → (v : EntryValue) → IsRecord u v → record_by u (answer_of pieces u 256) ≡ u
  -- What `pack` puts out for units is what is packed for each, one behind the other.
  pub packed_one_by_one : (pieces : Pieces) (u : List ℕ) (us : List (List ℕ)) → packing_of pieces (u ∷ us) ≡ record_by u (answer_of pieces u 256) ++ packing_of pieces us
  -- Every unit of an input but the last has ended.
  pub only_the_last_open : (f : Framing) (s : List ℕ) (us front : List (List ℕ)) (u : List ℕ) (back : List (List ℕ)) → Units f s us → us ≡ front ++ (u ∷ back)
      → Open f u → back ≡ []
