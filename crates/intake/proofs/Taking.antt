-- Record or line: the first byte decides, and each side's contract is the intake's. Assumes nothing.
use Rattle.std.specs.Prelude.{Result}
use Rattle.refusal.specs.declared.Refusal.{Refusal}
use Rattle.refusal.specs.Told.{told}
use Prim.Native.Nat.{ℕ}
use mathlib.Core.Path.{◌≡◌, ◌∙◌, refl}
use mathlib.Core.Bool.{true, false}
use mathlib.Core.List.{List}
use Rattle.text.specs.Told as T
use Rattle.entry.specs.declared.Entry.{Entry}
use Rattle.scan.specs.declared.Pieces.{Pieces}
use Rattle.scan.specs.Parse as Line
use Rattle.record.specs.Reading as Reading
use Rattle.intake.specs.Intake.{starts_a1, taken_of, taken_dwords, Taken}

-- a record's dwords lie in the slots as a line's do
pub same_slots : (a : T.Told Entry) (new slots : List ℕ) → Reading.slots_by a new slots ≡ Line.slots_by a new slots
unfolding Line.slots_by Reading.slots_by
same_slots (T.is e) new slots = refl
same_slots T.absent new slots = refl
same_slots (T.refused k) new slots = refl

module _ (pieces : Pieces) (t out : List ℕ) {exit : List ℕ} {r : Result Entry Refusal} where
  pub taken_record : starts_a1 t ≡ true → Reading.Reading t out r exit → Taken pieces t out exit r
  unfolding taken_of taken_dwords
  taken_record e p =
      record { answer = p.answer ∙ rw e; slots = p.slots_left ∙ same_slots (told r) (Reading.dwords_of t) out ∙ rw e }

  pub taken_line : starts_a1 t ≡ false → Line.Parsed pieces t out exit r → Taken pieces t out exit r
  unfolding taken_of taken_dwords
  taken_line e p = record { answer = p.answer ∙ rw e; slots = p.slots ∙ rw e }
