-- What is kept of a unit tells its answer: an overlong line is refused by its first byte, and any other text that is read is kept whole. Assumes nothing.
use Rattle.std.specs.Prelude.{Option, Result}
use Rattle.refusal.specs.declared.Refusal.{Refusal}
use Prim.Native.Nat.{ℕ, ◌<◌}
use mathlib.Core.Path.{◌≡◌, refl, sym, ap, ◌∙◌}
use mathlib.Core.Bool.{Bool, true, false, cond}
use mathlib.Core.List.{List}
use native.Mathlib.Omega.{arith}
use lib.Dec.{eqb, ltb}
use lib.ListN.{length, take, length-take}
use lib.Seq.{take_all, get_or-take}
use Rattle.text.proofs.Places.{by_order}
use Rattle.text.specs.Told as T
use Rattle.entry.specs.declared.Entry.{Entry}
use Rattle.scan.specs.declared.Pieces.{Pieces}
use Rattle.scan.specs.Parse.{parse_of, line_dwords, slots_by}
use Rattle.intake.specs.Intake.{starts_a1, taken_of, taken_dwords}
use Rattle.intake.proofs.FirstBytes.{overlong_line}
use Rattle.units.specs.declared.Framing.TheVariants.{Both}
use Rattle.units.specs.Units.{marked, is_record, stated}
use Rattle.units.specs.Kept.{is_long, kept_text}
use Rattle.units.specs.Feeding.{unit_of, text_length}
use Rattle.stream.specs.Answers.{answer_of}
use Rattle.stream.specs.Feeding.{Given, unit_told, UnitRead}

-- where a stream has records, a unit is one by the same first byte as the intake's
pub same_start : (u : List ℕ) → is_record Both u ≡ starts_a1 u
unfolding marked starts_a1
same_start u = refl

-- the first 4,097 bytes of a line tell its answer
module _ (pieces : Pieces) (w : List ℕ) (room : ℕ) where
  pub first_bytes_tell : parse_of pieces (take 4097 w) room ≡ parse_of pieces w room
  first_bytes_tell =
      by_order (length w) 4097 (λ h. ap (λ (l : List ℕ). parse_of pieces l room) (take_all 4097 w (omega (arith, h)))) (λ h. ap (λ (l : List ℕ). parse_of pieces l room) (take_all 4097 w (omega (arith, h)))) long
    where
      long : 4097 < length w → parse_of pieces (take 4097 w) room ≡ parse_of pieces w room
      long h =
          overlong_line pieces (take 4097 w) room (omega (arith, h, length-take 4097 w))
          ∙ ap (λ (b : ℕ). T.refused (cond (eqb b 35) 1 2)) (get_or-take 4097 w 0 0 (omega arith))
          ∙ sym (overlong_line pieces w room (omega (arith, h)))

  pub first_bytes_fill : (slots : List ℕ) → slots_by (parse_of pieces w room) (line_dwords (take 4097 w)) slots ≡ slots_by (parse_of pieces w room) (line_dwords w) slots
  unfolding slots_by
  first_bytes_fill slots =
      by_order (length w) 4097 (λ h. ap (λ (l : List ℕ). slots_by (parse_of pieces w room) (line_dwords l) slots) (take_all 4097 w (omega (arith, h)))) (λ h. ap (λ (l : List ℕ). slots_by (parse_of pieces w room) (line_dwords l) slots) (take_all 4097 w (omega (arith, h)))) (λ h. rw (overlong_line pieces w room (omega (arith, h))))

-- a unit of which what is kept stands in the buffer
module _ (pieces : Pieces) (w rest : List ℕ) (front : take (length (kept_text Both w)) rest ≡ kept_text Both w) (room : ℕ) where
  unit_told_lem : unit_told pieces (unit_of Both w) rest room ≡ answer_of pieces w room
  unfolding unit_told unit_of answer_of kept_text taken_of is_long starts_a1 marked
  unit_told_lem = go (starts_a1 w) refl (is_long w) refl (ltb (length w) (stated w)) refl
    where
      go : (a : Bool) → starts_a1 w ≡ a → (b : Bool) → is_long w ≡ b → (d : Bool) → ltb (length w) (stated w) ≡ d → unit_told pieces (unit_of Both w) rest room ≡ answer_of pieces w room
      go true x true y d z = rw (x, y)
      go true x false y true z = rw (x, y, z)
      go true x false y false z = let e : take (length w) rest ≡ w = rw (x, y) at front in rw (x, y, z, e, x)
      go false x b y d z =
          let e : take (length (take 4097 w)) rest ≡ take 4097 w = rw x at front in
          let s : starts_a1 (take 4097 w) ≡ false = ap (λ (n : ℕ). eqb n 0xA1) (get_or-take 4097 w 0 0 (omega arith)) ∙ x in
          rw (x, e, s) (first_bytes_tell pieces w room)

  unit_fills : (slots : List ℕ) → slots_by (answer_of pieces w room) (taken_dwords (take (text_length (unit_of Both w)) rest)) slots ≡ slots_by (answer_of pieces w room) (taken_dwords w) slots
  unfolding unit_of answer_of kept_text taken_dwords is_long starts_a1 marked text_length slots_by
  unit_fills slots = go (starts_a1 w) refl (is_long w) refl (ltb (length w) (stated w)) refl
    where
      go : (a : Bool) → starts_a1 w ≡ a → (b : Bool) → is_long w ≡ b → (d : Bool) → ltb (length w) (stated w) ≡ d → slots_by (answer_of pieces w room) (taken_dwords (take (text_length (unit_of Both w)) rest)) slots ≡ slots_by (answer_of pieces w room) (taken_dwords w) slots
      go true x true y d z = rw (x, y)
      go true x false y true z = rw (x, y, z)
      go true x false y false z = let e : take (length w) rest ≡ w = rw (x, y) at front in rw (x, y, z, e, x)
      go false x b y d z =
          let e : take (length (take 4097 w)) rest ≡ take 4097 w = rw x at front in
          let s : starts_a1 (take 4097 w) ≡ false = ap (λ (n : ℕ). eqb n 0xA1) (get_or-take 4097 w 0 0 (omega arith)) ∙ x in
          rw (x, e, s) (first_bytes_fill pieces w room slots)

  -- it is answered as document 02 says
  pub unit_given : {slots exit : List ℕ} {r : Result (Option Entry) Refusal} → length slots ≡ room → UnitRead pieces (unit_of Both w) rest slots exit r → Given (answer_of pieces w (length slots)) (taken_dwords w) slots exit r
  unit_given {slots} {exit} {r} n g =
      let told : unit_told pieces (unit_of Both w) rest (length slots) ≡ answer_of pieces w (length slots) = rw n unit_told_lem in
      record { answer = g.answer ∙ told; slots_are = g.slots_are ∙ ap (λ (t : T.Told Entry). slots_by t (taken_dwords (take (text_length (unit_of Both w)) rest)) slots) told ∙ rw n (unit_fills slots) }
