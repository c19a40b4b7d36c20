-- Demand 3, first half: given 256 slots a text is accepted exactly when it belongs to the line grammar or to the record grammar; no text
-- belongs to both; each has one reading; no second answer. A record starts with A1, which is no byte of a line. Assumes nothing.
use Rattle.refusal.proofs.Told.{one_told}
use Rattle.std.specs.Prelude.{Result}
use Rattle.refusal.specs.declared.Refusal.{Refusal}
use Prim.Native.Nat.{ℕ}
use mathlib.Core.Path.{◌≡◌, refl, sym, ap, ◌∙◌}
use mathlib.Core.Bool.{Bool, true, false}
use mathlib.Core.List.{List, [], ◌∷◌}
use mathlib.Core.Logic.{◌↔◌}
use native.Mathlib.Omega.{arith}
use lib.Dec.{eqb}
use lib.ListN.{get_or, replicate}
use borrow.Author.Tests.{eq-eqb, ne_eqb, eqb-true, eqb-false}
use Rattle.text.specs.Told as T
use Rattle.tlv.specs.Number.{Bytes}
use Rattle.tlv.specs.Grammar.{field_bytes}
use Rattle.entry.specs.declared.Entry.{Entry}
use Rattle.entry.specs.Entry.{EntryValue}
use Rattle.scan.specs.declared.Pieces.{Pieces}
use Rattle.refusal.specs.Told.{told}
use Rattle.scan.specs.Parse.{parse_of}
use Rattle.scan.specs.Line.{Line}
use Rattle.scan.proofs.Theorems.{one_line_reading, line_accepted_exactly}
use Rattle.record.specs.Grammar.{IsRecord, record_bytes}
use Rattle.record.specs.Reading.{read_of}
use Rattle.record.proofs.Records.{record_accepted_exactly, accepted_is_record, one_record_reading}
use Rattle.intake.specs.Intake.{Belongs, starts_a1, taken_of, Taken}

-- a record starts with A1
pub record_starts : (t : List ℕ) (v : EntryValue) → IsRecord t v → get_or t 0 0 ≡ 0xA1
unfolding record_bytes field_bytes
record_starts t v r = ap (λ (l : List ℕ). get_or l 0 0) (sym r.bytes)

-- A1 is no byte of a line
pub line_starts : (pieces : Pieces) (t : List ℕ) (v : EntryValue) → Line pieces t v → get_or t 0 0 ≡ 0xA1 → ⊥
line_starts pieces [] v a e = absurd (omega arith)
line_starts pieces (b ∷ t) v a e = a.ascii (record { place = 0; within = omega arith; high = omega arith })

-- no text belongs to both
pub no_text_is_both : (pieces : Pieces) (t : List ℕ) (v w : EntryValue) → Line pieces t v → IsRecord t w → ⊥
no_text_is_both pieces t v w a r = line_starts pieces t v a (record_starts t w r)

-- each text has one reading
pub one_reading : (pieces : Pieces) (t : List ℕ) (v w : EntryValue) → Belongs pieces t v → Belongs pieces t w → v ≡ w
one_reading pieces t v w (Belongs.line a) (Belongs.line b) = one_line_reading pieces t a b
one_reading pieces t v w (Belongs.line a) (Belongs.a_record b) = absurd (no_text_is_both pieces t v w a b)
one_reading pieces t v w (Belongs.a_record a) (Belongs.line b) = absurd (no_text_is_both pieces t w v b a)
one_reading pieces t v w (Belongs.a_record a) (Belongs.a_record b) = one_record_reading t v w a b

-- the first byte decides
taken_record : (pieces : Pieces) (t : List ℕ) (room : ℕ) → get_or t 0 0 ≡ 0xA1 → taken_of pieces t room ≡ read_of t room
unfolding taken_of starts_a1
taken_record pieces t room e = rw (eq-eqb _ _ e)

taken_line : (pieces : Pieces) (t : List ℕ) (room : ℕ) → (get_or t 0 0 ≡ 0xA1 → ⊥) → taken_of pieces t room ≡ parse_of pieces t room
unfolding taken_of starts_a1
taken_line pieces t room n = rw (ne_eqb _ _ n)

-- given 256 slots, a text is accepted exactly when it belongs to the line grammar or to the record grammar
pub accepted_exactly_when_it_belongs : (pieces : Pieces) (t : List ℕ) → Bytes t → ((e : Entry) × (taken_of pieces t 256 ≡ T.is e)) ↔ ((v : EntryValue) × Belongs pieces t v)
accepted_exactly_when_it_belongs pieces t bytes =
    (λ x. mp (eqb (get_or t 0 0) 0xA1) refl x.0 x.1, λ y. mpr y.0 y.1)
  where
    mp : (b : Bool) → eqb (get_or t 0 0) 0xA1 ≡ b → (e : Entry) → taken_of pieces t 256 ≡ T.is e → (v : EntryValue) × Belongs pieces t v
    mp true q e n =
        let r : read_of t 256 ≡ T.is e = sym (taken_record pieces t 256 (eqb-true _ _ q)) ∙ n in
        (_, Belongs.a_record (accepted_is_record t bytes 256 e r))
    mp false q e n =
        let w = (line_accepted_exactly pieces t).0 (e, sym (taken_line pieces t 256 (eqb-false _ _ q)) ∙ n) in
        (w.0, Belongs.line w.1)

    mpr : (v : EntryValue) → Belongs pieces t v → (e : Entry) × (taken_of pieces t 256 ≡ T.is e)
    mpr v (Belongs.line a) =
        let w = (line_accepted_exactly pieces t).1 (v, a) in
        (w.0, taken_line pieces t 256 (line_starts pieces t v a) ∙ w.1)
    mpr v (Belongs.a_record r) =
        let slots : List ℕ = replicate 256 0 in
        let w = (record_accepted_exactly t bytes (replicate 256 0) (omega arith) v).1 r in
        (w.entry, taken_record pieces t 256 (record_starts t v r) ∙ w.answer)

-- no second answer satisfies the contract of `read`, slots included
pub no_second_reading : (pieces : Pieces) (t slots : List ℕ) {left other : List ℕ} {r q : Result Entry Refusal} → Taken pieces t slots left r → Taken pieces t slots other q → (r ≡ q) × (left ≡ other)
no_second_reading pieces t slots {left} {other} {r} {q} a b =
    let same : told r ≡ told q = a.answer ∙ sym b.answer in
    (one_told r q same, a.slots ∙ rw same (sym b.slots))

-- a text that starts with A1 is read the same by either choice, slots included
pub record_either_choice : (p q : Pieces) (t slots : List ℕ) → starts_a1 t ≡ true → {left other : List ℕ} {r s : Result Entry Refusal} → Taken p t slots left r → Taken q t slots other s → (r ≡ s) × (left ≡ other)
unfolding taken_of
record_either_choice p q t slots first {left} {other} {r} {s} a b =
    let same : told r ≡ told s = a.answer ∙ rw first (sym (b.answer ∙ rw first)) in
    (one_told r s same, a.slots ∙ rw same (sym b.slots))
