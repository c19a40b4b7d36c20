-- An entry that is answered of a unit: the unit is kept whole and answered as the intake reads it, so what is proved of that call holds of it.
-- Assumes nothing.
use Rattle.std.specs.Prelude.{Ok, Option, Result, Some}
use Rattle.refusal.specs.declared.Refusal.{Refusal}
use Prim.Native.Nat.{ℕ, ◌+◌, ◌≤◌}
use mathlib.Core.Path.{◌≡◌, refl, sym, ap, subst, ◌∙◌}
use mathlib.Core.Bool.{Bool, true, false, cond}
use mathlib.Core.List.{List, [], ◌∷◌, ◌++◌, append-nil}
use mathlib.Core.Logic.{◌↔◌}
use native.Mathlib.Omega.{arith}
use lib.Dec.{ltb}
use lib.ListN.{length, take, drop, length-append, length-drop}
use lib.Seq.{take_all, take_at, take-append-le, drop-append-le}
use Rattle.text.specs.Told as T
use Rattle.tlv.specs.Number.{Bytes}
use Rattle.entry.specs.declared.Entry.{Entry}
use Rattle.entry.specs.Entry.{EntryValue, part_of, value_of, Lies}
use Rattle.entry.proofs.Parts.{part_in}
use Rattle.scan.specs.declared.Pieces.{Pieces}
use Rattle.scan.specs.Parse.{parse_of, slots_by}
use Rattle.scan.proofs.Theorems.{line_entry_is}
use Rattle.record.specs.Grammar.{IsRecord}
use Rattle.record.specs.Reading.{read_of}
use Rattle.intake.specs.Intake.{Belongs, starts_a1, taken_of, taken_dwords}
use Rattle.intake.specs.Demand3.{ReadCall}
use Rattle.intake.proofs.Demand3.{line_has_a_record, record_is_the_writers, writes_record}
use Rattle.intake.proofs.Slots.{with_more_slots}
use Rattle.units.specs.declared.Framing.TheVariants.{Both}
use Rattle.units.specs.Units.{marked, stated}
use Rattle.units.specs.Kept.{is_long, kept_text, stood}
use Rattle.refusal.specs.Told.{told_maybe}
use Rattle.stream.specs.Answers.{answer_of, said_by, said_of}
use Rattle.stream.specs.Feeding.{Given}
use Rattle.stream.proofs.Records.{said_belongs, line_accepted, record_accepted, unit_says, belongs_ranged}
use Rattle.stream.specs.Streams.{EntryOf}

-- ---- an entry's answer is the intake's

module _ (pieces : Pieces) (u : List ℕ) (room : ℕ) (e : Entry) (q : answer_of pieces u room ≡ T.is e) where
  entry_taken : taken_of pieces u room ≡ T.is e
  unfolding answer_of taken_of
  entry_taken = go (starts_a1 u) (is_long u) (ltb (length u) (stated u)) q
    where
      go : (a b d : Bool) → cond a (cond b (T.refused 55) (cond d (T.refused 54) (read_of u room))) (parse_of pieces u room) ≡ T.is e → cond a (read_of u room) (parse_of pieces u room) ≡ T.is e
      go true true d h = absurd (let z : ◌≡◌ {A = ℕ} 0 1 = cc in omega arith)
      go true false true h = absurd (let z : ◌≡◌ {A = ℕ} 0 1 = cc in omega arith)
      go true false false h = h
      go false b d h = h

  -- and all of it is kept
  entry_kept : kept_text Both u ≡ u
  unfolding answer_of kept_text marked starts_a1
  entry_kept = go (starts_a1 u) refl (is_long u) (ltb (length u) (stated u)) q
    where
      go : (a : Bool) → starts_a1 u ≡ a → (b d : Bool) → cond a (cond b (T.refused 55) (cond d (T.refused 54) (read_of u room))) (parse_of pieces u room) ≡ T.is e → cond a (cond b (take 3 u) u) (take 4097 u) ≡ u
      go true x true d h = absurd (let z : ◌≡◌ {A = ℕ} 0 1 = cc in omega arith)
      go true x false d h = refl
      go false x b d h = take_all 4097 u (omega (arith, (line_entry_is pieces u room h).short))

-- ---- what it says, with a buffer that goes on behind it

part_front : (l back : List ℕ) (at n : ℕ) → at + n ≤ length l → part_of (l ++ back) at n ≡ part_of l at n
part_front l back at n h =
    sym (part_in (l ++ back) at n (omega (arith, h, length-append l back)))
    ∙ ap (take n) (drop-append-le at l back (omega (arith, h)))
    ∙ take-append-le n (drop at l) back (omega (arith, h, length-drop at l))
    ∙ part_in l at n h

value_front : (e : Entry) (l back slots : List ℕ) → Lies e l slots → value_of e (l ++ back) slots ≡ value_of e l slots
unfolding value_of
value_front e l back slots lies = rw (part_front l back e.task_at e.task_len lies.task, part_front l back e.function_at e.function_len lies.function)

-- an entry that was read says what its text says
module _ (pieces : Pieces) (u slots : List ℕ) (e : Entry) (left : List ℕ) (c : ReadCall pieces u slots (Ok e) left) where
  pub record Said : Type 0 where
    pub value : EntryValue
    pub belongs : Belongs pieces u value
    pub lies : Lies e u left
    pub is : value_of e u left ≡ value

  read_says : Said
  read_says = go (starts_a1 u) refl
    where
      go : (b : Bool) → starts_a1 u ≡ b → Said
      go false x = let h = line_has_a_record pieces u slots e left x c in record { value = h.0; belongs = Belongs.line h.1; lies = h.2.says.lies; is = h.2.says.is }
      go true x =
          let h = record_is_the_writers pieces u slots e left x c in
          record { value = h.0; belongs = Belongs.a_record (subst (λ (l : List ℕ). IsRecord l h.0) h.1 h.2.is_record); lies = h.2.says.lies; is = h.2.says.is }

pub said_one : (pieces : Pieces) (u : List ℕ) (v : EntryValue) → Belongs pieces u v → said_of pieces (u ∷ []) ≡ v ∷ []
unfolding said_of
said_one pieces u v b = append-nil (said_by u (answer_of pieces u 256)) ∙ unit_says pieces u v b

-- ---- an entry that a call answered

module _ (pieces : Pieces) (u rest slots rest' slots' : List ℕ) (answer : Result (Option Entry) Refusal) (e : Entry) (bytes : Bytes u) (enough : 256 ≤ length slots) (buffer : rest' ≡ stood Both u rest) (g : Given (answer_of pieces u (length slots)) (taken_dwords u) slots slots' answer) (is-entry : answer ≡ Ok (Some e)) where
  told : answer_of pieces u (length slots) ≡ T.is e
  told = sym g.answer ∙ ap told_maybe is-entry

  call : ReadCall pieces u slots (Ok e) slots'
  call = record { bytes = bytes; enough = enough; contract = record { answer = sym (entry_taken pieces u (length slots) e told); slots = g.slots_are ∙ ap (λ (t : T.Told Entry). slots_by t (taken_dwords u) slots) told } }

  buffer_is : rest' ≡ u ++ drop (length u) rest
  unfolding stood
  buffer_is = buffer ∙ ap (λ (l : List ℕ). l ++ drop (length l) rest) (entry_kept pieces u (length slots) e told)

  pub entry_of : EntryOf pieces u slots e rest' slots'
  entry_of =
      let s = read_says pieces u slots e slots' call in
      record {
        stands = ap (take (length u)) buffer_is ∙ take_at u (drop (length u) rest) (length u) refl;
        read = call;
        written = λ out answer left w. writes_record rest' e slots' (value_of e rest' slots') (record { lies = lies-on s; is = refl }) (rw (value_is s) (belongs_ranged pieces u s.value s.belongs)) out answer left w;
        says =
            said_one pieces u s.value s.belongs
            ∙ ap (λ (v : EntryValue). v ∷ []) (sym (value_is s));
      }
    where
      value_is : (s : Said pieces u slots e slots' call) → value_of e rest' slots' ≡ s.value
      value_is s = ap (λ (l : List ℕ). value_of e l slots') buffer_is ∙ value_front e u (drop (length u) rest) slots' s.lies ∙ s.is

      lies-on : Said pieces u slots e slots' call → Lies e rest' slots'
      lies-on s =
          let n : length rest' ≡ length u + length (drop (length u) rest) = ap length buffer_is ∙ length-append u (drop (length u) rest) in
          record { task = omega (arith, n, s.lies.task); function = omega (arith, n, s.lies.function); dwords = s.lies.dwords }

module _ (pieces : Pieces) where
  -- ---- accepted exactly

  pub more_slots : (u : List ℕ) → Bytes u → (room : ℕ) → 256 ≤ room → (e : Entry) → answer_of pieces u 256 ≡ T.is e → answer_of pieces u room ≡ T.is e
  unfolding answer_of taken_of
  more_slots u b room h e q = go (starts_a1 u) (is_long u) (ltb (length u) (stated u)) q (with_more_slots pieces u b room h)
    where
      go : (x y z : Bool) → cond x (cond y (T.refused 55) (cond z (T.refused 54) (read_of u 256))) (parse_of pieces u 256) ≡ T.is e → cond x (read_of u room) (parse_of pieces u room) ≡ cond x (read_of u 256) (parse_of pieces u 256) → cond x (cond y (T.refused 55) (cond z (T.refused 54) (read_of u room))) (parse_of pieces u room) ≡ T.is e
      go true true z q m = q
      go true false true q m = q
      go true false false q m = m ∙ q
      go false y z q m = m ∙ q

  pub accepted : (u : List ℕ) → Bytes u → (room : ℕ) → 256 ≤ room → ((e : Entry) × (answer_of pieces u room ≡ T.is e)) ↔ ((v : EntryValue) × Belongs pieces u v)
  accepted u b room h = (λ x. (_, said_belongs pieces u b room x.0 x.1), λ y. all y.0 y.1)
    where
      all : (v : EntryValue) → Belongs pieces u v → (e : Entry) × (answer_of pieces u room ≡ T.is e)
      all v (Belongs.line a) = let f = line_accepted pieces u v a in (f.0, more_slots u b room h f.0 f.1)
      all v (Belongs.a_record r) = let f = record_accepted pieces u v r in (f.0, more_slots u b room h f.0 f.1)

  -- a unit that is refused with slots for every entry says nothing
  pub refused_says : (u : List ℕ) → Bytes u → (room : ℕ) → 256 ≤ room → (k : ℕ) → answer_of pieces u room ≡ T.refused k → said_of pieces (u ∷ []) ≡ []
  unfolding said_of said_by
  refused_says u b room h k q = append-nil (said_by u (answer_of pieces u 256)) ∙ go (answer_of pieces u 256) refl
    where
      go : (r : T.Told Entry) → answer_of pieces u 256 ≡ r → said_by u r ≡ []
      go (T.is e) x = absurd (let z : T.is e ≡ T.refused k = sym (more_slots u b room h e x) ∙ q in let n : ◌≡◌ {A = ℕ} 0 1 = cc in omega arith)
      go T.absent x = refl
      go (T.refused j) x = refl
