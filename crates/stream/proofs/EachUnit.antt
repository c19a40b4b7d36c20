-- Demand 3 for each unit: a unit that is accepted is kept whole and answered as the intake reads it, so what is proved of that call holds of it.
-- Assumes nothing.
use Rattle.std.specs.Prelude.{Ok, Option, Result, Some}
use Rattle.refusal.specs.declared.Refusal.{Refusal}
use Prim.Native.Nat.{ℕ, ◌≤◌, ◌<◌}
use mathlib.Core.Path.{◌≡◌, refl, sym, ap, subst, ◌∙◌}
use mathlib.Core.Bool.{Bool, true, false, cond}
use mathlib.Core.List.{List, [], ◌∷◌, ◌++◌}
use native.Mathlib.Omega.{arith}
use lib.Dec.{ltb, eqb}
use lib.ListN.{length, get_or, take}
use borrow.Author.Tests.{eqb-true, le-ltb, lt-ltb}
use Rattle.text.specs.Told as T
use Rattle.text.proofs.Places.{clash}
use Rattle.tlv.specs.Number.{Bytes}
use Rattle.tlv.proofs.Fields.{found_field, field_is, two_bytes}
use Rattle.tlv.proofs.Places.{bytes_take}
use Rattle.entry.specs.declared.Entry.{Entry}
use Rattle.entry.specs.Entry.{EntryValue, value_of}
use Rattle.scan.specs.declared.Pieces.{Pieces}
use Rattle.scan.specs.Parse.{parse_of}
use Rattle.scan.specs.Line.{Line}
use Rattle.scan.proofs.Theorems.{line_number_exactly, past_table}
use Rattle.record.specs.Conditions.{Framed, Refuses, breaks, few_slots, unframed, runs_past, wrong_tag, wrong_body, lacks_tag}
use Rattle.record.specs.Grammar.{IsRecord}
use Rattle.record.specs.Reading.{read_of}
use Rattle.record.proofs.Records.{record_refused_exactly}
use Rattle.intake.specs.Intake.{Belongs, starts_a1, taken_dwords}
use Rattle.intake.specs.Demand3Packets.{packet_for}
use Rattle.intake.proofs.FirstBytes.{overlong_line}
use Rattle.intake.proofs.Made.{bytes_join}
use Rattle.intake.proofs.WhatItIs.{record_number_range}
use Rattle.units.specs.declared.Framing.TheVariants.{Both}
use Rattle.units.specs.declared.State.{State}
use Rattle.units.specs.Units.{marked, stated, Whole, Open, Rest, Sofar}
use Rattle.units.specs.Kept.{is_long, Keeps, is_kept}
use Rattle.units.proofs.Streams.{rest_left, one_sofar}
use Rattle.stream.specs.declared.Fed.{Fed}
use Rattle.stream.specs.declared.Finished.{Finished}
use Rattle.refusal.specs.Told.{told_maybe}
use Rattle.stream.specs.Answers.{answer_of}
use Rattle.stream.specs.Feeding.{Given, Answered, FedOn, FeedDone, FinishDone, end_of}
use Rattle.stream.specs.Streams.{Calls, IsUnit, EntryOf, EachUnit}
use Rattle.stream.proofs.Entries.{said_one, entry_of, accepted}
use Rattle.stream.proofs.Whole.{stands, passes, kept_stands}

absent_entry : {a : Result (Option Entry) Refusal} {e : Entry} → told_maybe a ≡ T.absent → a ≡ Ok (Some e) → ⊥
absent_entry h q = let z : ◌≡◌ {A = ℕ} 0 1 = cc in omega arith

-- ---- an entry that a call answered

module _ (pieces : Pieces) (room : ℕ) (taken rest : List ℕ) (answers : List (T.Told Entry)) (values : List EntryValue) (st : State) (c : Calls pieces room taken answers values rest st) (us : List (List ℕ)) (since : List ℕ) (so : Sofar Both taken us since) (enough : 256 ≤ room) where
  -- what is open is what the calls keep
  open_is : Keeps Both since rest st.held st.passed × Bytes since
  open_is =
      let x = stands pieces room c in
      let e : x.since ≡ since = (one_sofar Both refl x.so_far so).1 in
      (subst (λ (l : List ℕ). Keeps Both l rest st.held st.passed) e x.keeps, subst Bytes e x.bytes)

  good : is_kept Both rest st.held st.passed ≡ true
  good = passes pieces room (stands pieces room c)

  call_entry : (part slots rest' slots' : List ℕ) (r : Fed) (e : Entry) → Bytes part → length slots ≡ room → FeedDone pieces part rest slots st rest' slots' r → r.answer ≡ Ok (Some e) → Whole Both (since ++ take r.at part) × EntryOf pieces (since ++ take r.at part) slots e rest' slots'
  call_entry part slots rest' slots' r e bp n done is-entry = go on on.answered
    where
      on : FedOn pieces since part rest slots rest' slots' r
      on = done.fed good since (rest_left Both so) open_is.0

      go : FedOn pieces since part rest slots rest' slots' r → Answered pieces (since ++ take r.at part) part slots slots' r → Whole Both (since ++ take r.at part) × EntryOf pieces (since ++ take r.at part) slots e rest' slots'
      go f (Answered.wants o at s g) = absurd (absent_entry g.answer is-entry)
      go f (Answered.ends w s g) =
          (w, entry_of pieces (since ++ take r.at part) rest slots rest' slots' r.answer e (bytes_join since (take r.at part) open_is.1 (bytes_take part r.at bp)) (omega (arith, enough, n)) f.buffer g is-entry)

  end_entry : (slots slots' : List ℕ) (r : Finished) (e : Entry) → length slots ≡ room → FinishDone pieces rest slots st slots' r → r.answer ≡ Ok (Some e) → Open Both since × EntryOf pieces since slots e rest slots'
  unfolding end_of
  end_entry slots slots' r e n done is-entry = go since (rest_left Both so) open_is.0 open_is.1 (done.ended good since (rest_left Both so) open_is.0).1
    where
      go : (u : List ℕ) → Rest Both u → Keeps Both u rest st.held st.passed → Bytes u → Given (end_of pieces u (length slots)) (taken_dwords u) slots slots' r.answer → Open Both u × EntryOf pieces u slots e rest slots'
      go [] o k b g = absurd (absent_entry g.answer is-entry)
      go (x ∷ u) (Rest.none z) k b g = absurd (let m : length (x ∷ u) ≡ 0 = ap length z in omega (arith, m))
      go (x ∷ u) (Rest.some o) k b g = (o, entry_of pieces (x ∷ u) rest slots rest slots' r.answer e b (omega (arith, enough, n)) (kept_stands k) g is-entry)

-- ---- a line and its record

-- the entry of a unit says what the unit says
entry_says : (pieces : Pieces) (u slots : List ℕ) (e : Entry) (rest' slots' : List ℕ) (v : EntryValue) → Belongs pieces u v → EntryOf pieces u slots e rest' slots' → value_of e rest' slots' ≡ v
entry_says pieces u slots e rest' slots' v b x = let same : value_of e rest' slots' ∷ [] ≡ v ∷ [] = sym x.says ∙ said_one pieces u v b in cc

line_and_record : (pieces : Pieces) (u t : List ℕ) (v : EntryValue) → Line pieces u v → IsRecord t v → (slots : List ℕ) (e : Entry) (rest' slots' : List ℕ) → EntryOf pieces u slots e rest' slots' → (any : Pieces) (other : List ℕ) (f : Entry) (rest'' slots'' : List ℕ) → EntryOf any t other f rest'' slots'' → (value_of e rest' slots' ≡ value_of f rest'' slots'') × ((book : List ℕ) → packet_for (value_of e rest' slots') book ≡ packet_for (value_of f rest'' slots'') book)
line_and_record pieces u t v a r slots e rest' slots' x any other f rest'' slots'' y =
    let same : value_of e rest' slots' ≡ value_of f rest'' slots'' = entry_says pieces u slots e rest' slots' v (Belongs.line a) x ∙ sym (entry_says any t other f rest'' slots'' v (Belongs.a_record r) y) in
    (same, λ book. ap (λ (w : EntryValue). packet_for w book) same)

-- ---- 30

-- a record of the length that it says has its frame
stated_framed : (u : List ℕ) → Bytes u → starts_a1 u ≡ true → length u ≡ stated u → Framed u
unfolding stated starts_a1
stated_framed u b x n =
    field_is u 0 0xA1 3 (length u)
    (found_field u 0 0xA1 3 (length u) (record { tag_is = sym (eqb-true (get_or u 0 0) 0xA1 x); from_is = refl; to_is = omega (arith, n, two_bytes u 1); within = omega arith }))

breaks_30 : (u : List ℕ) → Framed u → (room : ℕ) → Refuses u room 30 → ⊥
breaks_30 u f room (breaks (unframed e h)) = h f
breaks_30 u f room (breaks (runs_past e at ps g r)) = omega (arith, e)
breaks_30 u f room (breaks (wrong_tag e at ps tag from to g x h)) = omega (arith, e)
breaks_30 u f room (breaks (wrong_body e at ps tag from to g x up known h)) = omega (arith, e)
breaks_30 u f room (breaks (lacks_tag e ps tag g m l)) = omega (arith, e)
breaks_30 u f room (few_slots e x) = omega (arith, e)

unit_length : (u : List ℕ) → IsUnit u → starts_a1 u ≡ true → ltb (length u) (stated u) ≡ false → length u ≡ stated u
unfolding starts_a1 marked
unit_length u (IsUnit.whole (Whole.line n t e b z)) x l = absurd (clash x t)
unit_length u (IsUnit.whole (Whole.a_record t e)) x l = e
unit_length u (IsUnit.open_at_end (Open.line t s b)) x l = absurd (clash x t)
unit_length u (IsUnit.open_at_end (Open.a_record t s)) x l = absurd (clash (lt-ltb (length u) (stated u) s) l)

never_30 : (pieces : Pieces) (u : List ℕ) → Bytes u → IsUnit u → (room : ℕ) → answer_of pieces u room ≡ T.refused 30 → ⊥
unfolding answer_of
never_30 pieces u b w room q = go (starts_a1 u) refl (is_long u) (ltb (length u) (stated u)) refl q
  where
    go : (x : Bool) → starts_a1 u ≡ x → (y z : Bool) → ltb (length u) (stated u) ≡ z → cond x (cond y (T.refused 55) (cond z (T.refused 54) (read_of u room))) (parse_of pieces u room) ≡ T.refused 30 → ⊥
    go true x true z e h = let n : ◌≡◌ {A = ℕ} 55 30 = cc in omega (arith, n)
    go true x false true e h = let n : ◌≡◌ {A = ℕ} 54 30 = cc in omega (arith, n)
    go true x false false e h = breaks_30 u (stated_framed u b x (unit_length u w x e)) room ((record_refused_exactly u b room 30).0 h)
    go false x y z e h = past_table pieces u room 30 (omega arith) ((line_number_exactly pieces u room 30).0 h).holds

-- ---- the other numbers

no_line_overlong : (pieces : Pieces) (u : List ℕ) → starts_a1 u ≡ false → 4096 < length u → (room : ℕ) → answer_of pieces u room ≡ T.refused (cond (eqb (get_or u 0 0) 35) 1 2)
unfolding answer_of
no_line_overlong pieces u x h room = rw x (overlong_line pieces u room h)

never_54 : (pieces : Pieces) (u : List ℕ) → Bytes u → Whole Both u → (room : ℕ) → answer_of pieces u room ≡ T.refused 54 → ⊥
unfolding answer_of starts_a1 marked
never_54 pieces u b (Whole.line n t e z l) room q = past_table pieces u room 54 (omega arith) ((line_number_exactly pieces u room 54).0 (rw t at q)).holds
never_54 pieces u b (Whole.a_record t e) room q = go (is_long u) (rw (t, le-ltb (length u) (stated u) (omega (arith, e))) at q)
  where
    by : Refuses u room 54 → ⊥
    by (breaks x) = let r = record_number_range u 54 x in omega (arith, r.1)
    by (few_slots h x) = omega (arith, h)

    go : (y : Bool) → cond y (T.refused 55) (read_of u room) ≡ T.refused 54 → ⊥
    go true h = let n : ◌≡◌ {A = ℕ} 55 54 = cc in omega (arith, n)
    go false h = by ((record_refused_exactly u b room 54).0 h)

-- DEMAND 3 FOR EACH UNIT
pub each_unit : (pieces : Pieces) → EachUnit pieces
each_unit pieces =
    record {
      accepted = accepted pieces;
      says = λ u b v x. said_one pieces u v x;
      entry_of = λ room taken rest answers values st c us since so h. call_entry pieces room taken rest answers values st c us since so h;
      end_entry_of = λ room taken rest answers values st c us since so h. end_entry pieces room taken rest answers values st c us since so h;
      line_and_record = line_and_record pieces;
      overlong = no_line_overlong pieces;
      never_54 = never_54 pieces;
      never_30 = never_30 pieces;
    }
