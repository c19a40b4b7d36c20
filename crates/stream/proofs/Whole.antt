-- However a stream is cut, its answers are those of its units: each call takes the stream one step on, and what it keeps is the bytes since the last
-- unit. Assumes nothing.
use Rattle.std.specs.Prelude.{Err, None, Ok, Option, Result, Some}
use Rattle.refusal.specs.declared.Refusal.{Refusal}
use Prim.Native.Nat.{ℕ, zero, suc, ◌≤◌, ◌<◌}
use mathlib.Core.Path.{◌≡◌, refl, sym, ap, subst, ◌∙◌}
use mathlib.Core.Bool.{Bool, true, false, cond}
use mathlib.Core.List.{List, [], ◌∷◌, ◌++◌, map, append_assoc, append-nil}
use native.Mathlib.Omega.{arith}
use lib.Dec.{ltb}
use lib.ListN.{length, take, drop, take-append-drop}
use lib.Seq.{length-take-le}
use Rattle.text.specs.Told as T
use Rattle.tlv.specs.Number.{Bytes}
use Rattle.tlv.proofs.Places.{bytes_take}
use Rattle.entry.specs.declared.Entry.{Entry}
use Rattle.entry.specs.Entry.{EntryValue}
use Rattle.scan.specs.declared.Pieces.{Pieces}
use Rattle.scan.specs.Parse.{parse_of}
use Rattle.record.specs.Reading.{read_of}
use Rattle.intake.specs.Intake.{starts_a1, taken_dwords}
use Rattle.intake.proofs.Made.{bytes_join}
use Rattle.intake.proofs.WhatItIs.{line_never_none, record_never_none}
use Rattle.units.specs.declared.Framing.TheVariants.{Both}
use Rattle.units.specs.declared.State.{State}
use Rattle.units.specs.Units.{stated, Whole, Rest, Sofar, Units, closing}
use Rattle.units.specs.Kept.{is_long, kept_text, kept_count, stood, Keeps, is_kept}
use Rattle.units.proofs.Streams.{goes_on, ends_one, rest_left, at_end, one_units, one_sofar, never_whole}
use Rattle.units.proofs.Existence.{has_units}
use Rattle.units.proofs.WhatIsKept.{stood_keeps, stood_size, keeps_nothing, whole_fits, rest_fits}
use Rattle.units.proofs.States.{keeps_kept, kept_some}
use Rattle.stream.specs.declared.Fed.{Fed}
use Rattle.refusal.specs.Number.{number_of}
use Rattle.refusal.specs.Told.{told_maybe}
use Rattle.stream.specs.Answers.{answer_of, said_by, said_of}
use Rattle.stream.specs.Feeding.{empty, state_of, Given, Answered, FedOn, FeedDone, end_of}
use Rattle.stream.specs.Streams.{answers_in, values_in, Calls, Went, CutAnywhere}
use Rattle.stream.proofs.Entries.{entry_of, refused_says}

-- a buffer that keeps a unit has it in front already
pub kept_stands : {u rest : List ℕ} {held passed : ℕ} → Keeps Both u rest held passed → rest ≡ stood Both u rest
unfolding stood
kept_stands {u} {rest} {held} k =
    let n : length (kept_text Both u) ≡ held = ap length (sym k.text_is) ∙ length-take-le held rest (omega (arith, k.size, k.within)) in
    sym (take-append-drop held rest) ∙ ap (λ (l : List ℕ). l ++ drop held rest) k.text_is ∙ ap (λ (m : ℕ). kept_text Both u ++ drop m rest) (sym n)

-- what a call leaves keeps what is open after it
pub wants_keeps : (w rest rest' : List ℕ) (st : State) → length rest ≡ 8192 → Rest Both w → st ≡ state_of w → rest' ≡ stood Both w rest → Keeps Both w rest' st.held st.passed
wants_keeps w rest rest' st size o e b =
    subst (λ (y : State). Keeps Both w rest' y.held y.passed) (sym e) (subst (λ (l : List ℕ). Keeps Both w l (length (kept_text Both w)) (kept_count Both w)) (sym b) (stood_keeps Both w rest size (rest_fits Both w o)))

pub ends_keeps : (w rest rest' : List ℕ) (st : State) → length rest ≡ 8192 → Whole Both w → st ≡ empty → rest' ≡ stood Both w rest → Keeps Both [] rest' st.held st.passed
ends_keeps w rest rest' st size o e b =
    subst (λ (y : State). Keeps Both [] rest' y.held y.passed) (sym e) (keeps_nothing Both rest' (ap length b ∙ stood_size Both w rest size (whole_fits Both w o)))

-- a call that is not 53 takes a byte of a part that has one
moves_on : (pieces : Pieces) (part rest slots : List ℕ) (st : State) (rest' slots' : List ℕ) (r : Fed) → FeedDone pieces part rest slots st rest' slots' r → is_kept Both rest st.held st.passed ≡ true → 0 < length part → 0 < r.at
moves_on pieces part rest slots st rest' slots' r done q some = let u = kept_some Both rest st.held st.passed q in go u.0 u.1.0 (done.fed q u.0 u.1.0 u.1.1).answered
  where
    none_taken : (n : ℕ) (u : List ℕ) → Rest Both u → Whole Both (u ++ take n part) → 0 < n
    none_taken zero u o w = absurd (never_whole Both u o (subst (Whole Both) (append-nil u) w))
    none_taken (suc n) u o w = omega arith

    go : (u : List ℕ) → Rest Both u → Answered pieces (u ++ take r.at part) part slots slots' r → 0 < r.at
    go u o (Answered.wants a at s g) = omega (arith, at, some)
    go u o (Answered.ends w s g) = none_taken r.at u o w

-- something is told of every unit
pub unit_never_none : (pieces : Pieces) (u : List ℕ) (room : ℕ) → answer_of pieces u room ≡ T.absent → ⊥
unfolding answer_of
unit_never_none pieces u room q = go (starts_a1 u) (is_long u) (ltb (length u) (stated u)) q
  where
    go : (a b d : Bool) → cond a (cond b (T.refused 55) (cond d (T.refused 54) (read_of u room))) (parse_of pieces u room) ≡ T.absent → ⊥
    go true true d h = let z : ◌≡◌ {A = ℕ} 0 1 = cc in omega arith
    go true false true h = let z : ◌≡◌ {A = ℕ} 0 1 = cc in omega arith
    go true false false h = record_never_none u room h
    go false b d h = line_never_none pieces u room h

-- so each unit adds its answer
told_adds : (r : T.Told Entry) → (r ≡ T.absent → ⊥) → answers_in r ≡ r ∷ []
unfolding answers_in
told_adds (T.is e) h = refl
told_adds T.absent h = absurd (h refl)
told_adds (T.refused k) h = refl

module _ (pieces : Pieces) (room : ℕ) where
  unit_adds : (u : List ℕ) → answers_in (answer_of pieces u room) ≡ answer_of pieces u room ∷ []
  unit_adds u = told_adds (answer_of pieces u room) (unit_never_none pieces u room)

  end_adds : (u : List ℕ) → answers_in (end_of pieces u room) ≡ map (λ (w : List ℕ). answer_of pieces w room) (closing u)
  unfolding end_of closing answers_in
  end_adds [] = refl
  end_adds (b ∷ u) = unit_adds (b ∷ u)

  map_both : (a b : List (List ℕ)) → map (λ (w : List ℕ). answer_of pieces w room) (a ++ b) ≡ map (λ (w : List ℕ). answer_of pieces w room) a ++ map (λ (w : List ℕ). answer_of pieces w room) b
  map_both [] b = refl
  map_both (x ∷ a) b = ap (λ (l : List (T.Told Entry)). answer_of pieces x room ∷ l) (map_both a b)

  said_both : (a b : List (List ℕ)) → said_of pieces (a ++ b) ≡ said_of pieces a ++ said_of pieces b
  unfolding said_of
  said_both [] b = refl
  said_both (u ∷ a) b = ap (λ (l : List EntryValue). said_by u (answer_of pieces u 256) ++ l) (said_both a b) ∙ sym (append_assoc (said_by u (answer_of pieces u 256)) (said_of pieces a) (said_of pieces b))

  -- what a call's answer of a unit says is what the unit says
  unit_values : (u rest slots rest' slots' : List ℕ) (answer : Result (Option Entry) Refusal) → Bytes u → 256 ≤ length slots → rest' ≡ stood Both u rest → Given (answer_of pieces u (length slots)) (taken_dwords u) slots slots' answer → values_in (told_maybe answer) rest' slots' ≡ said_of pieces (u ∷ [])
  unfolding values_in
  unit_values u rest slots rest' slots' (Ok (Some e)) b n x g = sym (entry_of pieces u rest slots rest' slots' (Ok (Some e)) e b n x g refl).says
  unit_values u rest slots rest' slots' (Err k) b n x g = sym (refused_says pieces u b (length slots) n (number_of k) (sym g.answer))
  unit_values u rest slots rest' slots' (Ok None) b n x g = absurd (unit_never_none pieces u (length slots) (sym g.answer))

  nothing_said : (answer : Result (Option Entry) Refusal) (rest slots : List ℕ) → told_maybe answer ≡ T.absent → values_in (told_maybe answer) rest slots ≡ []
  unfolding values_in
  nothing_said answer rest slots e = ap (λ (t : T.Told Entry). values_in t rest slots) e

  -- where calls stand: the units that have ended, the bytes since, which are kept, the answers, and what they say
  pub record Stands (taken : List ℕ) (answers : List (T.Told Entry)) (values : List EntryValue) (rest : List ℕ) (st : State) : Type 0 where
    pub units : List (List ℕ)
    pub since : List ℕ
    pub so_far : Sofar Both taken units since
    pub keeps : Keeps Both since rest st.held st.passed
    pub bytes : Bytes since
    pub answers_are : answers ≡ map (λ (w : List ℕ). answer_of pieces w room) units
    pub values_are : 256 ≤ room → values ≡ said_of pieces units

  pub passes : {taken rest : List ℕ} {answers : List (T.Told Entry)} {values : List EntryValue} {st : State} (x : Stands taken answers values rest st) → is_kept Both rest st.held st.passed ≡ true
  passes {rest = rest} {st = st} x = keeps_kept Both x.since rest st.held st.passed (rest_left Both x.so_far) (x.bytes 1) x.keeps

  -- one call more
  module _ {taken rest : List ℕ} {answers : List (T.Told Entry)} {values : List EntryValue} {st : State} (x : Stands taken answers values rest st) (part slots rest' slots' : List ℕ) (r : Fed) (bs : Bytes part) (n : length slots ≡ room) (done : FeedDone pieces part rest slots st rest' slots' r) where
    abbrev w : List ℕ
    w = x.since ++ take r.at part

    on : FedOn pieces x.since part rest slots rest' slots' r
    on = done.fed (passes x) x.since (rest_left Both x.so_far) x.keeps

    pub w_bytes : Bytes w
    w_bytes = bytes_join x.since (take r.at part) x.bytes (bytes_take part r.at bs)

    wants_stands : Rest Both w → r.state ≡ state_of w → Given T.absent [] slots slots' r.answer → Stands (taken ++ take r.at part) (answers ++ answers_in (told_maybe r.answer)) (values ++ values_in (told_maybe r.answer) rest' slots') rest' r.state
    unfolding answers_in
    wants_stands o e g =
        record {
          units = x.units;
          since = w;
          so_far = goes_on Both (take r.at part) x.so_far o;
          keeps = wants_keeps w rest rest' r.state x.keeps.size o e on.buffer;
          bytes = w_bytes;
          answers_are = ap (λ (t : T.Told Entry). answers ++ answers_in t) g.answer ∙ append-nil answers ∙ x.answers_are;
          values_are = λ h. ap (λ (l : List EntryValue). values ++ l) (nothing_said r.answer rest' slots' g.answer) ∙ append-nil values ∙ x.values_are h;
        }

    ends_stands : Whole Both w → r.state ≡ empty → Given (answer_of pieces w (length slots)) (taken_dwords w) slots slots' r.answer → Stands (taken ++ take r.at part) (answers ++ answers_in (told_maybe r.answer)) (values ++ values_in (told_maybe r.answer) rest' slots') rest' r.state
    ends_stands o e g =
        record {
          units = x.units ++ (w ∷ []);
          since = [];
          so_far = ends_one Both (take r.at part) x.so_far o;
          keeps = ends_keeps w rest rest' r.state x.keeps.size o e on.buffer;
          bytes = λ i. omega arith;
          answers_are =
              ap (λ (t : T.Told Entry). answers ++ answers_in t) (g.answer ∙ ap (answer_of pieces w) n)
              ∙ ap (λ (l : List (T.Told Entry)). answers ++ l) (unit_adds w)
              ∙ ap (λ (l : List (T.Told Entry)). l ++ (answer_of pieces w room ∷ [])) x.answers_are
              ∙ sym (map_both x.units (w ∷ []));
          values_are = λ h.
              ap (λ (l : List EntryValue). values ++ l) (unit_values w rest slots rest' slots' r.answer w_bytes (omega (arith, h, n)) on.buffer g)
              ∙ ap (λ (l : List EntryValue). l ++ said_of pieces (w ∷ [])) (x.values_are h)
              ∙ sym (said_both x.units (w ∷ []));
        }

    pub stands_on : Stands (taken ++ take r.at part) (answers ++ answers_in (told_maybe r.answer)) (values ++ values_in (told_maybe r.answer) rest' slots') rest' r.state
    stands_on = go on.answered
      where
        go : Answered pieces w part slots slots' r → Stands (taken ++ take r.at part) (answers ++ answers_in (told_maybe r.answer)) (values ++ values_in (told_maybe r.answer) rest' slots') rest' r.state
        go (Answered.wants o at e g) = wants_stands o e g
        go (Answered.ends o e g) = ends_stands o e g

  nothing_said_of : [] ≡ said_of pieces []
  unfolding said_of
  nothing_said_of = refl

  pub stands : {taken rest : List ℕ} {answers : List (T.Told Entry)} {values : List EntryValue} {st : State} → Calls pieces room taken answers values rest st → Stands taken answers values rest st
  stands (Calls.none rest n) =
      record {
        units = [];
        since = [];
        so_far = Sofar.begun [] (Rest.none refl);
        keeps = keeps_nothing Both rest n;
        bytes = λ i. omega arith;
        answers_are = refl;
        values_are = λ h. nothing_said_of;
      }
  stands (Calls.call part slots rest' slots' r before bs n done) = stands_on (stands before) part slots rest' slots' r bs n done

  -- what the end's answer says is what the open unit says, which is kept in the buffer
  end_says : (u : List ℕ) → Bytes u → {rest slots slots' : List ℕ} {held passed : ℕ} {answer : Result (Option Entry) Refusal} → Keeps Both u rest held passed → 256 ≤ length slots → Given (end_of pieces u (length slots)) (taken_dwords u) slots slots' answer → values_in (told_maybe answer) rest slots' ≡ said_of pieces (closing u)
  unfolding end_of closing
  end_says [] b {rest} {slots} {slots'} {answer = answer} k n g = nothing_said answer rest slots' g.answer ∙ nothing_said_of
  end_says (c ∷ u) b {rest} {slots} {slots'} {answer = answer} k n g = unit_values (c ∷ u) rest slots rest slots' answer b n (kept_stands k) g

  -- the unit that the end ends is the last
  module _ (s : List ℕ) (answers : List (T.Told Entry)) (values : List EntryValue) (us : List (List ℕ)) (went : Went pieces room s answers values) (units : Units Both s us) where
    abbrev x : Stands s went.before went.said_before went.rest went.state
    x = stands went.calls

    one : x.units ++ closing x.since ≡ us
    one = one_units Both refl (at_end Both x.so_far) units

    end : Given (end_of pieces x.since (length went.slots)) (taken_dwords x.since) went.slots went.slots' went.r.answer
    end = (went.finish.ended (passes x) x.since (rest_left Both x.so_far) x.keeps).1

    pub answers_are : answers ≡ map (λ (u : List ℕ). answer_of pieces u room) us
    answers_are =
        went.all
        ∙ ap (λ (t : T.Told Entry). went.before ++ answers_in t) (end.answer ∙ ap (end_of pieces x.since) went.slots_are)
        ∙ ap (λ (l : List (T.Told Entry)). went.before ++ l) (end_adds x.since)
        ∙ ap (λ (l : List (T.Told Entry)). l ++ map (λ (u : List ℕ). answer_of pieces u room) (closing x.since)) x.answers_are
        ∙ sym (map_both x.units (closing x.since))
        ∙ ap (map (λ (u : List ℕ). answer_of pieces u room)) one

    pub values_are : 256 ≤ room → values ≡ said_of pieces us
    values_are h =
        went.all_said
        ∙ ap (λ (l : List EntryValue). went.said_before ++ l) (end_says x.since x.bytes x.keeps (omega (arith, h, went.slots_are)) end)
        ∙ ap (λ (l : List EntryValue). l ++ said_of pieces (closing x.since)) (x.values_are h)
        ∙ sym (said_both x.units (closing x.since))
        ∙ ap (said_of pieces) one

-- THE LIST OF ANSWERS IS THAT OF THE STREAM'S UNITS, WHATEVER THE CUTS
pub cut_anywhere : (pieces : Pieces) → CutAnywhere pieces
cut_anywhere pieces =
    record {
      has_units = has_units Both;
      one_list = λ s us vs x y. one_units Both refl x y;
      answers_are = answers_are pieces;
      values_are = λ room h s a v us w x. values_are pieces room s a v us w x h;
      any_cut = λ room s a b v w x y. let u = has_units Both s in answers_are pieces room s a v u.0 x u.1 ∙ sym (answers_are pieces room s b w u.0 y u.1);
      any_cut_says = λ room h s a b v w x y. let u = has_units Both s in values_are pieces room s a v u.0 x u.1 h ∙ sym (values_are pieces room s b w u.0 y u.1 h);
      so_far = λ room taken rest answers values st c us since so. let x = stands pieces room c in x.answers_are ∙ ap (map (λ (u : List ℕ). answer_of pieces u room)) (one_sofar Both refl x.so_far so).0;
      moves_on = moves_on pieces;
    }
