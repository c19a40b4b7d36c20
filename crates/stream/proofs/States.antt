-- The states between the calls: those that calls reach are left by the stream so far, 53 is told exactly of all others, and no second answer keeps a
-- contract. Assumes nothing.
use Rattle.std.specs.Prelude.{Err, Option, Result}
use Rattle.refusal.specs.declared.Refusal.{Refusal}
use Rattle.refusal.specs.declared.Refusal.TheVariants as R
use Prim.Native.Nat.{ℕ, zero, suc, ◌<◌}
use mathlib.Core.Path.{◌≡◌, refl, sym, ap, subst, ◌∙◌}
use mathlib.Core.Bool.{Bool, true, false, cond}
use mathlib.Core.List.{List, [], ◌∷◌, ◌++◌}
use mathlib.Core.Logic.{◌↔◌}
use native.Mathlib.Omega.{arith}
use lib.Dec.{ltb}
use lib.ListN.{length, take, drop, replicate}
use lib.Seq.{drop_at}
use Rattle.text.specs.Told as T
use Rattle.text.proofs.Places.{by_order}
use Rattle.tlv.specs.Number.{Bytes}
use Rattle.tlv.proofs.Places.{bytes_take, bytes_drop}
use Rattle.entry.specs.declared.Entry.{Entry}
use Rattle.scan.specs.declared.Pieces.{Pieces}
use Rattle.scan.specs.Parse.{parse_of, slots_by}
use Rattle.scan.proofs.Theorems.{line_number_exactly, past_table}
use Rattle.record.specs.Conditions.{Refuses, breaks, few_slots}
use Rattle.record.specs.Reading.{read_of}
use Rattle.record.proofs.Records.{record_refused_exactly}
use Rattle.intake.specs.Intake.{starts_a1}
use Rattle.intake.proofs.Made.{bytes_join}
use Rattle.intake.proofs.WhatItIs.{record_number_range}
use Rattle.units.specs.declared.Framing.TheVariants.{Both}
use Rattle.units.specs.declared.State.{State}
use Rattle.units.specs.Units.{stated, Whole, Rest, Sofar}
use Rattle.units.specs.Kept.{is_long, stood, Keeps, Leaves, is_kept}
use Rattle.units.proofs.Streams.{rest_left, never_whole, ends_one, goes_on as sofar-goes}
use Rattle.units.proofs.States.{keeps_kept, kept_some}
use Rattle.units.proofs.Calls.{ends_before}
use Rattle.stream.specs.declared.Fed.{Fed}
use Rattle.stream.specs.declared.Finished.{Finished}
use Rattle.refusal.specs.Told.{told_maybe}
use Rattle.stream.specs.Answers.{answer_of}
use Rattle.stream.specs.Feeding.{Given, Answered, FedOn, FeedDone, FinishDone, end_of}
use Rattle.stream.specs.Streams.{StatesLeft}
use Rattle.refusal.specs.Number.{number_of}
use Rattle.refusal.proofs.Told.{one_told_maybe}
use Rattle.stream.proofs.Steps.{front_is}
use Rattle.stream.proofs.Whole.{stands, wants_keeps, ends_keeps}

-- ---- the test and the streams

-- the bytes since the last unit are the stream's
sofar_bytes : {s v : List ℕ} {us : List (List ℕ)} → Bytes s → Sofar Both s us v → Bytes v
sofar_bytes b (Sofar.begun u r) = b
sofar_bytes {s} b (Sofar.behind u r w e more) =
    let back : drop (length u) s ≡ r = ap (drop (length u)) e ∙ drop_at u r (length u) refl in
    sofar_bytes (subst Bytes back (bytes_drop s (length u) b)) more

zeros_bytes : (n : ℕ) → Bytes (replicate n 0)
zeros_bytes zero i = omega arith
zeros_bytes (suc n) zero = omega arith
zeros_bytes (suc n) (suc i) = zeros_bytes n i

test_exactly : (rest : List ℕ) → Bytes rest → (held passed : ℕ) → (is_kept Both rest held passed ≡ true) ↔ ((s : List ℕ) × (Bytes s × Leaves Both s rest held passed))
test_exactly rest b held passed = (λ q. by (kept_some Both rest held passed q), λ x. keeps_kept Both x.1.1.since rest held passed (rest_left Both x.1.1.so_far) (sofar_bytes x.1.0 x.1.1.so_far 1) x.1.1.keeps)
  where
    by : (u : List ℕ) × (Rest Both u × Keeps Both u rest held passed × (u ≡ take held rest ++ replicate passed 0)) → (s : List ℕ) × (Bytes s × Leaves Both s rest held passed)
    by x = (x.0, (subst Bytes (sym x.1.2) (bytes_join (take held rest) (replicate passed 0) (bytes_take rest held b) (zeros_bytes passed)), record { units = []; since = x.0; so_far = Sofar.begun x.0 x.1.0; keeps = x.1.1 }))

-- the unit that is kept, as some bytes
kept_bytes : (rest : List ℕ) → Bytes rest → (held passed : ℕ) (q : is_kept Both rest held passed ≡ true) → Bytes (kept_some Both rest held passed q).0
kept_bytes rest b held passed q = subst Bytes (sym (kept_some Both rest held passed q).1.2) (bytes_join (take held rest) (replicate passed 0) (bytes_take rest held b) (zeros_bytes passed))

-- ---- 53

-- no unit is refused with it
unit_never_53 : (pieces : Pieces) (u : List ℕ) → Bytes u → (room : ℕ) → answer_of pieces u room ≡ T.refused 53 → ⊥
unfolding answer_of
unit_never_53 pieces u b room q = go (starts_a1 u) (is_long u) (ltb (length u) (stated u)) q
  where
    by : Refuses u room 53 → ⊥
    by (breaks x) = let r = record_number_range u 53 x in omega (arith, r.1)
    by (few_slots e x) = omega (arith, e)

    go : (x y z : Bool) → cond x (cond y (T.refused 55) (cond z (T.refused 54) (read_of u room))) (parse_of pieces u room) ≡ T.refused 53 → ⊥
    go true true z h = let n : ◌≡◌ {A = ℕ} 55 53 = cc in omega (arith, n)
    go true false true h = let n : ◌≡◌ {A = ℕ} 54 53 = cc in omega (arith, n)
    go true false false h = by ((record_refused_exactly u b room 53).0 h)
    go false y z h = past_table pieces u room 53 (omega arith) ((line_number_exactly pieces u room 53).0 h).holds

told_of : {a : Result (Option Entry) Refusal} {r : T.Told Entry} {k : Refusal} → told_maybe a ≡ r → a ≡ Err k → r ≡ T.refused (number_of k)
told_of h e = sym h ∙ ap told_maybe e

absent_not : {k : ℕ} → ◌≡◌ {A = T.Told Entry} T.absent (T.refused k) → ⊥
absent_not h = let n : ◌≡◌ {A = ℕ} 0 1 = cc in omega arith

module _ (pieces : Pieces) where
  -- a number that a call answers where the test passes is a unit's
  pub feed_unit : (part rest slots : List ℕ) (st : State) (rest' slots' : List ℕ) (r : Fed) → Bytes part → Bytes rest → FeedDone pieces part rest slots st rest' slots' r → is_kept Both rest st.held st.passed ≡ true → {k : Refusal} → r.answer ≡ Err k → (u : List ℕ) × (Bytes u × (answer_of pieces u (length slots) ≡ T.refused (number_of k)))
  feed_unit part rest slots st rest' slots' r bp br x q {k} e =
      let u = kept_some Both rest st.held st.passed q in
      by u.0 (kept_bytes rest br st.held st.passed q) (x.fed q u.0 u.1.0 u.1.1).answered
    where
      by : (u : List ℕ) → Bytes u → Answered pieces (u ++ take r.at part) part slots slots' r → (u : List ℕ) × (Bytes u × (answer_of pieces u (length slots) ≡ T.refused (number_of k)))
      by u b (Answered.wants o at s g) = absurd (absent_not (told_of g.answer e))
      by u b (Answered.ends w s g) = (u ++ take r.at part, (bytes_join u (take r.at part) b (bytes_take part r.at bp), told_of g.answer e))

  pub end_unit : (rest slots : List ℕ) (st : State) (slots' : List ℕ) (r : Finished) → Bytes rest → FinishDone pieces rest slots st slots' r → is_kept Both rest st.held st.passed ≡ true → {k : Refusal} → r.answer ≡ Err k → (u : List ℕ) × (Bytes u × (answer_of pieces u (length slots) ≡ T.refused (number_of k)))
  unfolding end_of
  end_unit rest slots st slots' r br x q {k} e =
      let u = kept_some Both rest st.held st.passed q in
      by u.0 (kept_bytes rest br st.held st.passed q) (told_of (x.ended q u.0 u.1.0 u.1.1).1.answer e)
    where
      by : (u : List ℕ) → Bytes u → end_of pieces u (length slots) ≡ T.refused (number_of k) → (u : List ℕ) × (Bytes u × (answer_of pieces u (length slots) ≡ T.refused (number_of k)))
      by [] b h = absurd (absent_not h)
      by (c ∷ u) b h = (c ∷ u, (b, h))

  feed_53 : (part rest slots : List ℕ) (st : State) (rest' slots' : List ℕ) (r : Fed) → Bytes part → Bytes rest → FeedDone pieces part rest slots st rest' slots' r → (r.answer ≡ Err R.NoStream) ↔ (is_kept Both rest st.held st.passed ≡ false)
  feed_53 part rest slots st rest' slots' r bp br x = (λ e. go (is_kept Both rest st.held st.passed) refl e, λ q. ap (λ (y : Fed). y.answer) (x.alien q).0)
    where
      go : (b : Bool) → is_kept Both rest st.held st.passed ≡ b → r.answer ≡ Err R.NoStream → b ≡ false
      go false q e = refl
      go true q e = let u = feed_unit part rest slots st rest' slots' r bp br x q e in absurd (unit_never_53 pieces u.0 u.1.0 (length slots) u.1.1)

  finish_53 : (rest slots : List ℕ) (st : State) (slots' : List ℕ) (r : Finished) → Bytes rest → FinishDone pieces rest slots st slots' r → (r.answer ≡ Err R.NoStream) ↔ (is_kept Both rest st.held st.passed ≡ false)
  finish_53 rest slots st slots' r br x = (λ e. go (is_kept Both rest st.held st.passed) refl e, λ q. ap (λ (y : Finished). y.answer) (x.alien q).0)
    where
      go : (b : Bool) → is_kept Both rest st.held st.passed ≡ b → r.answer ≡ Err R.NoStream → b ≡ false
      go false q e = refl
      go true q e = let u = end_unit rest slots st slots' r br x q e in absurd (unit_never_53 pieces u.0 u.1.0 (length slots) u.1.1)

  -- ---- no second answer

  -- two answers to one thing told
  one_given : {told : T.Told Entry} {dwords slots exit exit' : List ℕ} {r q : Result (Option Entry) Refusal} → Given told dwords slots exit r → Given told dwords slots exit' q → (r ≡ q) × (exit ≡ exit')
  one_given {r = r} {q = q} g h = (one_told_maybe r q (g.answer ∙ sym h.answer), g.slots_are ∙ sym h.slots_are)

  one_place : {u part rest slots rest' slots' rest'' slots'' : List ℕ} {r q : Fed} → Rest Both u → FedOn pieces u part rest slots rest' slots' r → FedOn pieces u part rest slots rest'' slots'' q → r.at < q.at → ⊥
  one_place {u} {part} {rest} {slots} {rest'} {slots'} {rest''} {slots''} {r} {q} o x y less = go x.answered y.answered
    where
      past : Whole Both (u ++ take r.at part) → (Rest Both (u ++ take q.at part) → ⊥) × (Whole Both (u ++ take q.at part) → ⊥)
      past w =
          let p = ends_before Both u part 0 r.at q.at o (omega arith) less y.within (subst (λ (l : List ℕ). Whole Both (u ++ l)) (sym (front_is part r.at)) w) in
          (λ a. p.0 (subst (λ (l : List ℕ). Rest Both (u ++ l)) (sym (front_is part q.at)) a), λ a. p.1 (subst (λ (l : List ℕ). Whole Both (u ++ l)) (sym (front_is part q.at)) a))

      go : Answered pieces (u ++ take r.at part) part slots slots' r → Answered pieces (u ++ take q.at part) part slots slots'' q → ⊥
      go (Answered.wants a at s g) z = omega (arith, at, less, y.within)
      go (Answered.ends w s g) (Answered.wants a at s' g') = (past w).0 a
      go (Answered.ends w s g) (Answered.ends w' s' g') = (past w).1 w'

  one_answer : {w part slots slots' slots'' : List ℕ} {r q : Fed} → r.at ≡ q.at → Answered pieces w part slots slots' r → Answered pieces w part slots slots'' q → (r ≡ q) × (slots' ≡ slots'')
  one_answer {w} {part} {slots} {slots'} {slots''} {r} {q} at x y = go x y
    where
      same : r.state ≡ q.state → r.answer ≡ q.answer → r ≡ q
      same s a =
          ap (λ (n : ℕ). record { at = n; state = r.state; answer = r.answer }) at
          ∙ ap (λ (t : State). record { at = q.at; state = t; answer = r.answer }) s
          ∙ ap (λ (b : Result (Option Entry) Refusal). record { at = q.at; state = q.state; answer = b }) a

      go : Answered pieces w part slots slots' r → Answered pieces w part slots slots'' q → (r ≡ q) × (slots' ≡ slots'')
      go (Answered.wants o n s g) (Answered.wants o' n' s' g') = let h = one_given g g' in (same (s ∙ sym s') h.0, h.1)
      go (Answered.wants o n s g) (Answered.ends w' s' g') = absurd (never_whole Both w o w')
      go (Answered.ends w' s g) (Answered.wants o n s' g') = absurd (never_whole Both w o w')
      go (Answered.ends w' s g) (Answered.ends w'' s' g') = let h = one_given g g' in (same (s ∙ sym s') h.0, h.1)

  one_feed : (part rest slots : List ℕ) (st : State) (rest' slots' rest'' slots'' : List ℕ) (r q : Fed) → FeedDone pieces part rest slots st rest' slots' r → FeedDone pieces part rest slots st rest'' slots'' q → (r ≡ q) × (rest' ≡ rest'') × (slots' ≡ slots'')
  one_feed part rest slots st rest' slots' rest'' slots'' r q x y = go (is_kept Both rest st.held st.passed) refl
    where
      by : {u : List ℕ} → Rest Both u → FedOn pieces u part rest slots rest' slots' r → FedOn pieces u part rest slots rest'' slots'' q → (r ≡ q) × (rest' ≡ rest'') × (slots' ≡ slots'')
      by {u} o a b =
          let at : r.at ≡ q.at = by_order r.at q.at (λ h. absurd (one_place o a b h)) (λ h. h) (λ h. absurd (one_place o b a h)) in
          let h = one_answer at a.answered (subst (λ (n : ℕ). Answered pieces (u ++ take n part) part slots slots'' q) (sym at) b.answered) in
          (h.0, a.buffer ∙ ap (λ (n : ℕ). stood Both (u ++ take n part) rest) at ∙ sym b.buffer, h.1)

      go : (b : Bool) → is_kept Both rest st.held st.passed ≡ b → (r ≡ q) × (rest' ≡ rest'') × (slots' ≡ slots'')
      go false k = ((x.alien k).0 ∙ sym (y.alien k).0, (x.alien k).1 ∙ sym (y.alien k).1, (x.alien k).2 ∙ sym (y.alien k).2)
      go true k =
          let u = kept_some Both rest st.held st.passed k in
          by u.1.0 (x.fed k u.0 u.1.0 u.1.1) (y.fed k u.0 u.1.0 u.1.1)

  one_finish : (rest slots : List ℕ) (st : State) (slots' slots'' : List ℕ) (r q : Finished) → FinishDone pieces rest slots st slots' r → FinishDone pieces rest slots st slots'' q → (r ≡ q) × (slots' ≡ slots'')
  one_finish rest slots st slots' slots'' r q x y = go (is_kept Both rest st.held st.passed) refl
    where
      same : r.state ≡ q.state → r.answer ≡ q.answer → r ≡ q
      same s a = ap (λ (t : State). record { state = t; answer = r.answer }) s ∙ ap (λ (b : Result (Option Entry) Refusal). record { state = q.state; answer = b }) a

      go : (b : Bool) → is_kept Both rest st.held st.passed ≡ b → (r ≡ q) × (slots' ≡ slots'')
      go false k = ((x.alien k).0 ∙ sym (y.alien k).0, (x.alien k).1 ∙ sym (y.alien k).1)
      go true k =
          let u = kept_some Both rest st.held st.passed k in
          let a = x.ended k u.0 u.1.0 u.1.1 in
          let b = y.ended k u.0 u.1.0 u.1.1 in
          let h = one_given a.1 b.1 in
          (same (a.0 ∙ sym b.0) h.0, h.1)

  -- ---- a refusal

  given_refused : {told : T.Told Entry} {dwords slots exit : List ℕ} {r : Result (Option Entry) Refusal} {k : Refusal} → Given told dwords slots exit r → r ≡ Err k → exit ≡ slots
  unfolding slots_by
  given_refused {dwords = dwords} {slots = slots} g e = g.slots_are ∙ ap (λ (t : T.Told Entry). slots_by t dwords slots) (sym g.answer ∙ ap told_maybe e)

  refused_slots : (part rest slots : List ℕ) (st : State) (rest' slots' : List ℕ) (r : Fed) (k : Refusal) → FeedDone pieces part rest slots st rest' slots' r → r.answer ≡ Err k → slots' ≡ slots
  refused_slots part rest slots st rest' slots' r k x e = go (is_kept Both rest st.held st.passed) refl
    where
      by : {w : List ℕ} → Answered pieces w part slots slots' r → slots' ≡ slots
      by (Answered.wants o n s g) = given_refused g e
      by (Answered.ends w s g) = given_refused g e

      go : (b : Bool) → is_kept Both rest st.held st.passed ≡ b → slots' ≡ slots
      go false q = (x.alien q).2
      go true q = let u = kept_some Both rest st.held st.passed q in by (x.fed q u.0 u.1.0 u.1.1).answered

  refused_slots_end : (rest slots : List ℕ) (st : State) (slots' : List ℕ) (r : Finished) (k : Refusal) → FinishDone pieces rest slots st slots' r → r.answer ≡ Err k → slots' ≡ slots
  refused_slots_end rest slots st slots' r k x e = go (is_kept Both rest st.held st.passed) refl
    where
      go : (b : Bool) → is_kept Both rest st.held st.passed ≡ b → slots' ≡ slots
      go false q = (x.alien q).1
      go true q = let u = kept_some Both rest st.held st.passed q in given_refused (x.ended q u.0 u.1.0 u.1.1).1 e

  -- ---- from call to call

  goes_on : (s rest : List ℕ) (st : State) → Bytes s → Leaves Both s rest st.held st.passed → (part slots rest' slots' : List ℕ) (r : Fed) → FeedDone pieces part rest slots st rest' slots' r → Leaves Both (s ++ take r.at part) rest' r.state.held r.state.passed
  goes_on s rest st b x part slots rest' slots' r done = go f.answered
    where
      f : FedOn pieces x.since part rest slots rest' slots' r
      f = done.fed (keeps_kept Both x.since rest st.held st.passed (rest_left Both x.so_far) (sofar_bytes b x.so_far 1) x.keeps) x.since (rest_left Both x.so_far) x.keeps

      go : Answered pieces (x.since ++ take r.at part) part slots slots' r → Leaves Both (s ++ take r.at part) rest' r.state.held r.state.passed
      go (Answered.wants o at e g) =
          record {
            units = x.units;
            since = x.since ++ take r.at part;
            so_far = sofar-goes Both (take r.at part) x.so_far o;
            keeps = wants_keeps (x.since ++ take r.at part) rest rest' r.state x.keeps.size o e f.buffer;
          }
      go (Answered.ends w e g) =
          record {
            units = x.units ++ ((x.since ++ take r.at part) ∷ []);
            since = [];
            so_far = ends_one Both (take r.at part) x.so_far w;
            keeps = ends_keeps (x.since ++ take r.at part) rest rest' r.state x.keeps.size w e f.buffer;
          }

-- THE STATES THAT A STREAM LEAVES
pub states_left : (pieces : Pieces) → StatesLeft pieces
states_left pieces =
    record {
      reached = λ room taken rest answers values st c. let x = stands pieces room c in record { units = x.units; since = x.since; so_far = x.so_far; keeps = x.keeps };
      goes_on = goes_on pieces;
      test_exactly = test_exactly;
      feed_53 = feed_53 pieces;
      finish_53 = finish_53 pieces;
      one_feed = one_feed pieces;
      one_finish = one_finish pieces;
      refused_slots = refused_slots pieces;
      refused_slots_end = refused_slots_end pieces;
    }
