-- Strict and lenient: every condition but that of 18 is the same in both, so the two chains of checks part only there; and where no piece is bad the
-- two readings are one term. Assumes nothing.
use Rattle.refusal.specs.Number.{number_of}
use Rattle.refusal.specs.Told.{told}
use Rattle.refusal.proofs.Told.{one_told, one_number}
use Rattle.std.specs.Prelude.{Err, None, Ok, Option, Result, Some}
use Rattle.refusal.specs.declared.Refusal.{Refusal}
use Prim.Native.Nat.{ℕ, ◌≤◌, ◌<◌}
use mathlib.Core.Path.{◌≡◌, refl, sym, ap, ◌∙◌}
use mathlib.Core.Bool.{Bool, true, false}
use mathlib.Core.List.{List, []}
use mathlib.Core.Logic.{◌↔◌}
use native.Mathlib.Omega.{arith}
use lib.ListN.{length}
use borrow.Author.Tests.{ne_eqb}
use Rattle.text.specs.Told as T
use Rattle.text.specs.Quote.{bytes}
use Rattle.text.proofs.Places.{clash, by_order}
use Rattle.entry.specs.declared.Entry.{Entry}
use Rattle.entry.specs.Entry.{EntryValue}
use Rattle.pairs.specs.declared.pair.Span.{Span}
use Rattle.pairs.specs.Pair.{last_pair}
use Rattle.pairs.specs.Data.{Cut, BadAmong, inside_of, data_in, data_of, bad_in, bad_data}
use Rattle.pairs.specs.Data as Data
use Rattle.scan.specs.declared.Pieces.{Pieces}
use Rattle.scan.specs.declared.Pieces.TheVariants.{Strict, Lenient}
use Rattle.scan.specs.Need.{need}
use Rattle.scan.specs.Frame.{frame_of}
use Rattle.scan.specs.Body.{text_at}
use Rattle.scan.specs.Dwords.{payload_data, payload_bad, refuses, data_answer}
use Rattle.scan.specs.Parse.{payload_of, with_body, payload_answer, with_head, parted_answer, with_frame, parse_of, Parsed}
use Rattle.scan.specs.Line.{BadPiece, BadFor, Line, Has, Condition, order_of, Applies}
use Rattle.scan.specs.Choice.{BothCalls, Behind15, StrictAndLenient}
use Rattle.scan.proofs.Frames.{frame_passed}
use Rattle.scan.proofs.Splits.{split_is}
use Rattle.scan.proofs.Chain.{early_order, late_order, Clear, Answered}
use Rattle.scan.proofs.Judged.{dwords_are, bad_for_is, Says, judge}
use Rattle.scan.proofs.Theorems.{same_payload, past_table, line_entry_is, line_number_exactly}

-- ---- where no piece is bad

-- a bad piece stands in brackets
bad_in_data : (p : List ℕ) → payload_bad p ≡ true → (ds : List ℕ) × (payload_data p ≡ Some ds)
unfolding payload_bad payload_data bad_data bad_in data_of data_in
bad_in_data p b = by_text (text_at p (last_pair p (bytes "data"))) b
  where
    by_inside : (value : List ℕ) (s : Option Span) → bad_in value s ≡ true → (ds : List ℕ) × (data_in value s ≡ Some ds)
    by_inside value (Some w) e = (_, refl)
    by_inside value None e = absurd (clash e refl)

    by_text : (o : Option (List ℕ)) → need false o bad_data ≡ true → (ds : List ℕ) × (need None o data_of ≡ Some ds)
    by_text (Some value) e = by_inside value (inside_of value) e
    by_text None e = absurd (clash e refl)

module _ (t : List ℕ) {k : ℕ} (framed : frame_of t ≡ T.is k) where
  has_bad : payload_bad (payload_of t k) ≡ true → Has t BadPiece
  unfolding refuses
  has_bad b =
      let d = bad_in_data (payload_of t k) b in
      record { header = _; payload = payload_of t k; split = split_is t (frame_passed t framed).3; there = bad_for_is Strict (payload_of t k) (dwords_are (payload_of t k) d.1) b }

  none_bad : (Has t BadPiece → ⊥) → payload_bad (payload_of t k) ≡ false
  none_bad n = go (payload_bad (payload_of t k)) refl
    where
      go : (b : Bool) → payload_bad (payload_of t k) ≡ b → payload_bad (payload_of t k) ≡ false
      go true e = absurd (n (has_bad e))
      go false e = e

-- both read the same
same_reading : (t : List ℕ) (room : ℕ) → (Has t BadPiece → ⊥) → parse_of Strict t room ≡ parse_of Lenient t room
unfolding parse_of with_frame parted_answer with_head payload_answer with_body data_answer refuses
same_reading t room n = go (frame_of t) refl
  where
    go : (f : T.Told ℕ) → frame_of t ≡ f → with_frame Strict t room f ≡ with_frame Lenient t room f
    go (T.is k) e = rw (none_bad t e n)
    go T.absent e = refl
    go (T.refused j) e = refl

-- ---- the conditions

module _ (t : List ℕ) (room : ℕ) where
  condition_either : (p q : Pieces) (k : ℕ) → (k ≡ 18 → ⊥) → Condition p t room k → Condition q t room k
  unfolding Condition
  condition_either p q k n c = rw (ne_eqb k 18 n) (rw (ne_eqb k 18 n) at c)

  lenient_no_18 : Condition Lenient t room 18 → ⊥
  unfolding Condition
  lenient_no_18 h = h.there

  -- a number of strict other than 18 is lenient's
  strict_applies : (k : ℕ) → (k ≡ 18 → ⊥) → Applies Strict t room k → Applies Lenient t room k
  strict_applies k n a =
      record { holds = condition_either Strict Lenient k n a.holds; first = λ j l c. a.first j l (condition_either Lenient Strict j (λ e. lenient_no_18 (rw e at c)) c) }

  -- a number of lenient up to 15 is strict's
  lenient_applies : (k : ℕ) → k ≤ 15 → Applies Lenient t room k → Applies Strict t room k
  lenient_applies k few a =
      record {
        holds = condition_either Lenient Strict k (λ e. absurd (omega arith)) a.holds;
        first = λ j l c. a.first j l (condition_either Strict Lenient j (λ e. absurd (early_order j k few l e)) c);
      }

  -- a number of lenient behind 15
  late_number : (r : Refusal) → Condition Lenient t room (number_of r) → (order_of (number_of r) < 16 → ⊥) → Behind15 (Err r)
  late_number r c l = go (λ e. lenient_no_18 (rw e at c)) (λ h. past_table Lenient t room (number_of r) h c)
    where
      go : (number_of r ≡ 18 → ⊥) → (19 ≤ number_of r → ⊥) → Behind15 (Err r)
      go n m =
          let low : 16 ≤ number_of r = late_order (number_of r) l n in
          by_order (number_of r) 17
          (λ h. rw (one_number r Refusal.ManyDwords (omega arith)) Behind15.many_dwords)
          (λ e. rw (one_number r Refusal.FewSlots e) Behind15.few_slots)
          (λ h. absurd (m (omega (arith, n))))

  -- where a line is accepted no number applies
  accepted_clears : (pieces : Pieces) {e : Entry} → parse_of pieces t room ≡ T.is e → Clear pieces t room 19
  accepted_clears pieces {e} q = go (parse_of pieces t room) (judge pieces t room) q
    where
      go : (r : T.Told Entry) → Answered pieces t room (Says pieces t) r → r ≡ T.is e → Clear pieces t room 19
      go r (Answered.refused k a) n = absurd (let z : ◌≡◌ {A = ℕ} 0 1 = cc in omega arith)
      go r (Answered.entry f c s) n = c

-- ---- two calls

-- the number that a call answers
call_number : (pieces : Pieces) (t out : List ℕ) {answer : Result Entry Refusal} {left : List ℕ} → Parsed pieces t out left answer → (r : Refusal) → (answer ≡ Err r) ↔ Applies pieces t (length out) (number_of r)
call_number pieces t out {answer} p r =
    let exactly = line_number_exactly pieces t (length out) (number_of r) in
    ((λ e. exactly.0 (sym p.answer ∙ ap told e)), (λ a. one_told answer (Err r) (p.answer ∙ exactly.1 a)))

module _ {t out : List ℕ} {strict : Result Entry Refusal} {left : List ℕ} {lenient : Result Entry Refusal} {left' : List ℕ} (both : BothCalls t out strict left lenient left') where
  calls_same : (Has t BadPiece → ⊥) → (strict ≡ lenient) × (left ≡ left')
  calls_same n =
      let e : told strict ≡ told lenient = both.strict_call.answer ∙ same_reading t (length out) n ∙ sym both.lenient_call.answer in
      (one_told strict lenient e, both.strict_call.slots ∙ rw e (sym both.lenient_call.slots))

  strict_number : (r : Refusal) → (strict ≡ Err r) ↔ Applies Strict t (length out) (number_of r)
  strict_number = call_number Strict t out both.strict_call

  lenient_number : (r : Refusal) → (lenient ≡ Err r) ↔ Applies Lenient t (length out) (number_of r)
  lenient_number = call_number Lenient t out both.lenient_call

  -- behind 18 of strict stands what lenient says
  behind_18 : Applies Strict t (length out) 18 → (r : Result Entry Refusal) → lenient ≡ r → Behind15 r
  unfolding order_of
  behind_18 a (Ok e) q = Behind15.accepted e
  behind_18 a (Err k) q =
      let b = (lenient_number k).0 q in
      late_number t (length out) k b.holds (λ l. a.first (number_of k) l (condition_either t (length out) Lenient Strict (number_of k) (λ e. lenient_no_18 t (length out) (rw e at b.holds)) b.holds))

  -- and before it nothing that lenient would refuse
  clear_18 : (r : Result Entry Refusal) → lenient ≡ r → Behind15 r → Clear Lenient t (length out) 16
  unfolding order_of
  clear_18 r q (Behind15.accepted e) j l = accepted_clears t (length out) Lenient (sym both.lenient_call.answer ∙ ap told q) j (omega arith)
  clear_18 r q Behind15.many_dwords j l = ((lenient_number Refusal.ManyDwords).0 q).first j (omega arith)
  clear_18 r q Behind15.few_slots j l = ((lenient_number Refusal.FewSlots).0 q).first j (omega arith)

  eighteen : (strict ≡ Err Refusal.BadPiece) ↔ (Has t BadPiece × Behind15 lenient)
  unfolding Condition order_of
  eighteen = (mp, mpr)
    where
      mp : strict ≡ Err Refusal.BadPiece → Has t BadPiece × Behind15 lenient
      mp e = let a = (strict_number Refusal.BadPiece).0 e in (bad a.holds, behind_18 a lenient refl)
        where
          bad : Has t (BadFor Strict) → Has t BadPiece
          bad h = record { header = h.header; payload = h.payload; split = h.split; there = h.there }

      mpr : Has t BadPiece × Behind15 lenient → strict ≡ Err Refusal.BadPiece
      mpr x =
          (strict_number Refusal.BadPiece).1
          (record {
            holds = record { header = x.0.header; payload = x.0.payload; split = x.0.split; there = x.0.there };
            first = λ j l c. clear_18 lenient refl x.1 j l (condition_either t (length out) Strict Lenient j (λ e. absurd (not_itself j l e)) c);
          })
        where
          not_itself : (j : ℕ) → order_of j < 16 → j ≡ 18 → ⊥
          not_itself j l e = let m : 16 < 16 = rw e at l in omega arith

  both_accept : (e : Entry) → strict ≡ Ok e → (lenient ≡ Ok e) × (left ≡ left')
  both_accept e q =
      let l = line_entry_is Strict t (length out) (sym both.strict_call.answer ∙ ap told q) in
      let w = calls_same (λ h. l.good (rw (same_payload t h.split l.split) at h.there)) in
      (sym w.0 ∙ q, w.1)

-- ---- the grammar

with_choice : {p : Pieces} (q : Pieces) {t : List ℕ} {v : EntryValue} (l : Line p t v) → (BadFor q l.payload → ⊥) → Line q t v
with_choice q l good =
    record {
      busy = l.busy;
      short = l.short;
      ascii = l.ascii;
      header = l.header;
      payload = l.payload;
      split = l.split;
      task = l.task;
      pid = l.pid;
      cpu = l.cpu;
      timestamp = l.timestamp;
      function = l.function;
      kind = l.kind;
      size = l.size;
      dropped = l.dropped;
      domain = l.domain;
      route = l.route;
      offset = l.offset;
      code = l.code;
      len = l.len;
      port = l.port;
      config = l.config;
      seq = l.seq;
      unplug = l.unplug;
      dwords = l.dwords;
      good = good;
      few = l.few;
    }

strict_grammar : (t : List ℕ) (v : EntryValue) → Line Strict t v ↔ (Line Lenient t v × (Has t BadPiece → ⊥))
strict_grammar t v = (
  (λ l. (with_choice Lenient l (λ x. x), λ h. l.good (rw (same_payload t h.split l.split) at h.there))),
  (λ x. with_choice Strict x.0 (λ b. x.1 (record { header = x.0.header; payload = x.0.payload; split = x.0.split; there = b }))),
)

-- ---- a strict line has a dword

cut_some : {l : List ℕ} {ps : List (List ℕ)} → Cut l ps → 1 ≤ length ps
cut_some (Cut.last w) = omega arith
cut_some (Cut.more w e c) = omega arith

good_some : {ps : List (List ℕ)} {ds : List ℕ} → 1 ≤ length ps → Data.Dwords ps ds → (BadAmong ps → ⊥) → 1 ≤ length ds
good_some one_piece Data.Dwords.empty n = absurd (omega arith)
good_some one_piece (Data.Dwords.dword h r) n = omega arith
good_some one_piece (Data.Dwords.left_out {p = p} {ps = ps} bad r) n = absurd (n (record { before = []; piece = p; after = ps; are = refl; bad = bad }))

strict_some : (t : List ℕ) (v : EntryValue) → Line Strict t v → 1 ≤ length v.dwords
strict_some t v l =
    good_some (cut_some l.dwords.brackets.cut_at) l.dwords.brackets.dwords (λ b. l.good (record { dwords = v.dwords; are = l.dwords; piece = b }))

-- ---- what the choice changes

pub strict_and_lenient : StrictAndLenient
strict_and_lenient =
    record {
      same_without_bad = λ t out strict left lenient left' both n. calls_same both n;
      eighteen_exactly = λ t out strict left lenient left' both. eighteen both;
      other_numbers = λ t out strict left lenient left' both k e n. (lenient_number both k).1 (strict_applies t (length out) (number_of k) (λ q. n (one_number k Refusal.BadPiece q)) ((strict_number both k).0 e));
      first_numbers = λ t out strict left lenient left' both k few e. (strict_number both k).1 (lenient_applies t (length out) (number_of k) few ((lenient_number both k).0 e));
      lenient_never_18 = λ t out left p. lenient_no_18 t (length out) ((line_number_exactly Lenient t (length out) 18).0 (sym p.answer)).holds;
      accepted_by_both = λ t out strict left lenient left' both e q. both_accept both e q;
      grammar = strict_grammar;
      some_dword = strict_some;
    }
