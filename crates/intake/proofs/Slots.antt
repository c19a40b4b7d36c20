-- Slots past 256 change no answer: a text that is accepted has at most 256 dwords, and the slots are asked after nothing but their count. So a text may
-- be read into an array of 256 as well. Assumes nothing.
use Rattle.std.specs.Prelude.{Err, None, Ok, Option, Result, Some}
use Rattle.refusal.specs.declared.Refusal.{Refusal}
use Rattle.refusal.specs.Number.{number_of}
use Prim.Native.Nat.{ℕ, zero, suc, ◌≤◌, min}
use mathlib.Core.Path.{◌≡◌, refl, sym, ap, ◌∙◌}
use mathlib.Core.Bool.{Bool, true, false, cond}
use mathlib.Core.List.{List, ◌++◌, append_assoc}
use native.Mathlib.Omega.{arith}
use native.Mathlib.Decide.{dec_le}
use borrow.Author.Tests.{le-leb, le-ltb, ltb-false}
use lib.Dec.{leb, ltb}
use lib.ListN.{length, take, drop, replicate, length-append, length-drop, length-replicate}
use lib.Seq.{length-take-le, take-append_seam}
use Rattle.text.specs.Told as T
use Rattle.text.proofs.Told.{value_behind}
use Rattle.tlv.specs.Number.{Bytes}
use Rattle.entry.specs.declared.Entry.{Entry}
use Rattle.scan.specs.declared.Pieces.{Pieces}
use Rattle.scan.specs.declared.head.Head.{Head}
use Rattle.scan.specs.declared.body.Body.{Body}
use Rattle.scan.specs.Need.{need}
use Rattle.scan.specs.Frame.{frame_of}
use Rattle.scan.specs.Head.{head_of}
use Rattle.scan.specs.Body.{body_of}
use Rattle.scan.specs.Dwords.{payload_data, payload_bad, refuses, data16, data18, data_answer}
use Rattle.refusal.specs.Told.{told}
use Rattle.scan.specs.Parse.{header_of, payload_of, start_of, with_data, with_body, payload_answer, with_head, parted_answer, with_frame, parse_of, line_dwords, slots_by}
use Rattle.scan.proofs.Chain.{Answered}
use Rattle.scan.proofs.Judged.{Says, judge}
use Rattle.record.specs.Judging.{refusal_of}
use Rattle.record.specs.Gathering.{entry_of}
use Rattle.record.specs.Reading.{dword_count, dwords_of, read_of}
use Rattle.record.proofs.Slots.{dwords_length}
use Rattle.record.proofs.Sound.{passes_all, count_few}
use Rattle.intake.specs.Intake.{starts_a1, taken_of, taken_dwords, Taken}

-- ---- lines

enough_slots : (pieces : Pieces) (payload : List ℕ) (room : ℕ) → 256 ≤ room → data_answer pieces payload room ≡ data_answer pieces payload 256
unfolding data_answer
enough_slots pieces payload room h = by_data (refuses pieces (payload_bad payload)) (payload_data payload)
  where
    by_count : (ds : List ℕ) (many : Bool) → ltb 256 (length ds) ≡ many → data16 room ds ≡ data16 256 ds
    by_count ds true e = rw e
    by_count ds false e = rw (e, le-ltb room (length ds) (omega (arith, h, ltb-false 256 (length ds) e)))

    by_choice : (b : Bool) (ds : List ℕ) → data18 b room ds ≡ data18 b 256 ds
    by_choice true ds = refl
    by_choice false ds = by_count ds (ltb 256 (length ds)) refl

    by_data : (b : Bool) (o : Option (List ℕ)) → need (T.refused 15) o (data18 b room) ≡ need (T.refused 15) o (data18 b 256)
    by_data b None = refl
    by_data b (Some ds) = by_choice b ds

pub line_with_more_slots : (pieces : Pieces) (t : List ℕ) (room : ℕ) → 256 ≤ room → parse_of pieces t room ≡ parse_of pieces t 256
unfolding parse_of with_frame parted_answer with_head payload_answer with_body
line_with_more_slots pieces t room h = by_frame (frame_of t)
  where
    by_body : (header : List ℕ) (start : ℕ) (head : Head) (payload : List ℕ) (b : T.Told Body)
        → with_body pieces header start head payload room b ≡ with_body pieces header start head payload 256 b
    by_body header start head payload (T.is body) = ap (with_data header start head body) (enough_slots pieces payload room h)
    by_body header start head payload T.absent = refl
    by_body header start head payload (T.refused k) = refl

    by_head : (colon : ℕ) (a : T.Told Head) → with_head pieces t colon room a ≡ with_head pieces t colon 256 a
    by_head colon (T.is head) =
        by_body (header_of t colon) (start_of t colon) head (payload_of t colon) (body_of (payload_of t colon) (drop head.function (header_of t colon)))
    by_head colon T.absent = refl
    by_head colon (T.refused k) = refl

    by_frame : (f : T.Told ℕ) → with_frame pieces t room f ≡ with_frame pieces t 256 f
    by_frame (T.is colon) = by_head colon (head_of (header_of t colon))
    by_frame T.absent = refl
    by_frame (T.refused k) = refl

-- an entry counts the line's dwords
line_count : (pieces : Pieces) (t : List ℕ) (room : ℕ) {e : Entry} → parse_of pieces t room ≡ T.is e → e.dwords ≡ length (line_dwords t)
line_count pieces t room {e} q = go (parse_of pieces t room) (judge pieces t room) q
  where
    go : (r : T.Told Entry) → Answered pieces t room (Says pieces t) r → r ≡ T.is e → e.dwords ≡ length (line_dwords t)
    go r (Answered.refused k a) n = absurd (let z : ◌≡◌ {A = ℕ} 0 1 = cc in omega arith)
    go r (Answered.entry f c s) n = let same : f ≡ e = cc in rw same at s.count

-- ---- records

record_with_more_slots : (t : List ℕ) → Bytes t → (room : ℕ) → 256 ≤ room → read_of t room ≡ read_of t 256
unfolding read_of
record_with_more_slots t bytes room h = go (refusal_of t) refl
  where
    go : (n : ℕ) → refusal_of t ≡ n → read_of t room ≡ read_of t 256
    go (suc n) e = rw e
    go zero e =
        let few : dword_count t ≤ 256 = count_few t bytes (passes_all t e) in
        rw (e, le-leb (dword_count t) room (omega (arith, few, h)), le-leb (dword_count t) 256 few)

-- an entry counts the record's dwords
record_count : (t : List ℕ) (room : ℕ) {e : Entry} → read_of t room ≡ T.is e → e.dwords ≡ length (dwords_of t)
unfolding read_of entry_of dwords_of dword_count
record_count t room {e} q =
    go (leb (dword_count t) room) (value_behind (refusal_of t) (cond (leb (dword_count t) room) (T.is (entry_of t)) (T.refused 35)) q).1
  where
    go : (y : Bool) → cond y (T.is (entry_of t)) (T.refused 35) ≡ T.is e → e.dwords ≡ length (dwords_of t)
    go false h = absurd (let z : ◌≡◌ {A = ℕ} 0 1 = cc in omega arith)
    go true h =
        let same : entry_of t ≡ e = cc in
        ap (λ (f : Entry). f.dwords) (sym same) ∙ sym (dwords_length t _ (dword_count t))

-- ---- texts

pub with_more_slots : (pieces : Pieces) (t : List ℕ) → Bytes t → (room : ℕ) → 256 ≤ room → taken_of pieces t room ≡ taken_of pieces t 256
unfolding taken_of
with_more_slots pieces t bytes room h = go (starts_a1 t)
  where
    go : (x : Bool) → cond x (read_of t room) (parse_of pieces t room) ≡ cond x (read_of t 256) (parse_of pieces t 256)
    go true = record_with_more_slots t bytes room h
    go false = line_with_more_slots pieces t room h

-- slots past 256 change no answer
pub at_most_256_slots : (pieces : Pieces) (t : List ℕ) → Bytes t → (room : ℕ) → taken_of pieces t (min 256 room) ≡ taken_of pieces t room
at_most_256_slots pieces t bytes room =
    elim (dec_le 256 room) [
      | yes h ↦ let e : min 256 room ≡ 256 = omega arith in ap (taken_of pieces t) e ∙ sym (with_more_slots pieces t bytes room h)
      | no h ↦ let e : min 256 room ≡ room = omega arith in ap (taken_of pieces t) e
    ]

-- an entry counts the text's dwords
pub taken_count : (pieces : Pieces) (t : List ℕ) (room : ℕ) {e : Entry} → taken_of pieces t room ≡ T.is e → e.dwords ≡ length (taken_dwords t)
unfolding taken_of taken_dwords
taken_count pieces t room {e} q = go (starts_a1 t) q
  where
    go : (x : Bool) → cond x (read_of t room) (parse_of pieces t room) ≡ T.is e → e.dwords ≡ length (cond x (dwords_of t) (line_dwords t))
    go true h = record_count t room h
    go false h = line_count pieces t room h

-- ---- an array in which the dwords wait

-- as many of its 256 elements are lent as slots are, 256 at most
pub lent_elements : (slots : ℕ) {room : ℕ} → room ≡ min 256 slots → length {A = ℕ} (take room (replicate 256 0)) ≡ room
lent_elements slots {room} e = length-take-le room (replicate 256 0) (omega (arith, e, length-replicate {A = ℕ} 256 0))

-- what a text left in the array: its entry with the slots that are lent, and its dwords in front
pub record Waits (pieces : Pieces) (t slots array : List ℕ) (e : Entry) : Type 0 where
  pub answer : taken_of pieces t (length slots) ≡ T.is e
  pub within : e.dwords ≤ length array
  pub front : take e.dwords array ≡ taken_dwords t
  pub count : e.dwords ≡ length (take e.dwords array)
  pub fits : length (take e.dwords array) ≤ length slots

module _ (pieces : Pieces) (t slots out : List ℕ) (bytes : Bytes t) {exit : List ℕ} {r : Result Entry Refusal} (room : length out ≡ min 256 (length slots)) (p : Taken pieces t out exit r) where
  answer_is : taken_of pieces t (length slots) ≡ told r
  answer_is = sym (at_most_256_slots pieces t bytes (length slots)) ∙ ap (taken_of pieces t) (sym room) ∙ sym p.answer

  pub waits : (rest : List ℕ) {e : Entry} → length exit ≡ length out → r ≡ Ok e → Waits pieces t slots (exit ++ rest) e
  unfolding slots_by
  waits rest {e} kept n =
      let count : e.dwords ≡ length (taken_dwords t) = taken_count pieces t (length slots) (answer_is ∙ ap told n) in
      let here : exit ≡ taken_dwords t ++ drop (length (taken_dwords t)) out = p.slots ∙ rw n in
      let size = ap length here ∙ length-append (taken_dwords t) (drop (length (taken_dwords t)) out) in
      let fits : length (taken_dwords t) ≤ length out = omega (arith, kept, size, length-drop (length (taken_dwords t)) out) in
      let whole : exit ++ rest ≡ taken_dwords t ++ (drop (length (taken_dwords t)) out ++ rest) =
      ap (λ (l : List ℕ). l ++ rest) here ∙ append_assoc (taken_dwords t) (drop (length (taken_dwords t)) out) rest in
      let front : take e.dwords (exit ++ rest) ≡ taken_dwords t =
      rw (count, whole) (take-append_seam (taken_dwords t) (drop (length (taken_dwords t)) out ++ rest)) in
      record {
        answer = answer_is ∙ ap told n;
        within = omega (arith, fits, count, kept, length-append exit rest);
        front = front;
        count = count ∙ ap length (sym front);
        fits = omega (arith, fits, room, ap length front);
      }

  pub waits_not : {k : Refusal} → r ≡ Err k → taken_of pieces t (length slots) ≡ T.refused (number_of k)
  waits_not n = answer_is ∙ ap told n
