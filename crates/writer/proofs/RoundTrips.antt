-- The promises of writing: 37 and 36 are told exactly where their conditions hold; what is written reads back to the same entry; every record is what writing its entry
-- gives; a refusal changes nothing; no second answer. Assumes nothing.
use Rattle.std.specs.Prelude.{Err, Ok, Result}
use Rattle.refusal.specs.declared.Refusal.{Refusal}
use Rattle.refusal.specs.declared.Refusal.TheVariants as R
use Prim.Native.Nat.{ℕ, suc, ◌+◌, ◌^◌, ◌≤◌, ◌<◌}
use mathlib.Core.Path.{◌≡◌, ◌∙◌, sym, ap, refl}
use mathlib.Core.Bool.{Bool, true, false, cond, false≢true}
use mathlib.Core.List.{List, [], ◌∷◌}
use mathlib.Core.Logic.{◌↔◌}
use native.Mathlib.Omega.{arith}
use native.Mathlib.Decide.{dec_lt}
use borrow.Author.Tests.{le-leb, lt-leb, leb-true, leb-false}
use lib.Dec.{leb}
use lib.ListN.{length, get_or, take, drop, length-take, get_or-eq_default}
use lib.Seq.{take-append_seam, get_or-take}
use Rattle.text.specs.Class.{is_word}
use Rattle.text.specs.Told as T
use Rattle.refusal.specs.Told.{told}
use Rattle.refusal.proofs.Told.{one_told}
use Rattle.tlv.specs.Number.{Bytes as AreBytes}
use Rattle.tlv.specs.Grammar.{All}
use Rattle.tlv.proofs.Places.{bytes_take}
use Rattle.entry.specs.declared.Entry.{Entry}
use Rattle.entry.specs.Entry.{EntryValue, part_of, value_of, SameEntry}
use Rattle.entry.proofs.Parts.{part_in}
use Rattle.record.specs.Grammar.{record_bytes, IsRecord}
use Rattle.record.specs.Rule.{is_task_byte}
use Rattle.record.specs.Reading.{over, dwords_of, read_of}
use Rattle.record.proofs.Bodies.{fits_text_is, fits_text_all}
use Rattle.record.proofs.Complete.{task_letter}
use Rattle.record.proofs.Sound.{task_byte}
use Rattle.record.proofs.Records.{Accepts, record_accepted_exactly, record_at_most_5227}
use Rattle.writer.specs.Ranges.{fits_texts, fits_numbers, writable}
use Rattle.writer.specs.Typed.{Typed}
use Rattle.writer.specs.Writing.{bytes_of, write_of, buffer_by, Writing}
use Rattle.writer.specs.Conditions.{Writable, Refuses, not_writable, short_buffer}
use Rattle.writer.proofs.Puts.{part_length}
use Rattle.writer.proofs.Writes.{Fits, fits_all}

below_all : (l : List ℕ) → ((i : ℕ) → get_or l i 0 < 2 ^ 32) → All (λ d. d < 2 ^ 32) l
below_all [] h = tt
below_all (d ∷ l) h = (h 0, below_all l (λ i. h (suc i)))

-- a part of dwords is dwords
below_part : (l : List ℕ) (n : ℕ) → n ≤ length l → ((i : ℕ) → get_or l i 0 < 2 ^ 32) → All (λ d. d < 2 ^ 32) (part_of l 0 n)
below_part l n h b =
    rw (← part_in l 0 n (omega arith))
    (below_all (take n l)
    (λ i.
    elim (dec_lt i n) [
      | yes k ↦ rw (get_or-take n l i 0 k) (b i)
      | no k ↦ rw (get_or-eq_default (take n l) 0 {n = i} (rw (length-take n l) (omega arith))) (omega arith)
    ]))

module _ (text : List ℕ) (e : Entry) (dwords : List ℕ) where
  writable_is : Typed e dwords → writable text e dwords ≡ true → Writable text e dwords
  unfolding value_of
  writable_is t h =
      let f : Fits text e dwords = fits_all text e dwords h in
      let task = fits_text_is is_task_byte (λ b. (b < 128) × (b ≡ 32 → ⊥)) task_byte (part_of text e.task_at e.task_len) f.task in
      let function = fits_text_is is_word (λ b. is_word b ≡ true) (λ b h. h) (part_of text e.function_at e.function_len) f.function in
      record {
        lies = f.lies;
        ranged =
            record {
              task = record { some = task.0; letters = task.1 };
              pid = t.pid;
              cpu = f.cpu;
              seconds = omega (arith, f.seconds);
              microseconds = omega (arith, f.microseconds);
              function = record { some = function.0; letters = function.1 };
              together =
                  omega (
                    arith,
                    f.together,
                    part_length text e.task_at e.task_len f.lies.task,
                    part_length text e.function_at e.function_len f.lies.function,
                  );
              kind = f.kind;
              size = t.size;
              domain = t.domain;
              route = t.route;
              offset = t.offset;
              code = t.code;
              len = t.len;
              port = t.port;
              config = t.config;
              seq = t.seq;
              unplug = t.unplug;
              dwords = below_part dwords e.dwords f.lies.dwords t.dword;
              few = omega (arith, f.few, part_length dwords 0 e.dwords (omega (arith, f.lies.dwords)));
            };
      }

  writable_all : Writable text e dwords → writable text e dwords ≡ true
  unfolding writable fits_texts fits_numbers value_of
  writable_all w =
      let l = w.lies in
      let r = w.ranged in
      let sum : e.task_len + e.function_len ≤ 4096 =
      omega (
        arith,
        r.together,
        part_length text e.task_at e.task_len l.task,
        part_length text e.function_at e.function_len l.function,
      ) in
      let few : e.dwords ≤ 256 = omega (arith, r.few, part_length dwords 0 e.dwords (omega (arith, l.dwords))) in
      let seconds : e.seconds ≤ 0x7fffffffffffffff = omega (arith, r.seconds) in
      let microseconds : e.microseconds ≤ 0x7fffffffffffffff = omega (arith, r.microseconds) in
      rw (
        fits_text_all is_task_byte (λ b. (b < 128) × (b ≡ 32 → ⊥)) task_letter (part_of text e.task_at e.task_len) r.task.some r.task.letters,
        fits_text_all is_word (λ b. is_word b ≡ true) (λ b h. h) (part_of text e.function_at e.function_len) r.function.some r.function.letters,
        le-leb (e.task_len + e.function_len) 4096 sum,
        le-leb e.cpu 999 r.cpu,
        le-leb e.seconds 0x7fffffffffffffff seconds,
        le-leb e.microseconds 0x7fffffffffffffff microseconds,
        le-leb e.kind 12 r.kind,
        le-leb e.dwords 256 few,
        le-leb e.dwords (length dwords) l.dwords,
      )

  -- number 37 is due exactly if the entry breaks the ranges or its parts lie outside what is lent
  pub writable_exactly : Typed e dwords → (writable text e dwords ≡ true) ↔ Writable text e dwords
  writable_exactly t = (writable_is t, writable_all)

-- an answer that is bytes: the entry was writable, and the bytes are the record's
bytes_answered : (text : List ℕ) (e : Entry) (dwords : List ℕ) (room n : ℕ) → write_of text e dwords room ≡ T.is n
    → (writable text e dwords ≡ true) × (length (bytes_of text e dwords) ≤ room) × (length (bytes_of text e dwords) ≡ n)
unfolding write_of
bytes_answered text e dwords room n h =
    go (writable text e dwords) (leb (length (bytes_of text e dwords)) room) refl refl h
  where
    go : (x y : Bool) → writable text e dwords ≡ x → leb (length (bytes_of text e dwords)) room ≡ y
        → cond x (cond y (T.is (length (bytes_of text e dwords))) (T.refused 36)) (T.refused 37) ≡ T.is n
        → (writable text e dwords ≡ true) × (length (bytes_of text e dwords) ≤ room) × (length (bytes_of text e dwords) ≡ n)
    go false y a b h = absurd (let z : ◌≡◌ {A = ℕ} 0 1 = cc in omega arith)
    go true false a b h = absurd (let z : ◌≡◌ {A = ℕ} 0 1 = cc in omega arith)
    go true true a b h = (a, leb-true (length (bytes_of text e dwords)) room b, (cc))

-- what was written is a record, and the record of what the entry says
pub written_is_record : (text : List ℕ) (e : Entry) (dwords out : List ℕ) (n : ℕ) (left : List ℕ)
    → Typed e dwords → Writing text e dwords out (Ok n) left → IsRecord (take n left) (value_of e text dwords)
unfolding bytes_of buffer_by
written_is_record text e dwords out n left t w =
    let h = bytes_answered text e dwords (length out) n (sym w.answer) in
    let r : Writable text e dwords = writable_is text e dwords t h.0 in
    let first : take n left ≡ record_bytes (value_of e text dwords) =
    ap (λ (m : ℕ). take m left) (sym h.2)
    ∙ ap (take (length (record_bytes (value_of e text dwords)))) w.buffer
    ∙ take-append_seam (record_bytes (value_of e text dwords)) (drop (length (record_bytes (value_of e text dwords))) out) in
    record { ranged = r.ranged; bytes = sym first }

-- what was written reads back, with 256 slots, to the same entry
pub record ReadsBack (text : List ℕ) (e : Entry) (dwords t slots : List ℕ) : Type 0 where
  pub entry : Entry
  pub answer : read_of t (length slots) ≡ T.is entry
  pub same : SameEntry e text dwords entry t (over (dwords_of t) slots)

pub record_reads_back : (text : List ℕ) (e : Entry) (dwords out : List ℕ) (n : ℕ) (left slots : List ℕ)
    → Typed e dwords → AreBytes left → Writing text e dwords out (Ok n) left → 256 ≤ length slots
    → ReadsBack text e dwords (take n left) slots
record_reads_back text e dwords out n left slots t bytes w room =
    let h = bytes_answered text e dwords (length out) n (sym w.answer) in
    let r : Writable text e dwords = writable_is text e dwords t h.0 in
    let a : Accepts (take n left) slots (value_of e text dwords) =
    (record_accepted_exactly (take n left) (bytes_take left n bytes) slots room (value_of e text dwords)).1
    (written_is_record text e dwords out n left t w) in
    record {
      entry = a.entry;
      answer = a.answer;
      same = record { first_lies = r.lies; second_lies = a.lies; same = sym a.value };
    }

-- every record that is accepted is the writer's output for its entry: written from the record's own text and the slots as left, with room enough, it
-- gives the record's bytes again
pub record_writes_back : (t slots : List ℕ) → AreBytes t → 256 ≤ length slots → (v : EntryValue) (a : Accepts t slots v)
    → (room : ℕ) → 5227 ≤ room
    → (write_of t a.entry (over (dwords_of t) slots) room ≡ T.is (length t)) × (bytes_of t a.entry (over (dwords_of t) slots) ≡ t)
unfolding write_of bytes_of
record_writes_back t slots bytes enough v a room h =
    let r : IsRecord t v = (record_accepted_exactly t bytes slots enough v).0 a in
    let made : record_bytes (value_of a.entry t (over (dwords_of t) slots)) ≡ t = ap record_bytes a.value ∙ r.bytes in
    let w : Writable t a.entry (over (dwords_of t) slots) = record { lies = a.lies; ranged = rw a.value r.ranged } in (
      rw (writable_all t a.entry (over (dwords_of t) slots) w, made, le-leb (length t) room (omega (arith, record_at_most_5227 t v r))),
      made,
    )

-- an entry that keeps the ranges, its parts in what is lent, is written where 5,227 bytes are lent: the answer is the record's length, and the record lies
-- over the first bytes, all others as found
pub writable_is_written : (text : List ℕ) (e : Entry) (dwords out : List ℕ) {r : Result ℕ Refusal} {left : List ℕ}
    → Writable text e dwords → 5227 ≤ length out → Writing text e dwords out r left
    → (r ≡ Ok (length (bytes_of text e dwords))) × (left ≡ over (bytes_of text e dwords) out)
unfolding write_of bytes_of buffer_by
writable_is_written text e dwords out {r} {left} w room c =
    let short : length (record_bytes (value_of e text dwords)) ≤ 5227 =
    record_at_most_5227 (record_bytes (value_of e text dwords)) (value_of e text dwords) (record { ranged = w.ranged; bytes = refl }) in
    let same : told r ≡ T.is (length (record_bytes (value_of e text dwords))) =
    c.answer ∙ rw (writable_all text e dwords w, le-leb (length (record_bytes (value_of e text dwords))) (length out) (omega (arith, short))) in
    let answer : r ≡ Ok (length (record_bytes (value_of e text dwords))) = one_told r (Ok (length (record_bytes (value_of e text dwords)))) same in
    (answer, c.buffer ∙ rw answer)

-- a refusal changes nothing
pub refused_writing_changes_nothing : (text : List ℕ) (e : Entry) (dwords out : List ℕ) (k : Refusal) (left : List ℕ)
    → Writing text e dwords out (Err k) left → left ≡ out
unfolding buffer_by
refused_writing_changes_nothing text e dwords out k left w = w.buffer

-- 37 is told exactly if the entry breaks the record's ranges or its parts lie outside what is lent; 36 exactly if that is not so and the buffer is
-- shorter than the record; no other number is
pub write_refused_exactly : (text : List ℕ) (e : Entry) (dwords : List ℕ) → Typed e dwords → (room k : ℕ)
    → (write_of text e dwords room ≡ T.refused k) ↔ Refuses text e dwords room k
unfolding write_of bytes_of
write_refused_exactly text e dwords typed room k = (is, all)
  where
    go : (x y : Bool) → writable text e dwords ≡ x → leb (length (record_bytes (value_of e text dwords))) room ≡ y
        → cond x (cond y (T.is (length (record_bytes (value_of e text dwords)))) (T.refused 36)) (T.refused 37) ≡ T.refused k
        → Refuses text e dwords room k
    go false y a b h =
        let number : 37 ≡ k = cc in
        not_writable (sym number) (λ w. false≢true (sym a ∙ writable_all text e dwords w))
    go true false a b h =
        let number : 36 ≡ k = cc in
        short_buffer (sym number) (writable_is text e dwords typed a) (omega (arith, leb-false (length (record_bytes (value_of e text dwords))) room b))
    go true true a b h = absurd (let z : ◌≡◌ {A = ℕ} 0 1 = cc in omega arith)

    is : cond (writable text e dwords)
        (cond (leb (length (record_bytes (value_of e text dwords))) room) (T.is (length (record_bytes (value_of e text dwords)))) (T.refused 36))
        (T.refused 37) ≡ T.refused k → Refuses text e dwords room k
    is h = go (writable text e dwords) (leb (length (record_bytes (value_of e text dwords))) room) refl refl h

    refuses_37 : (x : Bool) → writable text e dwords ≡ x → (Writable text e dwords → ⊥) → writable text e dwords ≡ false
    refuses_37 true a n = absurd (n (writable_is text e dwords typed a))
    refuses_37 false a n = a

    all : Refuses text e dwords room k → cond (writable text e dwords)
        (cond (leb (length (record_bytes (value_of e text dwords))) room) (T.is (length (record_bytes (value_of e text dwords)))) (T.refused 36))
        (T.refused 37) ≡ T.refused k
    all (not_writable q n) = rw (refuses_37 (writable text e dwords) refl n, q)
    all (short_buffer q w l) =
        rw (writable_all text e dwords w, lt-leb (length (record_bytes (value_of e text dwords))) room l, q)

-- no second answer satisfies the contract, buffer included
pub no_second_writing : (text : List ℕ) (e : Entry) (dwords out : List ℕ) {r s : Result ℕ Refusal} {left other : List ℕ}
    → Writing text e dwords out r left → Writing text e dwords out s other → (r ≡ s) × (left ≡ other)
no_second_writing text e dwords out {r} {s} a b =
    let same : told r ≡ told s = a.answer ∙ sym b.answer in
    (one_told r s same, a.buffer ∙ rw same (sym b.buffer))

-- every call has an answer: some answer tells what is told
pub some_written : (text : List ℕ) (e : Entry) (dwords : List ℕ) (room : ℕ) → (r : Result ℕ Refusal) × (told r ≡ write_of text e dwords room)
unfolding write_of
some_written text e dwords room = go (writable text e dwords) (leb (length (bytes_of text e dwords)) room)
  where
    go : (x y : Bool)
        → (r : Result ℕ Refusal) × (told r ≡ cond x (cond y (T.is (length (bytes_of text e dwords))) (T.refused 36)) (T.refused 37))
    go false y = (Err R.BadEntry, refl)
    go true false = (Err R.ShortBuffer, refl)
    go true true = (Ok (length (bytes_of text e dwords)), refl)
