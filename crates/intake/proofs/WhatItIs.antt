-- What a text is, both ways: the answer is so of every text, since either reader is sound and complete for its grammar and its numbers; no two answers are
-- so of one text; hence whatever is so is the answer. Assumes nothing.
use Rattle.std.specs.Prelude.{Ok, Result}
use Rattle.refusal.specs.declared.Refusal.{Refusal}
use Prim.Native.Nat.{ℕ, zero, suc, ◌≤◌}
use mathlib.Core.Path.{◌≡◌, refl, sym, ap, subst, ◌∙◌}
use mathlib.Core.Bool.{Bool, true, false, cond, false≢true}
use mathlib.Core.List.{List}
use mathlib.Core.Logic.{◌↔◌}
use native.Mathlib.Omega.{arith}
use native.Mathlib.Decide.{dec_le}
use borrow.Author.Tests.{eq-eqb, ne_eqb}
use lib.Dec.{leb}
use lib.ListN.{length, replicate}
use Rattle.refusal.specs.Told.{told}
use Rattle.text.specs.Told as T
use Rattle.refusal.proofs.Told.{one_told}
use Rattle.tlv.specs.Number.{Bytes}
use Rattle.entry.specs.declared.Entry.{Entry}
use Rattle.entry.specs.Entry.{EntryValue}
use Rattle.scan.specs.declared.Pieces.{Pieces}
use Rattle.scan.specs.Parse.{parse_of, slots_by}
use Rattle.scan.specs.Line.{Line, Condition, order_of, Applies}
use Rattle.scan.proofs.Chain.{Answered}
use Rattle.scan.proofs.Judged.{Says, judge}
use Rattle.scan.proofs.Theorems.{line_number_exactly, past_table}
use Rattle.record.specs.Grammar.{record_bytes, IsRecord}
use Rattle.record.specs.Judging.{refusal_of}
use Rattle.record.specs.Gathering.{entry_of}
use Rattle.record.specs.Conditions.{Breaks, unframed, runs_past, wrong_tag, wrong_body, lacks_tag, Refuses, breaks, few_slots}
use Rattle.record.specs.Reading.{dword_count, read_of}
use Rattle.record.proofs.Numbers.{number_exactly}
use Rattle.record.proofs.Records.{record_refused_exactly}
use Rattle.writer.specs.Writing.{bytes_of, write_of, buffer_by}
use Rattle.writer.proofs.RoundTrips.{some_written}
use Rattle.intake.specs.declared.What.{What}
use Rattle.intake.specs.declared.What.TheVariants as W
use Rattle.intake.specs.Intake.{Belongs, starts_a1, taken_of, taken_dwords}
use Rattle.intake.specs.Demand3.{ReadCall, WriteCall, Wrote, HasRecord}
use Rattle.intake.specs.Demand3Packets.{Round, Comes}
use Rattle.intake.specs.What.{grammar_of, what_of, Number, Is, WhatCall, WhatATextIs}
use Rattle.intake.proofs.Theorems.{record_starts, line_starts, no_text_is_both, accepted_exactly_when_it_belongs}
use Rattle.intake.proofs.Demand3.{record_is_the_writers}
use Rattle.intake.proofs.Demand3Packets.{comes_says}
use Rattle.intake.proofs.FirstBytes.{first_bytes_tell}

-- ---- the first byte

a1_first : (t : List ℕ) (v : EntryValue) → IsRecord t v → starts_a1 t ≡ true
unfolding starts_a1
a1_first t v r = eq-eqb _ _ (record_starts t v r)

no_a1_first : (pieces : Pieces) (t : List ℕ) (v : EntryValue) → Line pieces t v → starts_a1 t ≡ false
unfolding starts_a1
no_a1_first pieces t v a = ne_eqb _ _ (line_starts pieces t v a)

never_both_ways : {A : Type 0} (b : Bool) → b ≡ true → b ≡ false → A
never_both_ways b x y = absurd (false≢true (sym y ∙ x))

-- ---- the numbers

pub record_number_range : (t : List ℕ) (k : ℕ) → Breaks t k → (30 ≤ k) × (k ≤ 34)
record_number_range t k (unframed e h) = (omega (arith, e), omega (arith, e))
record_number_range t k (runs_past e at ps g r) = (omega (arith, e), omega (arith, e))
record_number_range t k (wrong_tag e at ps tag from to g f h) = (omega (arith, e), omega (arith, e))
record_number_range t k (wrong_body e at ps tag from to g f up known h) = (omega (arith, e), omega (arith, e))
record_number_range t k (lacks_tag e ps tag g m l) = (omega (arith, e), omega (arith, e))

-- no number below 1 or above 18 has a condition; given 256 slots, 17 says no more than 16, which comes first
pub line_number_range : (pieces : Pieces) (t : List ℕ) (k : ℕ) → Applies pieces t 256 k → (1 ≤ k) × (k ≤ 18) × (k ≡ 17 → ⊥)
unfolding Condition order_of
line_number_range pieces t k a = (low, high, no_17)
  where
    low : 1 ≤ k
    low =
        elim (dec_le 1 k) [
          | yes h ↦ h
          | no h ↦ let e : k ≡ 0 = omega arith in let c : Condition pieces t 256 0 = rw e at a.holds in absurd c
        ]

    high : k ≤ 18
    high =
        elim (dec_le k 18) [
          | yes h ↦ h
          | no h ↦ absurd (past_table pieces t 256 k (omega arith) a.holds)
        ]

    no_17 : k ≡ 17 → ⊥
    no_17 e = let c : Applies pieces t 256 17 = rw e at a in c.first 16 (omega arith) c.holds

-- a text whose record is refused with k is one to which k applies: 256 slots are enough, so 35 is not due
pub refused_record : (t : List ℕ) → Bytes t → (k : ℕ) → read_of t 256 ≡ T.refused k → Breaks t k
refused_record t bytes k q = go ((record_refused_exactly t bytes 256 k).0 q)
  where
    go : Refuses t 256 k → Breaks t k
    go (breaks b) = b
    go (few_slots e f) = absurd (omega (arith, f.fewer, f.is_record.ranged.few))

-- something is told of every line, of every record and of every text
pub line_never_none : (pieces : Pieces) (t : List ℕ) (room : ℕ) → parse_of pieces t room ≡ T.absent → ⊥
line_never_none pieces t room n = go (parse_of pieces t room) (judge pieces t room) n
  where
    go : (r : T.Told Entry) → Answered pieces t room (Says pieces t) r → r ≡ T.absent → ⊥
    go r (Answered.refused k a) q = let z : ◌≡◌ {A = ℕ} 0 1 = cc in omega arith
    go r (Answered.entry e c s) q = let z : ◌≡◌ {A = ℕ} 0 1 = cc in omega arith

pub record_never_none : (t : List ℕ) (room : ℕ) → read_of t room ≡ T.absent → ⊥
unfolding read_of
record_never_none t room n = go (refusal_of t) (leb (dword_count t) room) n
  where
    go : (m : ℕ) (y : Bool) → T.unless m (cond y (T.is (entry_of t)) (T.refused 35)) ≡ T.absent → ⊥
    go (suc m) y q = let z : ◌≡◌ {A = ℕ} 0 1 = cc in omega arith
    go zero true q = let z : ◌≡◌ {A = ℕ} 0 1 = cc in omega arith
    go zero false q = let z : ◌≡◌ {A = ℕ} 0 1 = cc in omega arith

never_none : (pieces : Pieces) (t : List ℕ) → taken_of pieces t 256 ≡ T.absent → ⊥
unfolding taken_of
never_none pieces t n = go (starts_a1 t) n
  where
    go : (b : Bool) → cond b (read_of t 256) (parse_of pieces t 256) ≡ T.absent → ⊥
    go true q = record_never_none t 256 q
    go false q = line_never_none pieces t 256 q

-- ---- the answer is so

-- the number of a refused text applies to it
number_applies : (pieces : Pieces) (t : List ℕ) → Bytes t → (k : ℕ) → taken_of pieces t 256 ≡ T.refused k → Number pieces t k
unfolding taken_of
number_applies pieces t bytes k n = go (starts_a1 t) refl n
  where
    go : (b : Bool) → starts_a1 t ≡ b → cond b (read_of t 256) (parse_of pieces t 256) ≡ T.refused k → Number pieces t k
    go true f q = Number.of_a_record f (refused_record t bytes k q)
    go false f q = Number.of_a_line f ((line_number_exactly pieces t 256 k).0 q)

-- an answer that tells what is told of the text, and is so
pub record Tells (pieces : Pieces) (t : List ℕ) : Type 0 where
  pub answer : T.Told What
  pub told : answer ≡ what_of pieces t
  pub so : Is pieces t answer

pub what_is : (pieces : Pieces) (t : List ℕ) → Bytes t → Tells pieces t
unfolding what_of grammar_of
what_is pieces t bytes = go (taken_of pieces t 256) refl
  where
    accepted : (e : Entry) → taken_of pieces t 256 ≡ T.is e → (v : EntryValue) → Belongs pieces t v → Tells pieces t
    accepted e n v (Belongs.a_record r) = record { answer = T.is W.Record; told = rw (n, a1_first t v r); so = (v, r) }
    accepted e n v (Belongs.line a) = record { answer = T.is W.Line; told = rw (n, no_a1_first pieces t v a); so = (v, a) }

    belongs_not : (k : ℕ) → taken_of pieces t 256 ≡ T.refused k → (v : EntryValue) → Belongs pieces t v → ⊥
    belongs_not k n v b =
        let e = (accepted_exactly_when_it_belongs pieces t bytes).1 (v, b) in
        let same : T.is e.0 ≡ T.refused k = sym e.1 ∙ n in
        absurd (let z : ◌≡◌ {A = ℕ} 0 1 = cc in omega arith)

    go : (r : T.Told Entry) → taken_of pieces t 256 ≡ r → Tells pieces t
    go T.absent n = absurd (never_none pieces t n)
    go (T.is e) n = let w = (accepted_exactly_when_it_belongs pieces t bytes).0 (e, n) in accepted e n w.0 w.1
    go (T.refused k) n =
        record {
          answer = T.refused k;
          told = rw n;
          so =
              record {
                no_record = λ v r. belongs_not k n v (Belongs.a_record r);
                no_line = λ v a. belongs_not k n v (Belongs.line a);
                number = number_applies pieces t bytes k n;
              };
        }

-- ---- no two are so

one_number : (pieces : Pieces) (t : List ℕ) → Bytes t → (j k : ℕ) → Number pieces t j → Number pieces t k → j ≡ k
one_number pieces t bytes j k (Number.of_a_record f a) (Number.of_a_record g b) = sym (number j a) ∙ number k b
  where
    number : (k : ℕ) → Breaks t k → refusal_of t ≡ k
    number k a = (number_exactly t bytes k (λ z. omega (arith, z, (record_number_range t k a).0))).1 a
one_number pieces t bytes j k (Number.of_a_record f a) (Number.of_a_line g b) = never_both_ways (starts_a1 t) f g
one_number pieces t bytes j k (Number.of_a_line f a) (Number.of_a_record g b) = never_both_ways (starts_a1 t) g f
one_number pieces t bytes j k (Number.of_a_line f a) (Number.of_a_line g b) =
    let same : ◌≡◌ {A = T.Told Entry} (T.refused j) (T.refused k) = sym ((line_number_exactly pieces t 256 j).1 a) ∙ (line_number_exactly pieces t 256 k).1 b in
    cc

-- a text is one thing
pub one_what : (pieces : Pieces) (t : List ℕ) → Bytes t → (q r : T.Told What) → Is pieces t q → Is pieces t r → q ≡ r
one_what pieces t bytes (T.is W.Record) (T.is W.Record) a b = refl
one_what pieces t bytes (T.is W.Record) (T.is W.Line) a b = absurd (no_text_is_both pieces t b.0 a.0 b.1 a.1)
one_what pieces t bytes (T.is W.Record) (T.refused k) a b = absurd (b.no_record a.0 a.1)
one_what pieces t bytes (T.is W.Line) (T.is W.Record) a b = absurd (no_text_is_both pieces t a.0 b.0 a.1 b.1)
one_what pieces t bytes (T.is W.Line) (T.is W.Line) a b = refl
one_what pieces t bytes (T.is W.Line) (T.refused k) a b = absurd (b.no_line a.0 a.1)
one_what pieces t bytes (T.refused j) (T.is W.Record) a b = absurd (a.no_record b.0 b.1)
one_what pieces t bytes (T.refused j) (T.is W.Line) a b = absurd (a.no_line b.0 b.1)
one_what pieces t bytes (T.refused j) (T.refused k) a b = ap T.refused (one_number pieces t bytes j k a.number b.number)
one_what pieces t bytes T.absent r a b = absurd a
one_what pieces t bytes (T.is w) T.absent a b = absurd b
one_what pieces t bytes (T.refused k) T.absent a b = absurd b

-- what is so is told
pub what_all : (pieces : Pieces) (t : List ℕ) → Bytes t → (r : T.Told What) → Is pieces t r → r ≡ what_of pieces t
what_all pieces t bytes r a = let w = what_is pieces t bytes in one_what pieces t bytes r w.answer a w.so ∙ w.told

-- both ways
pub what_exactly : (pieces : Pieces) (t : List ℕ) → Bytes t → (r : T.Told What) → (r ≡ what_of pieces t) ↔ Is pieces t r
what_exactly pieces t bytes r = (is, what_all pieces t bytes r)
  where
    is : r ≡ what_of pieces t → Is pieces t r
    is e = let w = what_is pieces t bytes in subst (λ (q : T.Told What). Is pieces t q) (w.told ∙ sym e) w.so

-- ---- already decoded

-- a record comes from itself: read, and its entry written, it is the same bytes again
record_comes : (pieces : Pieces) (t : List ℕ) → Bytes t → (v : EntryValue) → IsRecord t v → Comes pieces t t
record_comes pieces t bytes v r = Comes.once round
  where
    slots : List ℕ
    slots = replicate 256 0

    buffer : List ℕ
    buffer = replicate 5227 0

    accepted : (e : Entry) × (taken_of pieces t 256 ≡ T.is e)
    accepted = (accepted_exactly_when_it_belongs pieces t bytes).1 (v, Belongs.a_record r)

    left : List ℕ
    left = slots_by (T.is accepted.0) (taken_dwords t) slots

    read : ReadCall pieces t slots (Ok accepted.0) left
    read = record { bytes = bytes; enough = omega arith; contract = record { answer = sym accepted.1; slots = refl } }

    says : (w : EntryValue) × (record_bytes w ≡ t) × HasRecord t accepted.0 left w
    says = record_is_the_writers pieces t slots accepted.0 left (a1_first t v r) read

    answer : (r : Result ℕ Refusal) × (told r ≡ write_of t accepted.0 left 5227)
    answer = some_written t accepted.0 left 5227

    written : List ℕ
    written = buffer_by (told answer.0) (bytes_of t accepted.0 left) buffer

    wrote : Wrote (record_bytes says.0) buffer answer.0 written
    wrote = says.2.written buffer answer.0 written (record { enough = omega arith; contract = record { answer = answer.1; buffer = refl } })

    write : WriteCall t accepted.0 left buffer (Ok (length (record_bytes says.0))) written
    write =
        record {
          enough = omega arith;
          contract =
              record {
                answer = ap told (sym wrote.number) ∙ answer.1;
                buffer = ap (λ (a : Result ℕ Refusal). buffer_by (told a) (bytes_of t accepted.0 left) buffer) wrote.number;
              };
        }

    round : Round pieces t t
    round =
        record {
          slots = slots;
          entry = accepted.0;
          left = left;
          read = read;
          buffer = buffer;
          count = length (record_bytes says.0);
          written = written;
          write = write;
          handed_on = sym says.1 ∙ sym wrote.first;
        }

-- ---- the promises

-- an answer of the call, by what the text is
call_exactly : (pieces : Pieces) (text : List ℕ) (answer : Result What Refusal) → WhatCall pieces text answer → (r : T.Told What)
    → (told answer ≡ r) ↔ Is pieces text r
call_exactly pieces text answer c r =
    let w = what_exactly pieces text c.bytes r in
    (λ e. w.0 (sym e ∙ c.contract), λ a. c.contract ∙ sym (w.1 a))

-- the same of an answer that is a grammar
call_says : (pieces : Pieces) (text : List ℕ) (answer : Result What Refusal) → WhatCall pieces text answer → (what : What)
    → (answer ≡ Ok what) ↔ Is pieces text (T.is what)
call_says pieces text answer c what =
    let w = call_exactly pieces text answer c (T.is what) in
    (λ e. w.0 (ap told e), λ a. one_told answer (Ok what) (w.1 a))

-- no second answer satisfies the contract of `what_is`
pub no_second_what : (pieces : Pieces) (text : List ℕ) (a b : Result What Refusal) → WhatCall pieces text a → WhatCall pieces text b → a ≡ b
no_second_what pieces text a b c d = one_told a b (c.contract ∙ sym d.contract)

-- what the call tells of every text
pub what_a_text_is : (pieces : Pieces) → WhatATextIs pieces
what_a_text_is pieces =
    record {
      says_record = λ text answer c. call_says pieces text answer c W.Record;
      says_line = λ text answer c. call_says pieces text answer c W.Line;
      says_neither = λ text answer c k. call_exactly pieces text answer c (T.refused k);
      one_holds = λ text bytes. ((what_is pieces text bytes).answer, (what_is pieces text bytes).so);
      no_two_hold = one_what pieces;
      already_decoded =
          λ text answer c. (
            λ e. let r = (call_says pieces text answer c W.Record).0 e in (text, record_comes pieces text c.bytes r.0 r.1),
            λ y. let h = comes_says pieces y.0 text y.1 in (call_says pieces text answer c W.Record).1 (h.0, h.2),
          );
      record_numbers = λ text k o first. number_a1 text k o.number first;
      line_numbers = λ text k o first. number_no_a1 text k o.number first;
      first_bytes_tell = first_bytes_tell pieces;
    }
  where
    number_a1 : (t : List ℕ) (k : ℕ) → Number pieces t k → starts_a1 t ≡ true → (30 ≤ k) × (k ≤ 34)
    number_a1 t k (Number.of_a_record f a) first = record_number_range t k a
    number_a1 t k (Number.of_a_line f a) first = never_both_ways (starts_a1 t) first f

    number_no_a1 : (t : List ℕ) (k : ℕ) → Number pieces t k → starts_a1 t ≡ false → (1 ≤ k) × (k ≤ 18) × (k ≡ 17 → ⊥)
    number_no_a1 t k (Number.of_a_record f a) first = never_both_ways (starts_a1 t) f first
    number_no_a1 t k (Number.of_a_line f a) first = line_number_range pieces t k a
