-- The promises of reading: with 256 slots a text is accepted exactly if it is a record, and its entry is the one that the record is of; a record has
-- one reading and at most 5,227 bytes; each number is told exactly where its condition holds; a refusal changes nothing; no second answer. Assumes nothing.
use Rattle.std.specs.Prelude.{Err, None, Option, Result, Some}
use Rattle.refusal.specs.declared.Refusal.{Refusal}
use Rattle.refusal.specs.Told.{told}
use Rattle.refusal.proofs.Told.{one_told}
use Prim.Native.Nat.{ℕ, ◌+◌, ◌≤◌, ◌<◌}
use mathlib.Core.Path.{◌≡◌, ◌∙◌, sym, ap, refl}
use mathlib.Core.Bool.{Bool, true, false, cond}
use mathlib.Core.List.{List}
use mathlib.Core.Logic.{◌↔◌, ⊎_elim}
use Rattle.std.specs.Option.{option_map}
use native.Mathlib.Omega.{arith}
use borrow.Author.Tests.{le-leb, lt-leb, leb-true, leb-false}
use lib.Dec.{leb}
use lib.ListN.{length, drop, length-append}
use lib.Seq.{take-append_seam}
use Rattle.text.specs.Told as T
use Rattle.text.proofs.Told.{number_first, value_behind, number_behind}
use Rattle.tlv.specs.Number.{Bytes, number_bytes}
use Rattle.tlv.specs.Grammar.{fields_bytes}
use Rattle.tlv.proofs.Numbers.{number_bytes_length}
use Rattle.tlv.proofs.Pieces.{field_bytes_length}
use Rattle.entry.specs.declared.Entry.{Entry}
use Rattle.entry.specs.Entry.{EntryValue, part_of, value_of, Lies}
use Rattle.entry.proofs.Parts.{part_in}
use Rattle.record.specs.Grammar.{rows_of, present, record_bytes, IsRecord}
use Rattle.record.specs.Judging.{refusal_of}
use Rattle.record.specs.Conditions.{Breaks, unframed, runs_past, wrong_tag, wrong_body, lacks_tag, Refuses, breaks, few_slots}
use Rattle.record.specs.Gathering.{entry_of}
use Rattle.record.specs.Reading.{over, dword_count, dwords_of, read_of, slots_by, Reading}
use Rattle.record.proofs.Rows.{size_of, present_length}
use Rattle.record.proofs.Bodies.{dwords_bytes_length}
use Rattle.record.proofs.Complete.{value_in, part_all, record_not_refused, record_dword_count, record_value}
use Rattle.record.proofs.Numbers.{number_exactly}
use Rattle.record.proofs.Sound.{Passes, passes_all, passes_is, dwords_count, places_lie}

-- a text is accepted as v: reading answers an entry whose parts lie in the text and the slots as left, and which says v
pub record Accepts (t slots : List ℕ) (v : EntryValue) : Type 0 where
  pub entry : Entry
  pub answer : read_of t (length slots) ≡ T.is entry
  pub lies : Lies entry t (over (dwords_of t) slots)
  pub value : value_of entry t (over (dwords_of t) slots) ≡ v

-- the dwords of a text lie over the first slots
module _ (ds slots : List ℕ) where
  over_length : length ds ≤ length (over ds slots)
  over_length = omega (arith, length-append ds (drop (length ds) slots))

  over_part : part_of (over ds slots) 0 (length ds) ≡ ds
  over_part = sym (part_in (over ds slots) 0 (length ds) (omega (arith, over_length))) ∙ take-append_seam ds (drop (length ds) slots)

-- an entry that is read is the one of the text's fields
pub entry_answered : (t : List ℕ) (n : ℕ) (e : Entry) → read_of t n ≡ T.is e → (refusal_of t ≡ 0) × (dword_count t ≤ n) × (entry_of t ≡ e)
unfolding read_of
entry_answered t n e h =
    let w = value_behind (refusal_of t) (cond (leb (dword_count t) n) (T.is (entry_of t)) (T.refused 35)) h in
    go (leb (dword_count t) n) refl w.0 w.1
  where
    go : (y : Bool) → leb (dword_count t) n ≡ y → refusal_of t ≡ 0 → cond y (T.is (entry_of t)) (T.refused 35) ≡ T.is e
        → (refusal_of t ≡ 0) × (dword_count t ≤ n) × (entry_of t ≡ e)
    go false b z h = absurd (let y : ◌≡◌ {A = ℕ} 0 1 = cc in omega arith)
    go true b z h = (z, leb-true (dword_count t) n b, (cc))

-- the value of the entry with the slots as left is the value that the fields give
slots_value : (t slots : List ℕ) → length (dwords_of t) ≡ dword_count t → value_of (entry_of t) t (over (dwords_of t) slots) ≡ value_in t
unfolding value_in value_of entry_of dword_count
slots_value t slots e =
    let words : part_of (over (dwords_of t) slots) 0 (dword_count t) ≡ part_of (dwords_of t) 0 (dword_count t) =
    ap (part_of (over (dwords_of t) slots) 0) (sym e) ∙ over_part (dwords_of t) slots ∙ sym (part_all (dwords_of t) (dword_count t) (sym e)) in
    rw words

-- with 256 slots a text is accepted as v exactly if it is the record of v
pub record_accepted_exactly : (t : List ℕ) → Bytes t → (slots : List ℕ) → 256 ≤ length slots → (v : EntryValue) → Accepts t slots v ↔ IsRecord t v
unfolding read_of
record_accepted_exactly t bytes slots room v = (is, all)
  where
    is : Accepts t slots v → IsRecord t v
    is a =
        let h = entry_answered t (length slots) a.entry a.answer in
        let p : Passes t = passes_all t h.0 in
        let e : value_in t ≡ v =
        sym (slots_value t slots (dwords_count t bytes p))
        ∙ ap (λ (r : Entry). value_of r t (over (dwords_of t) slots)) h.2
        ∙ a.value in
        rw (← e) (passes_is t bytes p)

    all : IsRecord t v → Accepts t slots v
    all r =
        let none_refused : refusal_of t ≡ 0 = record_not_refused t v r in
        let p : Passes t = passes_all t none_refused in
        let count : length (dwords_of t) ≡ dword_count t = dwords_count t bytes p in
        let fits : dword_count t ≤ length slots = omega (arith, record_dword_count t v r, r.ranged.few) in
        record {
          entry = entry_of t;
          answer = rw (none_refused, le-leb (dword_count t) (length slots) fits);
          lies = places_lie t bytes p (over (dwords_of t) slots) (omega (arith, over_length (dwords_of t) slots, count));
          value = slots_value t slots count ∙ record_value t v r;
        }

-- whatever was accepted is a record
pub accepted_is_record : (t : List ℕ) → Bytes t → (n : ℕ) (e : Entry) → read_of t n ≡ T.is e → IsRecord t (value_in t)
accepted_is_record t bytes n e q = passes_is t bytes (passes_all t (entry_answered t n e q).0)

-- a record has one reading
pub one_record_reading : (t : List ℕ) (v w : EntryValue) → IsRecord t v → IsRecord t w → v ≡ w
one_record_reading t v w a b = sym (record_value t v a) ∙ record_value t w b

optional_size : (k : ℕ) (o : Option ℕ) → size_of (option_map (number_bytes k) o) ≤ k + 3
optional_size k None = omega arith
optional_size k (Some n) = omega (arith, number_bytes_length k n)

-- a record has at most 5,227 bytes
pub record_at_most_5227 : (t : List ℕ) (v : EntryValue) → IsRecord t v → length t ≤ 5227
unfolding record_bytes rows_of
record_at_most_5227 t v r =
    let whole : length t ≡ length (fields_bytes (present (rows_of v))) + 3 =
    ap length (sym r.bytes) ∙ field_bytes_length 0xA1 (fields_bytes (present (rows_of v))) in
    let b04 : (n : ℕ) → length (number_bytes 4 n) ≡ 4 = number_bytes_length 4 in
    omega (
      arith,
      whole,
      present_length (rows_of v),
      r.ranged.together,
      r.ranged.few,
      dwords_bytes_length v.dwords,
      number_bytes_length 4 v.pid,
      number_bytes_length 2 v.cpu,
      number_bytes_length 8 v.seconds,
      number_bytes_length 8 v.microseconds,
      number_bytes_length 1 v.kind,
      number_bytes_length 2 v.size,
      number_bytes_length 1 (cond v.dropped 1 0),
      number_bytes_length 4 v.domain,
      number_bytes_length 8 v.route,
      optional_size 2 v.offset,
      optional_size 1 v.code,
      optional_size 2 v.len,
      optional_size 1 v.port,
      optional_size 1 v.config,
      optional_size 1 v.seq,
      optional_size 1 v.unplug,
    )

-- a refusal changes nothing
pub refused_reading_changes_nothing : (t slots : List ℕ) (n : Refusal) (left : List ℕ) → Reading t slots (Err n) left → left ≡ slots
unfolding slots_by
refused_reading_changes_nothing t slots n left r = r.slots_left

-- ---- the numbers

breaks_some : (t : List ℕ) (k : ℕ) → Breaks t k → k ≡ 0 → ⊥
breaks_some t k (unframed e h) z = omega (arith, e, z)
breaks_some t k (runs_past e at ps g r) z = omega (arith, e, z)
breaks_some t k (wrong_tag e at ps tag from to g f h) z = omega (arith, e, z)
breaks_some t k (wrong_body e at ps tag from to g f up known h) z = omega (arith, e, z)
breaks_some t k (lacks_tag e ps tag g m l) z = omega (arith, e, z)

-- each number from 30 to 35 is told exactly if its condition holds, and no other number is
pub record_refused_exactly : (t : List ℕ) → Bytes t → (slots k : ℕ) → (read_of t slots ≡ T.refused k) ↔ Refuses t slots k
unfolding read_of
record_refused_exactly t bytes slots k = (is, all)
  where
    slots_told : T.Told Entry
    slots_told = cond (leb (dword_count t) slots) (T.is (entry_of t)) (T.refused 35)

    short : (y : Bool) → leb (dword_count t) slots ≡ y → refusal_of t ≡ 0 → cond y (T.is (entry_of t)) (T.refused 35) ≡ T.refused k → Refuses t slots k
    short true b z h = absurd (let y : ◌≡◌ {A = ℕ} 0 1 = cc in omega arith)
    short false b z h =
        let made : IsRecord t (value_in t) = passes_is t bytes (passes_all t z) in
        let number : 35 ≡ k = cc in
        few_slots (sym number)
        (record {
          value = value_in t;
          is_record = made;
          fewer = omega (arith, leb-false (dword_count t) slots b, record_dword_count t (value_in t) made);
        })

    is : T.unless (refusal_of t) (cond (leb (dword_count t) slots) (T.is (entry_of t)) (T.refused 35)) ≡ T.refused k → Refuses t slots k
    is e =
        ⊎_elim (λ h. breaks ((number_exactly t bytes k h.1).0 h.0)) (λ h. short (leb (dword_count t) slots) refl h.0 h.1)
        (number_behind (refusal_of t) (cond (leb (dword_count t) slots) (T.is (entry_of t)) (T.refused 35)) e)

    all : Refuses t slots k → T.unless (refusal_of t) (cond (leb (dword_count t) slots) (T.is (entry_of t)) (T.refused 35)) ≡ T.refused k
    all (breaks b) =
        let Some : k ≡ 0 → ⊥ = breaks_some t k b in
        rw ((number_exactly t bytes k Some).1 b) (number_first k slots_told Some)
    all (few_slots e f) =
        let none_refused : refusal_of t ≡ 0 = record_not_refused t f.value f.is_record in
        let fewer : slots < dword_count t = omega (arith, f.fewer, record_dword_count t f.value f.is_record) in
        rw (none_refused, lt-leb (dword_count t) slots fewer, e)

-- ---- no second answer

-- no second answer satisfies the contract, slots included
pub no_second_reading : (t slots : List ℕ) {r s : Result Entry Refusal} {left other : List ℕ} → Reading t slots r left → Reading t slots s other
    → (r ≡ s) × (left ≡ other)
no_second_reading t slots {r} {s} a b =
    let same : told r ≡ told s = a.answer ∙ sym b.answer in
    (one_told r s same, a.slots_left ∙ rw same (sym b.slots_left))
