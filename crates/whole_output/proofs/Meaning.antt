-- What rows and records say: the readings are exact by scan's and record's theorems, and a unit is read by its first byte; one that is open ends its
-- stream. Assumes nothing.
use Prim.Native.Nat.{ℕ, ◌≤◌, ◌<◌}
use mathlib.Core.Path.{◌≡◌, refl, sym, ap, subst, ◌∙◌}
use mathlib.Core.Bool.{true, false}
use mathlib.Core.List.{List, [], ◌∷◌, ◌++◌, append-nil, append_assoc}
use mathlib.Core.Logic.{◌↔◌}
use native.Mathlib.Omega.{arith}
use borrow.Author.Tests.{lt-ltb, le-ltb}
use lib.ListN.{length, length-append, replicate, length-replicate}
use Rattle.text.specs.Told as T
use Rattle.tlv.specs.Number.{Bytes}
use Rattle.entry.specs.declared.Entry.{Entry}
use Rattle.entry.specs.Entry.{EntryValue, value_of}
use Rattle.scan.specs.declared.Pieces.{Pieces}
use Rattle.scan.specs.Parse.{parse_of, line_dwords, slots_by}
use Rattle.scan.specs.Line.{Line, Applies}
use Rattle.scan.proofs.Theorems.{one_line_reading, line_entry_all, line_number_exactly, Handed, parsed_entry}
use Rattle.record.specs.Grammar.{record_bytes, Ranged, IsRecord}
use Rattle.record.specs.Conditions.{Breaks, breaks}
use Rattle.record.specs.Reading.{over, dwords_of, read_of}
use Rattle.record.proofs.Records.{Accepts, record_accepted_exactly, accepted_is_record, record_refused_exactly}
use Rattle.writer.proofs.Puts.{part_length}
use Rattle.intake.specs.Intake.{starts_a1, Belongs}
use Rattle.intake.proofs.WhatItIs.{refused_record, line_never_none, record_never_none}
use Rattle.units.specs.declared.Framing.{Framing}
use Rattle.units.specs.Units.{stated, Units, Whole, Open}
use Rattle.units.specs.Kept.{is_long}
use Rattle.units.proofs.Streams.{not_both}
use Rattle.stream.specs.Answers.{answer_of, said_by, said_of, records_of}
use Rattle.stream.proofs.Records.{record_answer, record_is_bytes, said_belongs, unit_says}
use Rattle.filters.specs.declared.Filter.TheVariants as F
use Rattle.filters.specs.Seen as S
use Rattle.filters.specs.Texts.{answer_by, seen_by, seen_of, seen_line, seen_record, record_by}
use Rattle.whole_output.specs.Output.{packing_of}
use Rattle.whole_output.specs.Meaning.{Tells, TextsMean}

-- slots enough for any entry
abbrev slots : List ℕ
slots = replicate 256 0

slots_256 : length {A = ℕ} (replicate 256 0) ≡ 256
slots_256 = length-replicate {A = ℕ} 256 0

-- ---- lines

module _ (pieces : Pieces) (u : List ℕ) where
  -- an entry's kind and count are those of what the line says
  line_tells : (e : Entry) → parse_of pieces u 256 ≡ T.is e → Tells (Line pieces u) e.kind e.dwords
  unfolding value_of
  line_tells e q =
      let h : Handed pieces u slots (slots_by (T.is e) (line_dwords u) slots) e = parsed_entry pieces u slots (record { answer = rw slots_256 (sym q); slots = refl }) in
      record { value = _; says = h.line; kind_is = refl; dwords_are = sym h.count }

  -- reading a line gives its kind and count
  pub line_seen : (v : EntryValue) → Line pieces u v → seen_line pieces u ≡ S.Entry v.kind (length v.dwords)
  unfolding seen_line seen_by
  line_seen v a =
      let f = line_entry_all pieces u a in
      let t = line_tells f.0 f.1 in
      let same : t.value ≡ v = one_line_reading pieces u t.says a in
      rw (f.1, ← t.kind_is, ← t.dwords_are, same)

  pub line_row : (kind dwords : ℕ) → (seen_line pieces u ≡ S.Entry kind dwords) ↔ Tells (Line pieces u) kind dwords
  unfolding seen_line seen_by
  line_row kind dwords = (λ x. is (parse_of pieces u 256) refl x, λ t. line_seen t.value t.says ∙ rw (t.kind_is, t.dwords_are))
    where
      is : (r : T.Told Entry) → parse_of pieces u 256 ≡ r → seen_by r ≡ S.Entry kind dwords → Tells (Line pieces u) kind dwords
      is (T.is e) q x =
          let a : e.kind ≡ kind = cc in
          let b : e.dwords ≡ dwords = cc in
          rw (a, b) at (line_tells e q)
      is T.absent q x = absurd (let z : ◌≡◌ {A = ℕ} 0 1 = cc in omega arith)
      is (T.refused k) q x = absurd (let z : ◌≡◌ {A = ℕ} 0 1 = cc in omega arith)

  pub line_refused : (k : ℕ) → (seen_line pieces u ≡ S.Refused k) ↔ Applies pieces u 256 k
  unfolding seen_line seen_by
  line_refused k = (λ x. is (parse_of pieces u 256) refl x, λ a. rw ((line_number_exactly pieces u 256 k).1 a))
    where
      is : (r : T.Told Entry) → parse_of pieces u 256 ≡ r → seen_by r ≡ S.Refused k → Applies pieces u 256 k
      is (T.is e) q x = absurd (let z : ◌≡◌ {A = ℕ} 0 1 = cc in omega arith)
      is T.absent q x = absurd (line_never_none pieces u 256 q)
      is (T.refused j) q x = let same : j ≡ k = cc in (line_number_exactly pieces u 256 k).0 (q ∙ ap T.refused same)

-- ---- records

module _ (u : List ℕ) (bytes : Bytes u) where
  accepts : (v : EntryValue) → IsRecord u v → Accepts u slots v
  accepts v r = (record_accepted_exactly u bytes slots (omega (arith, slots_256)) v).1 r

  -- reading a record gives its kind and count
  pub record_seen : (v : EntryValue) → IsRecord u v → seen_record u ≡ S.Entry v.kind (length v.dwords)
  unfolding seen_record seen_by value_of
  record_seen v r =
      let a = accepts v r in
      let q : read_of u 256 ≡ T.is a.entry = rw slots_256 at a.answer in
      let kind : a.entry.kind ≡ v.kind = ap (λ (w : EntryValue). w.kind) a.value in
      let count : a.entry.dwords ≡ length v.dwords = sym (part_length (over (dwords_of u) slots) 0 a.entry.dwords (omega (arith, a.lies.dwords))) ∙ ap (λ (w : EntryValue). length w.dwords) a.value in
      rw (q, kind, count)

  pub record_row : (kind dwords : ℕ) → (seen_record u ≡ S.Entry kind dwords) ↔ Tells (IsRecord u) kind dwords
  unfolding seen_record seen_by
  record_row kind dwords = (λ x. is (read_of u 256) refl x, λ t. record_seen t.value t.says ∙ rw (t.kind_is, t.dwords_are))
    where
      is : (r : T.Told Entry) → read_of u 256 ≡ r → seen_by r ≡ S.Entry kind dwords → Tells (IsRecord u) kind dwords
      is (T.is e) q x =
          let says = accepted_is_record u bytes 256 e q in
          let same : seen_by (read_of u 256) ≡ S.Entry kind dwords = rw q x in
          let seen = sym (record_seen _ says) ∙ same in
          record { value = _; says = says; kind_is = cc; dwords_are = cc }
      is T.absent q x = absurd (let z : ◌≡◌ {A = ℕ} 0 1 = cc in omega arith)
      is (T.refused k) q x = absurd (let z : ◌≡◌ {A = ℕ} 0 1 = cc in omega arith)

  -- the record's number, as reading answers it
  read_breaks : (k : ℕ) → read_of u 256 ≡ T.refused k → Breaks u k
  read_breaks k q = refused_record u bytes k q

  breaks_read : (k : ℕ) → Breaks u k → read_of u 256 ≡ T.refused k
  breaks_read k b = (record_refused_exactly u bytes 256 k).1 (breaks b)

  pub record_refused : (k : ℕ) → (seen_record u ≡ S.Refused k) ↔ Breaks u k
  unfolding seen_record seen_by
  record_refused k = (λ x. is (read_of u 256) refl x, λ b. rw (breaks_read k b))
    where
      is : (r : T.Told Entry) → read_of u 256 ≡ r → seen_by r ≡ S.Refused k → Breaks u k
      is (T.is e) q x = absurd (let z : ◌≡◌ {A = ℕ} 0 1 = cc in omega arith)
      is T.absent q x = absurd (record_never_none u 256 q)
      is (T.refused j) q x = let same : j ≡ k = cc in read_breaks k (q ∙ ap T.refused same)

-- ---- units

module _ (pieces : Pieces) (u : List ℕ) where
  sees_a_line : starts_a1 u ≡ false → seen_of (F.Unpack pieces) u ≡ seen_line pieces u
  unfolding seen_of answer_by answer_of seen_line
  sees_a_line q = rw q

  sees_a_record : starts_a1 u ≡ true → stated u ≤ 5227 → stated u ≤ length u → seen_of (F.Unpack pieces) u ≡ seen_record u
  unfolding seen_of answer_by answer_of seen_record is_long
  sees_a_record q a b = rw (q, le-ltb 5227 (stated u) a, le-ltb (length u) (stated u) b)

  sees_a_long_one : starts_a1 u ≡ true → 5227 < stated u → seen_of (F.Unpack pieces) u ≡ S.Refused 55
  unfolding seen_of answer_by answer_of seen_by is_long
  sees_a_long_one q a = rw (q, lt-ltb 5227 (stated u) a)

  sees_a_cut_one : starts_a1 u ≡ true → stated u ≤ 5227 → length u < stated u → seen_of (F.Unpack pieces) u ≡ S.Refused 54
  unfolding seen_of answer_by answer_of seen_by is_long
  sees_a_cut_one q a b = rw (q, le-ltb 5227 (stated u) a, lt-ltb (length u) (stated u) b)

  unit_record : Bytes u → (v : EntryValue) → Belongs pieces u v → record_by u (answer_of pieces u 256) ≡ record_bytes v
  unfolding record_by records_of
  unit_record bytes v b = ap records_of (unit_says pieces u v b) ∙ append-nil (record_bytes v)

  no_record : Bytes u → ((v : EntryValue) → Belongs pieces u v → ⊥) → record_by u (answer_of pieces u 256) ≡ []
  unfolding record_by records_of said_by
  no_record bytes none = go (answer_of pieces u 256) refl
    where
      go : (t : T.Told Entry) → answer_of pieces u 256 ≡ t → records_of (said_by u t) ≡ []
      go (T.is e) q = absurd (none _ (said_belongs pieces u bytes 256 e q))
      go T.absent q = refl
      go (T.refused k) q = refl

  record_as_it_is : Bytes u → (v : EntryValue) → IsRecord u v → record_by u (answer_of pieces u 256) ≡ u
  record_as_it_is bytes v r = unit_record bytes v (Belongs.a_record r) ∙ r.bytes

-- a record that is made of a value is seen with its kind and count
pub made_seen : (pieces : Pieces) (v : EntryValue) → Ranged v → seen_of (F.Unpack pieces) (record_bytes v) ≡ S.Entry v.kind (length v.dwords)
unfolding seen_of answer_by seen_record
made_seen pieces v r =
    let made : IsRecord (record_bytes v) v = record { ranged = r; bytes = refl } in
    ap seen_by (record_answer (record_bytes v) v made pieces 256) ∙ record_seen (record_bytes v) (record_is_bytes (record_bytes v) v made) v made

-- a unit that is open has none behind it
only_the_last_open : (f : Framing) (s : List ℕ) (us front : List (List ℕ)) (u : List ℕ) (back : List (List ℕ)) → Units f s us → us ≡ front ++ (u ∷ back) → Open f u → back ≡ []
only_the_last_open f s us front u back Units.none e o = absurd (omega (arith, ap length e, length-append front (u ∷ back)))
only_the_last_open f s us [] u back (Units.last x w) e o = cc
only_the_last_open f s us (y ∷ front) u back (Units.last x w) e o = absurd (omega (arith, ap length e, length-append front (u ∷ back)))
only_the_last_open f s us [] u back (Units.next x r w cut rest) e o = let same : x ≡ u = cc in absurd (not_both f u o (subst (Whole f) same w))
only_the_last_open f s us (y ∷ front) u back (Units.next x r w cut rest) e o = only_the_last_open f r _ front u back rest (cc) o

records_both : (a b : List EntryValue) → records_of (a ++ b) ≡ records_of a ++ records_of b
unfolding records_of
records_both [] b = refl
records_both (v ∷ a) b = ap (λ (l : List ℕ). record_bytes v ++ l) (records_both a b) ∙ sym (append_assoc (record_bytes v) (records_of a) (records_of b))

packed_one_by_one : (pieces : Pieces) (u : List ℕ) (us : List (List ℕ)) → packing_of pieces (u ∷ us) ≡ record_by u (answer_of pieces u 256) ++ packing_of pieces us
unfolding packing_of said_of record_by
packed_one_by_one pieces u us = records_both (said_by u (answer_of pieces u 256)) (said_of pieces us)

pub texts_mean : TextsMean
unfolding seen_of answer_by seen_line
texts_mean =
    record {
      line_row = line_row;
      line_refused = line_refused;
      record_row = record_row;
      record_refused = record_refused;
      listing_sees = λ u. refl;
      both_see = λ pieces u. refl;
      sees_a_line = sees_a_line;
      sees_a_record = sees_a_record;
      sees_a_long_one = sees_a_long_one;
      sees_a_cut_one = sees_a_cut_one;
      unit_record = unit_record;
      no_record = no_record;
      record_as_it_is = record_as_it_is;
      packed_one_by_one = packed_one_by_one;
      only_the_last_open = only_the_last_open;
    }
