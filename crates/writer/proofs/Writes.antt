-- The fields written tag by tag are the record's rows, the size computed is the record's length, and each way out is one of the ways to an answer.
-- Assumes nothing.
use Rattle.std.specs.Prelude.{Err, None, Ok, Option, Some}
use Rattle.refusal.specs.declared.Refusal.TheVariants as R
use Prim.Native.Nat.{ℕ, ◌+◌, ◌-◌, ◌*◌, ◌≤◌, ◌<◌}
use mathlib.Core.Path.{◌≡◌, ◌∙◌, sym, ap, refl}
use mathlib.Core.Bool.{Bool, true, false, cond, ◌&&◌, false≢true}
use mathlib.Core.List.{List, [], ◌∷◌, ◌++◌}
use Rattle.std.specs.Int.{from_bool}
use Rattle.std.specs.Option.{option_map, MatchOption}
use native.Mathlib.Omega.{arith}
use borrow.Author.Tests.{leb-true, le-leb, lt-leb}
use lib.Dec.{leb}
use lib.ListN.{length, take, drop}
use lib.Seq.{sets}
use Rattle.text.proofs.Texts.{both_left, both_right}
use Rattle.tlv.specs.Number.{number_bytes}
use Rattle.tlv.specs.Grammar.{field_bytes, fields_bytes}
use Rattle.text.specs.Class.{is_word}
use Rattle.tlv.proofs.Numbers.{number_bytes_length}
use Rattle.tlv.proofs.Pieces.{field_bytes_length}
use Rattle.entry.specs.declared.Entry.{Entry}
use Rattle.entry.specs.Entry.{part_of, value_of, Lies}
use Rattle.record.specs.Grammar.{Row, placed, present, rows_of, record_bytes, flag}
use Rattle.record.specs.Rule.{is_task_byte, fits_text}
use Rattle.record.proofs.Rows.{size_of, present_length}
use Rattle.record.proofs.Slots.{sets_over}
use Rattle.writer.specs.Put.{Put}
use Rattle.writer.specs.Item.{head_bytes, field_for, row_bytes, rows_bytes, optional_size, record_size}
use Rattle.writer.specs.Ranges.{fits_texts, fits_numbers, writable}
use Rattle.writer.specs.Writing.{bytes_of, write_of, buffer_by, Writing}
use Rattle.writer.proofs.Puts.{field_head, part_length, dwords_size}

-- ---- what the test of 37 says

pub record Fits (text : List ℕ) (e : Entry) (dwords : List ℕ) : Type 0 where
  pub lies : Lies e text dwords
  pub task : fits_text is_task_byte (part_of text e.task_at e.task_len) ≡ true
  pub function : fits_text is_word (part_of text e.function_at e.function_len) ≡ true
  pub together : e.task_len + e.function_len ≤ 4096
  pub cpu : e.cpu ≤ 999
  pub seconds : e.seconds ≤ 0x7fffffffffffffff
  pub microseconds : e.microseconds ≤ 0x7fffffffffffffff
  pub kind : e.kind ≤ 12
  pub few : e.dwords ≤ 256

-- a part that fits lies in the text, since one outside is empty
part_lies : (ok : ℕ → Bool) (text : List ℕ) (at n : ℕ) → fits_text ok (part_of text at n) ≡ true → at + n ≤ length text
unfolding part_of fits_text
part_lies ok text at n h = go (leb (at + n) (length text)) refl h
  where
    go : (x : Bool) → leb (at + n) (length text) ≡ x → fits_text ok (cond x (take n (drop at text)) []) ≡ true → at + n ≤ length text
    go true e h = leb-true (at + n) (length text) e
    go false e h = absurd (false≢true h)

pub fits_all : (text : List ℕ) (e : Entry) (dwords : List ℕ) → writable text e dwords ≡ true → Fits text e dwords
unfolding writable fits_texts fits_numbers
fits_all text e dwords h =
    let front : (fits_texts text e && fits_numbers e && leb e.dwords 256) ≡ true = both_left _ _ h in
    let two : (fits_texts text e && fits_numbers e) ≡ true = both_left _ _ front in
    let texts : fits_texts text e ≡ true = both_left _ _ two in
    let numbers : fits_numbers e ≡ true = both_right (fits_texts text e) _ two in
    let parts : (fits_text is_task_byte (part_of text e.task_at e.task_len) && fits_text is_word (part_of text e.function_at e.function_len)) ≡ true =
    both_left _ _ texts in
    let a : fits_text is_task_byte (part_of text e.task_at e.task_len) ≡ true = both_left _ _ parts in
    let b : fits_text is_word (part_of text e.function_at e.function_len) ≡ true =
    both_right (fits_text is_task_byte (part_of text e.task_at e.task_len)) _ parts in
    let three : (leb e.cpu 999 && leb e.seconds 0x7fffffffffffffff && leb e.microseconds 0x7fffffffffffffff) ≡ true = both_left _ _ numbers in
    let pair : (leb e.cpu 999 && leb e.seconds 0x7fffffffffffffff) ≡ true = both_left _ _ three in
    record {
      lies =
          record {
            task = part_lies is_task_byte text e.task_at e.task_len a;
            function = part_lies is_word text e.function_at e.function_len b;
            dwords = leb-true _ _ (both_right (fits_texts text e && fits_numbers e && leb e.dwords 256) _ h);
          };
      task = a;
      function = b;
      together =
          leb-true _ _
          (both_right (fits_text is_task_byte (part_of text e.task_at e.task_len) && fits_text is_word (part_of text e.function_at e.function_len)) _ texts);
      cpu = leb-true _ _ (both_left _ _ pair);
      seconds = leb-true _ _ (both_right (leb e.cpu 999) _ pair);
      microseconds = leb-true _ _ (both_right (leb e.cpu 999 && leb e.seconds 0x7fffffffffffffff) _ three);
      kind =
          leb-true _ _
          (both_right (leb e.cpu 999 && leb e.seconds 0x7fffffffffffffff && leb e.microseconds 0x7fffffffffffffff) _ numbers);
      few = leb-true _ _ (both_right (fits_texts text e && fits_numbers e) _ front);
    }

-- ---- rows

rows_bytes_lem : (rs : List Row) → rows_bytes rs ≡ fields_bytes (present rs)
unfolding rows_bytes row_bytes fields_bytes present
rows_bytes_lem [] = refl
rows_bytes_lem (r ∷ rs) = go r.body (rows_bytes_lem rs)
  where
    go : (o : Option (List ℕ)) → rows_bytes rs ≡ fields_bytes (present rs) → field_for r.tag o ++ rows_bytes rs ≡ fields_bytes (placed r.tag o (present rs))
    go None h = h
    go (Some b) h = ap (λ (l : List ℕ). field_bytes r.tag b ++ l) h

-- a number that is widened is the same number
pub wide_is : {o r : Option ℕ} → MatchOption o (r ≡ None) (λ x. MatchOption r ⊥ (λ y. y ≡ x)) → r ≡ o
wide_is {o = None} {r = r} h = h
wide_is {o = Some x} {r = Some y} h = ap Some h
wide_is {o = Some x} {r = None} h = absurd h

pub flag_is : (b : Bool) → from_bool b ≡ flag b
flag_is true = refl
flag_is false = refl

optional_size_lem : (k : ℕ) (m : Option ℕ) → size_of (option_map (number_bytes k) m) ≡ optional_size m (k + 3)
optional_size_lem k (Some n) = omega (arith, number_bytes_length k n)
optional_size_lem k None = refl

optional_small : (m : Option ℕ) (k : ℕ) → optional_size m k ≤ k
optional_small (Some n) k = omega arith
optional_small None k = omega arith

module _ (text : List ℕ) (e : Entry) (dwords : List ℕ) (f : Fits text e dwords) where
  abbrev pub rows : List Row
  rows = rows_of (value_of e text dwords)

  -- the size computed is the record's length
  pub size_is : record_size e ≡ length (rows_bytes (rows_of (value_of e text dwords))) + 3
  unfolding record_size rows_of value_of
  size_is =
      omega (
        arith,
        ap length (rows_bytes_lem (rows_of (value_of e text dwords))),
        present_length (rows_of (value_of e text dwords)),
        part_length text e.task_at e.task_len f.lies.task,
        part_length text e.function_at e.function_len f.lies.function,
        dwords_size dwords e.dwords f.lies.dwords,
        number_bytes_length 4 e.pid,
        number_bytes_length 2 e.cpu,
        number_bytes_length 8 e.seconds,
        number_bytes_length 8 e.microseconds,
        number_bytes_length 1 e.kind,
        number_bytes_length 2 e.size,
        number_bytes_length 1 (cond e.dropped 1 0),
        number_bytes_length 4 e.domain,
        number_bytes_length 8 e.route,
        optional_size_lem 2 e.offset,
        optional_size_lem 1 e.code,
        optional_size_lem 2 e.len,
        optional_size_lem 1 e.port,
        optional_size_lem 1 e.config,
        optional_size_lem 1 e.seq,
        optional_size_lem 1 e.unplug,
      )

  -- and a small number
  pub size_small : (3 ≤ record_size e) × (record_size e ≤ 5227)
  unfolding record_size
  size_small =
      let words : optional_size e.offset 5 + optional_size e.len 5 ≤ 10 = omega (arith, optional_small e.offset 5, optional_small e.len 5) in
      let first : optional_size e.code 4 + optional_size e.port 4 + optional_size e.config 4 ≤ 12 =
      omega (arith, optional_small e.code 4, optional_small e.port 4, optional_small e.config 4) in
      let last : optional_size e.seq 4 + optional_size e.unplug 4 ≤ 8 = omega (arith, optional_small e.seq 4, optional_small e.unplug 4) in
      (omega arith, omega (arith, f.together, f.few))

  pub record_is : bytes_of text e dwords ≡ head_bytes 0xA1 (record_size e - 3) ++ rows_bytes (rows_of (value_of e text dwords))
  unfolding bytes_of record_bytes
  record_is =
      ap (field_bytes 0xA1) (sym (rows_bytes_lem (rows_of (value_of e text dwords))))
      ∙ field_head 0xA1 (record_size e - 3) (rows_bytes (rows_of (value_of e text dwords))) (omega (arith, size_is))

  pub length_is : length (bytes_of text e dwords) ≡ record_size e
  unfolding bytes_of record_bytes
  length_is =
      field_bytes_length 0xA1 (fields_bytes (present (rows_of (value_of e text dwords))))
      ∙ omega (arith, ap length (rows_bytes_lem (rows_of (value_of e text dwords))), size_is)

-- ---- the ways to an answer

module _ (text : List ℕ) (e : Entry) (dwords out : List ℕ) where
  pub refused_37 : writable text e dwords ≡ false → Writing text e dwords out (Err R.BadEntry) out
  unfolding write_of buffer_by
  refused_37 h = record { answer = rw h; buffer = refl }

  module _ (h : writable text e dwords ≡ true) where
    f : Fits text e dwords
    f = fits_all text e dwords h

    pub size_asks : (e.task_len ≤ 4096) × (e.function_len ≤ 4096) × (e.dwords ≤ 256)
    size_asks = (omega (arith, f.together), omega (arith, f.together), f.few)

    pub size_least : (n : ℕ) → n ≡ record_size e → 3 ≤ n
    size_least n s = omega (arith, (size_small text e dwords f).0)

    pub record_asks : (n : ℕ) → n ≡ record_size e → n ≤ length out
        → (n - 3 < 65536)
        × ((e.task_len < 65536) × (e.function_len < 65536) × (4 * e.dwords < 65536))
        × (3 + length (rows_bytes (rows_of (value_of e text dwords))) ≤ length out)
    record_asks n s k =
        let small = size_small text e dwords f in
        let size = size_is text e dwords f in
        (omega (arith, small.1), (omega (arith, f.together), omega (arith, f.together), omega (arith, f.few)), omega (arith, size))

    pub refused_36 : (n : ℕ) → n ≡ record_size e → length out < n → Writing text e dwords out (Err R.ShortBuffer) out
    unfolding write_of buffer_by
    refused_36 n s k =
        let l : length (bytes_of text e dwords) ≡ n = length_is text e dwords f ∙ sym s in
        record { answer = rw (h, l, lt-leb n (length out) k); buffer = refl }

    pub written : (n : ℕ) → n ≡ record_size e → n ≤ length out → {r : ℕ} {left : List ℕ}
        → Put out 0 (head_bytes 0xA1 (n - 3) ++ rows_bytes (rows_of (value_of e text dwords))) r left → Writing text e dwords out (Ok r) left
    unfolding write_of buffer_by
    written n s k {r} {left} p =
        let l : length (bytes_of text e dwords) ≡ n = length_is text e dwords f ∙ sym s in
        let bytes : head_bytes 0xA1 (n - 3) ++ rows_bytes (rows_of (value_of e text dwords)) ≡ bytes_of text e dwords =
        ap (λ (m : ℕ). head_bytes 0xA1 (m - 3) ++ rows_bytes (rows_of (value_of e text dwords))) s ∙ sym (record_is text e dwords f) in
        let r-is : r ≡ n = omega (arith, p.next, ap length bytes, l) in
        record {
          answer = rw (h, l, le-leb n (length out) k, r-is);
          buffer = p.is ∙ ap (sets out 0) bytes ∙ sets_over (bytes_of text e dwords) out (omega (arith, l));
        }
