-- Every record of the grammar is read, and reads as the value that it was made from: its fields are the rows that are there, each is good, and each
-- is found by its tag. Assumes nothing.
use Rattle.std.specs.Prelude.{None, Option, Some}
use Prim.Native.Nat.{ℕ, ◌+◌, ◌-◌, ◌*◌, ◌^◌, ◌≤◌, ◌<◌}
use mathlib.Core.Path.{◌≡◌, ◌∙◌, sym, ap, refl}
use mathlib.Core.Bool.{Bool, true, false}
use mathlib.Core.List.{List, [], append-nil}
use Rattle.std.specs.Option.{option_map}
use native.Mathlib.Omega.{arith}
use borrow.Author.Tests.{eq-eqb, ne_eqb, lt-ltb, le-leb}
use lib.Dec.{eqb}
use lib.ListN.{length, drop}
use lib.Seq.{take_all}
use Rattle.text.specs.Class.{is_word}
use Rattle.tlv.specs.declared.Step.TheVariants.{Field}
use Rattle.tlv.specs.Number.{number_bytes}
use Rattle.tlv.specs.Grammar.{field_bytes, fields_bytes}
use Rattle.tlv.specs.Reading.{field_at}
use Rattle.tlv.proofs.Pieces.{field_bytes_length, made_field, made_pieces, made_fills}
use Rattle.entry.specs.Entry.{EntryValue, part_of, value_of}
use Rattle.entry.proofs.Parts.{part_in}
use Rattle.record.specs.declared.rule.Width.{Width}
use Rattle.record.specs.declared.rule.Width.TheVariants.{One, Two, Four, Eight}
use Rattle.record.specs.declared.rule.Rule.TheVariants as R
use Rattle.record.specs.Grammar.{flag, dwords_bytes, rows_of, present, record_bytes, Below, Ranged, IsRecord}
use Rattle.record.specs.Rule.{bytes_of, rule_of, is_task_byte, fits_rule}
use Rattle.record.specs.Judging.{framed, task_size, judged, has_required, refusal_of}
use Rattle.record.specs.Finding.{number_of, byte_of, word_of, place_of}
use Rattle.record.specs.Gathering.{entry_of}
use Rattle.record.specs.Reading.{dword_count, dwords_of}
use Rattle.record.proofs.Finding.{lookup}
use Rattle.record.proofs.Rows.{RisingRows, body_at, lookup_present, GoodRows, rows_good}
use Rattle.record.proofs.Judging.{judged_good, nothing-refused}
use Rattle.record.proofs.Bodies.{
  fits_number_all,
  fits_text_all,
  fits_dwords_all,
  dwords_bytes_length,
  dwords_back,
  pieces_in,
  Body,
  body_found,
  body_there,
  text_read,
  place_length,
  dwords_read,
  made_number,
  made_maybe,
}

-- the value that the fields of a text give
unfoldable pub value_in : List ℕ → EntryValue
value_in t = value_of (entry_of t) t (dwords_of t)

-- all the dwords of a list
pub part_all : (ds : List ℕ) (n : ℕ) → n ≡ length ds → part_of ds 0 n ≡ ds
part_all ds n e = sym (part_in ds 0 n (omega arith)) ∙ take_all n ds (omega arith)

pub flag_back : (b : Bool) → eqb (flag b) 1 ≡ b
flag_back true = refl
flag_back false = refl

flag_small : (b : Bool) → flag b ≤ 1
flag_small true = omega arith
flag_small false = omega arith

pub task_letter : (b : ℕ) → (b < 128) × (b ≡ 32 → ⊥) → is_task_byte b ≡ true
unfolding is_task_byte
task_letter b h = rw (ne_eqb b 32 h.1, lt-ltb b 128 h.0)

-- a number's body is as its rule asks
module _ (task : ℕ) (w : Width) (limit : ℕ) where
  number_fits : (n : ℕ) → n < 256 ^ bytes_of w → n ≤ limit → (b : List ℕ) → Some (number_bytes (bytes_of w) n) ≡ Some b
      → fits_rule (Some (R.Number w limit)) task b ≡ true
  unfolding fits_rule
  number_fits n h l b e =
      let same : number_bytes (bytes_of w) n ≡ b = cc in
      rw (← same) (fits_number_all (bytes_of w) limit n h l)

  maybe_fits : (o : Option ℕ) → Below (256 ^ bytes_of w) o → ((n : ℕ) → n < 256 ^ bytes_of w → n ≤ limit) → (b : List ℕ)
      → option_map (number_bytes (bytes_of w)) o ≡ Some b → fits_rule (Some (R.Number w limit)) task b ≡ true
  maybe_fits None h l b e = absurd (let z : ◌≡◌ {A = ℕ} 0 1 = cc in omega arith)
  maybe_fits (Some n) h l b e = number_fits n h (l n h) b e

-- the tags of the rows ascend
pub rows_rise : (v : EntryValue) → RisingRows 0 (rows_of v)
unfolding rows_of
rows_rise v =
    (omega arith, (omega arith, (omega arith, (omega arith, (omega arith, (omega arith, (omega arith, (omega arith, (omega arith, (omega arith, (omega arith, (omega arith, (omega arith, (omega arith, (omega arith, (omega arith, (omega arith, (omega arith, (omega arith, tt)))))))))))))))))))

-- rows of a value within the ranges are good
module _ (v : EntryValue) (r : Ranged v) where
  task_fits : (task : ℕ) (b : List ℕ) → Some v.task ≡ Some b → fits_rule (Some R.Task) task b ≡ true
  unfolding fits_rule
  task_fits task b e =
      let same : v.task ≡ b = cc in
      rw (← same) (fits_text_all is_task_byte (λ b. (b < 128) × (b ≡ 32 → ⊥)) task_letter v.task r.task.some r.task.letters)

  function_fits : (b : List ℕ) → Some v.function ≡ Some b → fits_rule (Some R.Function) (length v.task) b ≡ true
  unfolding fits_rule
  function_fits b e =
      let same : v.function ≡ b = cc in
      rw (← same, le-leb (length v.task + length v.function) 4096 r.together)
      (fits_text_all is_word (λ b. is_word b ≡ true) (λ b h. h) v.function r.function.some r.function.letters)

  dwords_fit : (task : ℕ) (b : List ℕ) → Some (dwords_bytes v.dwords) ≡ Some b → fits_rule (Some R.Dwords) task b ≡ true
  unfolding fits_rule
  dwords_fit task b e =
      let same : dwords_bytes v.dwords ≡ b = cc in
      rw (← same, dwords_bytes_length v.dwords) (fits_dwords_all (length v.dwords) r.few)

  rows_are_good : (task : ℕ) → task ≡ length v.task → GoodRows task 0 (rows_of v)
  unfolding rows_of rule_of
  rows_are_good task e = (
    omega arith,
    refl,
    task_fits task,
    (
      omega arith,
      refl,
      number_fits task Four 0xffffffff v.pid r.pid (omega (arith, r.pid)),
      (
        omega arith,
        refl,
        number_fits task Two 999 v.cpu (omega (arith, r.cpu)) r.cpu,
        (
          omega arith,
          refl,
          number_fits task Eight 0x7fffffffffffffff v.seconds (omega (arith, r.seconds)) (omega (arith, r.seconds)),
          (
            omega arith,
            refl,
            number_fits task Eight 0x7fffffffffffffff v.microseconds (omega (arith, r.microseconds)) (omega (arith, r.microseconds)),
            (
              omega arith,
              refl,
              (λ b k. rw e (function_fits b k)),
              (
                omega arith,
                refl,
                number_fits task One 12 v.kind (omega (arith, r.kind)) r.kind,
                (
                  omega arith,
                  refl,
                  number_fits task Two 0xffff v.size r.size (omega (arith, r.size)),
                  (
                    omega arith,
                    refl,
                    number_fits task One 1 (flag v.dropped) (omega (arith, flag_small v.dropped)) (flag_small v.dropped),
                    (
                      omega arith,
                      refl,
                      number_fits task Four 0xffffffff v.domain r.domain (omega (arith, r.domain)),
                      (
                        omega arith,
                        refl,
                        number_fits task Eight 0xffffffffffffffff v.route r.route (omega (arith, r.route)),
                        (
                          omega arith,
                          refl,
                          maybe_fits task Two 0xffff v.offset r.offset (λ n h. omega (arith, h)),
                          (
                            omega arith,
                            refl,
                            maybe_fits task One 0xff v.code r.code (λ n h. omega (arith, h)),
                            (
                              omega arith,
                              refl,
                              maybe_fits task Two 0xffff v.len r.len (λ n h. omega (arith, h)),
                              (
                                omega arith,
                                refl,
                                maybe_fits task One 0xff v.port r.port (λ n h. omega (arith, h)),
                                (
                                  omega arith,
                                  refl,
                                  maybe_fits task One 0xff v.config r.config (λ n h. omega (arith, h)),
                                  (
                                    omega arith,
                                    refl,
                                    maybe_fits task One 0xff v.seq r.seq (λ n h. omega (arith, h)),
                                    (
                                      omega arith,
                                      refl,
                                      maybe_fits task One 0xff v.unplug r.unplug (λ n h. omega (arith, h)),
                                      (
                                        omega arith,
                                        refl,
                                        dwords_fit task,
                                        tt,
                                      ),
                                    ),
                                  ),
                                ),
                              ),
                            ),
                          ),
                        ),
                      ),
                    ),
                  ),
                ),
              ),
            ),
          ),
        ),
      ),
    ),
  )

-- the task is the first field
pub task_size_lem : (t : List ℕ) (v : EntryValue) → drop 3 t ≡ fields_bytes (present (rows_of v)) → task_size t ≡ length v.task
unfolding task_size fields_bytes present rows_of
task_size_lem t v e =
    let size : 3 + 3 + length v.task - (3 + 3) ≡ length v.task = omega arith in
    rw (made_field t 3 1 v.task _ e) size

module _ (t : List ℕ) (v : EntryValue) (r : IsRecord t v) where
  rest_is : drop 3 t ≡ fields_bytes (present (rows_of v))
  unfolding record_bytes field_bytes
  rest_is = ap (drop 3) (sym r.bytes)

  whole_length : length t ≡ 3 + length (fields_bytes (present (rows_of v)))
  unfolding record_bytes
  whole_length =
      ap length (sym r.bytes) ∙ field_bytes_length 0xA1 (fields_bytes (present (rows_of v))) ∙ omega arith

  in_frame : field_at t 0 ≡ Field 0xA1 3 (length t)
  unfolding record_bytes
  in_frame =
      made_field t 0 0xA1 (fields_bytes (present (rows_of v))) [] (sym r.bytes ∙ sym (append-nil (field_bytes 0xA1 (fields_bytes (present (rows_of v))))))
      ∙ ap (λ (n : ℕ). Field 0xA1 3 n) (sym whole_length)

  is_framed : framed t ≡ true
  unfolding framed
  is_framed = rw (in_frame, eq-eqb (length t) (length t) refl)

  pieces_are : pieces_in t ≡ present (rows_of v)
  pieces_are = made_pieces t (present (rows_of v)) 3 rest_is

  -- each row is found by its tag
  pub row_found : (tag : ℕ) → lookup tag (pieces_in t) ≡ body_at tag (rows_of v)
  row_found tag = ap (lookup tag) pieces_are ∙ lookup_present (rows_of v) 0 (rows_rise v) tag

  task_is : task_size t ≡ length v.task
  task_is = task_size_lem t v rest_is

  no_number : judged t 3 0 ≡ 0
  no_number =
      judged_good t 3 0 (made_fills t (present (rows_of v)) 3 rest_is)
      (rw pieces_are (rows_good (task_size t) (rows_of v) 0 (rows_are_good v r.ranged (task_size t) task_is)))

  none_missing : has_required t ≡ true
  unfolding has_required rows_of
  none_missing =
      rw (
        body_there t 1 _ (row_found 1),
        body_there t 2 _ (row_found 2),
        body_there t 3 _ (row_found 3),
        body_there t 4 _ (row_found 4),
        body_there t 5 _ (row_found 5),
        body_there t 6 _ (row_found 6),
        body_there t 7 _ (row_found 7),
        body_there t 8 _ (row_found 8),
        body_there t 9 _ (row_found 9),
        body_there t 10 _ (row_found 10),
        body_there t 11 _ (row_found 11),
        body_there t 19 _ (row_found 19),
      )

  -- nothing is refused but for want of slots
  pub record_not_refused : refusal_of t ≡ 0
  record_not_refused = sym (nothing-refused t is_framed no_number none_missing)

  dwords_body : Body t 0x13 (dwords_bytes v.dwords)
  unfolding rows_of
  dwords_body = body_found t 0x13 (dwords_bytes v.dwords) (row_found 0x13)

  pub record_dword_count : dword_count t ≡ length v.dwords
  unfolding dword_count
  record_dword_count =
      let size : (place_of t 0x13).len ≡ 4 * length v.dwords = place_length t dwords_body ∙ dwords_bytes_length v.dwords in
      rw size (omega arith)

  pub record_dwords : dwords_of t ≡ v.dwords
  unfolding dwords_of
  record_dwords =
      rw record_dword_count
      (dwords_read t dwords_body (length v.dwords) (dwords_bytes_length v.dwords)
      ∙ dwords_back (dwords_bytes v.dwords) 0 v.dwords r.ranged.dwords refl)

  number_here : (tag k n : ℕ) → body_at tag (rows_of v) ≡ Some (number_bytes k n) → n < 256 ^ k → number_of k t tag ≡ n
  number_here tag k n e h = made_number t tag k n (row_found tag ∙ e) h

  byte_here : (tag : ℕ) (o : Option ℕ) → body_at tag (rows_of v) ≡ option_map (number_bytes 1) o → Below (2 ^ 8) o → (byte_of t tag) ≡ o
  unfolding byte_of
  byte_here tag o e h = made_maybe t tag 1 o (row_found tag ∙ e) h

  word_here : (tag : ℕ) (o : Option ℕ) → body_at tag (rows_of v) ≡ option_map (number_bytes 2) o → Below (2 ^ 16) o → (word_of t tag) ≡ o
  unfolding word_of
  word_here tag o e h = made_maybe t tag 2 o (row_found tag ∙ e) h

  -- the fields give the value that the record was made from
  pub record_value : value_in t ≡ v
  unfolding value_in value_of entry_of rows_of dword_count
  record_value =
      let q = r.ranged in
      let task : part_of t (place_of t 1).from (place_of t 1).len ≡ v.task = text_read t (body_found t 1 v.task (row_found 1)) in
      let pid : number_of 4 t 2 ≡ v.pid = number_here 2 4 v.pid refl q.pid in
      let cpu : number_of 2 t 3 ≡ v.cpu = number_here 3 2 v.cpu refl (omega (arith, q.cpu)) in
      let seconds : number_of 8 t 4 ≡ v.seconds = number_here 4 8 v.seconds refl (omega (arith, q.seconds)) in
      let microseconds : number_of 8 t 5 ≡ v.microseconds = number_here 5 8 v.microseconds refl (omega (arith, q.microseconds)) in
      let function : part_of t (place_of t 6).from (place_of t 6).len ≡ v.function = text_read t (body_found t 6 v.function (row_found 6)) in
      let kind : number_of 1 t 7 ≡ v.kind = number_here 7 1 v.kind refl (omega (arith, q.kind)) in
      let size : number_of 2 t 8 ≡ v.size = number_here 8 2 v.size refl q.size in
      let dropped : eqb (number_of 1 t 9) 1 ≡ v.dropped =
      rw (number_here 9 1 (flag v.dropped) refl (omega (arith, flag_small v.dropped))) (flag_back v.dropped) in
      let domain : number_of 4 t 10 ≡ v.domain = number_here 10 4 v.domain refl q.domain in
      let route : number_of 8 t 11 ≡ v.route = number_here 11 8 v.route refl q.route in
      let offset : (word_of t 12) ≡ v.offset = word_here 12 v.offset refl q.offset in
      let code : (byte_of t 13) ≡ v.code = byte_here 13 v.code refl q.code in
      let len : (word_of t 14) ≡ v.len = word_here 14 v.len refl q.len in
      let port : (byte_of t 15) ≡ v.port = byte_here 15 v.port refl q.port in
      let config : (byte_of t 16) ≡ v.config = byte_here 16 v.config refl q.config in
      let seq : (byte_of t 17) ≡ v.seq = byte_here 17 v.seq refl q.seq in
      let unplug : (byte_of t 18) ≡ v.unplug = byte_here 18 v.unplug refl q.unplug in
      let dwords : part_of (dwords_of t) 0 (dword_count t) ≡ v.dwords =
      part_all (dwords_of t) (dword_count t) (record_dword_count ∙ sym (ap length record_dwords)) ∙ record_dwords in
      λ i.
      record {
        task = task i;
        pid = pid i;
        cpu = cpu i;
        seconds = seconds i;
        microseconds = microseconds i;
        function = function i;
        kind = kind i;
        size = size i;
        dropped = dropped i;
        domain = domain i;
        route = route i;
        offset = offset i;
        code = code i;
        len = len i;
        port = port i;
        config = config i;
        seq = seq i;
        unplug = unplug i;
        dwords = dwords i;
      }
