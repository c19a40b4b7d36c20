-- What is read is a record of the grammar: good fields with ascending tags are those found tag by tag, and each is the row of the value that they
-- give. Assumes nothing.
use Rattle.std.specs.Prelude.{None, Option, Some}
use Prim.Native.Nat.{ℕ, suc, ◌+◌, ◌*◌, ◌/◌, ◌≤◌, ◌<◌}
use mathlib.Core.Path.{◌≡◌, ◌∙◌, sym, ap, refl}
use mathlib.Core.Bool.{Bool, true, false, cond, not, false≢true}
use mathlib.Core.List.{List, [], ◌∷◌, ◌++◌, append-nil}
use Rattle.std.specs.Option.{option_map}
use native.Mathlib.Omega.{arith}
use native.Mathlib.Decide.{dec_le}
use borrow.Author.Tests.{eqb-true, eqb-false, leb-true, ltb-true, not-true}
use lib.Dec.{eqb, leb}
use lib.ListN.{length, drop, take}
use lib.Seq.{take_all, drop-length}
use Rattle.text.specs.Class.{is_word}
use Rattle.text.proofs.Texts.{both_left, both_right}
use Rattle.tlv.specs.declared.Step.{Step}
use Rattle.tlv.specs.declared.Step.TheVariants.{Field, Stray, Overrun, End}
use Rattle.tlv.specs.Number.{Bytes, number, number_bytes}
use Rattle.tlv.specs.Grammar.{Piece, field_bytes, fields_bytes, All}
use Rattle.tlv.specs.Reading.{field_at, Part, between, fills}
use Rattle.tlv.proofs.Fields.{Found, field_found}
use Rattle.tlv.proofs.Places.{between_end}
use Rattle.tlv.proofs.Pieces.{part_made, fills_made}
use Rattle.entry.specs.Entry.{part_of, value_of, Lies}
use Rattle.record.specs.declared.rule.Width.{Width}
use Rattle.record.specs.declared.rule.Width.TheVariants.{One, Two, Four, Eight}
use Rattle.record.specs.declared.rule.Rule.{Rule}
use Rattle.record.specs.declared.rule.Rule.TheVariants as R
use Rattle.record.specs.declared.find.Span.{Span}
use Rattle.record.specs.Grammar.{flag, dwords_bytes, rows_of, present, record_bytes, Below, TaskText, FunctionText, Ranged, IsRecord}
use Rattle.record.specs.Rule.{bytes_of, rule_of, is_known, is_task_byte, fits_text, fits_rule}
use Rattle.record.specs.Judging.{framed, framed_by, task_size, judged, required_tags, has_required, refusal_of}
use Rattle.record.specs.Conditions.{GoodFields}
use Rattle.record.specs.Finding.{span_of, is_there, maybe_of, number_of, byte_of, word_of, place_of}
use Rattle.record.specs.Gathering.{entry_of}
use Rattle.record.specs.Reading.{dwords_at, dword_count, dwords_of}
use Rattle.record.proofs.Texts.{unknown_behind}
use Rattle.record.proofs.Finding.{lookup}
use Rattle.record.proofs.Rows.{rows_from, found_by_tag, good_rising, good_lookup}
use Rattle.record.proofs.Judging.{judged_zero}
use Rattle.record.proofs.Slots.{dwords_length}
use Rattle.record.proofs.Bodies.{all_is, bytes_number, fits_number_is, fits_text_is, fits_dwords_is, dwords_made, dwords_below, pieces_in, Body, body_found, body_absent, body_bytes, number_read, text_read, place_within, place_length, dwords_read}
use Rattle.record.proofs.Complete.{value_in, part_all, task_size_lem}

-- ---- what no number says

-- the checks that a text without a number passes
pub record Passes (t : List ℕ) : Type 0 where
  pub frame : framed t ≡ true
  pub fields : judged t 3 0 ≡ 0
  pub required : has_required t ≡ true

pub passes_all : (t : List ℕ) → refusal_of t ≡ 0 → Passes t
unfolding refusal_of
passes_all t e = go (framed t) (has_required t) (eqb (judged t 3 0) 0) refl refl refl e
  where
    go : (x y z : Bool) → framed t ≡ x → has_required t ≡ y → eqb (judged t 3 0) 0 ≡ z
        → ◌≡◌ {A = ℕ} (cond x (cond z (cond y 0 33) (judged t 3 0)) 30) 0 → Passes t
    go false y z a b c e = absurd (omega (arith, e))
    go true y false a b c e = absurd (eqb-false (judged t 3 0) 0 c e)
    go true false true a b c e = absurd (omega (arith, e))
    go true true true a b c e = record { frame = a; fields = eqb-true (judged t 3 0) 0 c; required = b }

-- a framed text is one field of tag A1
pub framed_is : (t : List ℕ) → framed t ≡ true → field_at t 0 ≡ Field 0xA1 3 (length t)
unfolding framed
framed_is t e = go (field_at t 0) refl e
  where
    go : (s : Step) → field_at t 0 ≡ s → framed_by (length t) s ≡ true → field_at t 0 ≡ Field 0xA1 3 (length t)
    go (Field tag from to) h k =
        let f : Found t 0 tag from to = field_found t 0 h in
        let a : tag ≡ 0xA1 = eqb-true tag 0xA1 (both_left _ _ k) in
        let b : to ≡ length t = eqb-true to (length t) (both_right (eqb tag 0xA1) _ k) in
        let c : from ≡ 3 = f.from_is in
        h ∙ rw (a, b, c)
    go Stray h k = absurd (false≢true k)
    go Overrun h k = absurd (false≢true k)
    go End h k = absurd (false≢true k)

-- the task's length is that of the first field, if that is a task
pub known_low : (tag : ℕ) → is_known (rule_of tag) ≡ true → tag ≤ 19
known_low tag h =
    elim (dec_le tag 19) [
      | yes l ↦ l
      | no l ↦ absurd (false≢true (ap is_known (sym (unknown_behind tag (omega arith))) ∙ h))
    ]

good_low : (task last : ℕ) (ps : List Piece) → GoodFields task last ps → All (λ p. p.tag ≤ 0 + 19) ps
good_low task last [] g = tt
good_low task last (p ∷ ps) g = (known_low p.tag g.0.known, good_low task p.tag ps g.1)

-- ---- what a field that is there gives

module _ (t : List ℕ) (bytes : Bytes t) (good : GoodFields (task_size t) 0 (pieces_in t)) where
  -- a number's field is the bytes of the number that is read, and the number is within its limit
  record Numbered (tag k limit : ℕ) : Type 0 where
    is : option_map (number_bytes k) (maybe_of k t tag) ≡ lookup tag (pieces_in t)
    low : Below (suc limit) (maybe_of k t tag)

  numbered : (tag : ℕ) (w : Width) (limit : ℕ) → rule_of tag ≡ Some (R.Number w limit) → Numbered tag (bytes_of w) limit
  unfolding maybe_of fits_rule
  numbered tag w limit rule = go (lookup tag (pieces_in t)) refl
    where
      go : (o : Option (List ℕ)) → lookup tag (pieces_in t) ≡ o → Numbered tag (bytes_of w) limit
      go None e =
          let absent : span_of t tag ≡ None = body_absent t tag e in
          record { is = rw (absent, e); low = rw absent tt }
      go (Some b) e =
          let fits : fits_rule (Some (R.Number w limit)) (task_size t) b ≡ true = rw rule at (good_lookup (task_size t) (pieces_in t) 0 good tag b e) in
          let f = fits_number_is (bytes_of w) limit b fits in
          let body : Body t tag b = body_found t tag b e in
          let read : maybe_of (bytes_of w) t tag ≡ Some (number (bytes_of w) b 0) = number_read t body (bytes_of w) f.0 in
          record {
            is = ap (option_map (number_bytes (bytes_of w))) read ∙ rw e (ap Some (sym (bytes_number (bytes_of w) b (body_bytes t body bytes) f.0)));
            low = rw read (omega (arith, f.1));
          }

  -- the same of a field that is required
  record Needed (tag k limit : ℕ) : Type 0 where
    is : Some (number_bytes k (number_of k t tag)) ≡ lookup tag (pieces_in t)
    low : number_of k t tag < suc limit

  needed : (tag : ℕ) (w : Width) (limit : ℕ) → rule_of tag ≡ Some (R.Number w limit) → is_there (span_of t tag) ≡ true → Needed tag (bytes_of w) limit
  unfolding number_of maybe_of
  needed tag w limit rule there = go (span_of t tag) refl there (numbered tag w limit rule)
    where
      go : (o : Option Span) → span_of t tag ≡ o → is_there o ≡ true → Numbered tag (bytes_of w) limit → Needed tag (bytes_of w) limit
      go (Some s) h k n = record { is = rw h (rw h at n.is); low = rw h (rw h at n.low) }
      go None h k n = absurd (false≢true k)

  -- a field that is not a number, by its body
  record Bodied (tag : ℕ) (rule : Option Rule) : Type 0 where
    body : List ℕ
    found : lookup tag (pieces_in t) ≡ Some body
    has : Body t tag body
    fits : fits_rule rule (task_size t) body ≡ true

  bodied : (tag : ℕ) (rule : Option Rule) → rule_of tag ≡ rule → is_there (span_of t tag) ≡ true → Bodied tag rule
  bodied tag rule e there = go (lookup tag (pieces_in t)) refl
    where
      go : (o : Option (List ℕ)) → lookup tag (pieces_in t) ≡ o → Bodied tag rule
      go None h = absurd (false≢true (sym (ap is_there (body_absent t tag h)) ∙ there))
      go (Some b) h =
          record {
            body = b;
            found = h;
            has = body_found t tag b h;
            fits = rw e at (good_lookup (task_size t) (pieces_in t) 0 good tag b h);
          }

flag_forth : (n : ℕ) → n < 2 → flag (eqb n 1) ≡ n
flag_forth n h = go (eqb n 1) refl
  where
    go : (x : Bool) → eqb n 1 ≡ x → flag x ≡ n
    go true e = sym (eqb-true n 1 e)
    go false e = omega (arith, eqb-false n 1 e)

pub task_byte : (b : ℕ) → is_task_byte b ≡ true → (b < 128) × (b ≡ 32 → ⊥)
unfolding is_task_byte
task_byte b e = (ltb-true b 128 (both_right (not (eqb b 32)) _ e), eqb-false b 32 (not-true (eqb b 32) (both_left _ _ e)))

-- ---- a text that passes

module _ (t : List ℕ) (bytes : Bytes t) (p : Passes t) where
  judgement : (fills t 3 ≡ true) × GoodFields (task_size t) 0 (pieces_in t)
  judgement = judged_zero t 3 0 p.fields

  good : GoodFields (task_size t) 0 (pieces_in t)
  good = judgement.1

  there : All (λ tag. is_there (span_of t tag) ≡ true) required_tags
  unfolding has_required
  there = all_is (λ tag. is_there (span_of t tag)) (λ tag. is_there (span_of t tag) ≡ true) (λ tag e. e) required_tags p.required

  task : Bodied t bytes good 1 (Some R.Task)
  unfolding rule_of
  task = bodied t bytes good 1 (Some R.Task) refl there.0

  pid : Needed t bytes good 2 4 0xffffffff
  unfolding rule_of
  pid = needed t bytes good 2 Four 0xffffffff refl there.1.0

  cpu : Needed t bytes good 3 2 999
  unfolding rule_of
  cpu = needed t bytes good 3 Two 999 refl there.1.1.0

  seconds : Needed t bytes good 4 8 0x7fffffffffffffff
  unfolding rule_of
  seconds = needed t bytes good 4 Eight 0x7fffffffffffffff refl there.1.1.1.0

  microseconds : Needed t bytes good 5 8 0x7fffffffffffffff
  unfolding rule_of
  microseconds = needed t bytes good 5 Eight 0x7fffffffffffffff refl there.1.1.1.1.0

  function : Bodied t bytes good 6 (Some R.Function)
  unfolding rule_of
  function = bodied t bytes good 6 (Some R.Function) refl there.1.1.1.1.1.0

  kind : Needed t bytes good 7 1 12
  unfolding rule_of
  kind = needed t bytes good 7 One 12 refl there.1.1.1.1.1.1.0

  size : Needed t bytes good 8 2 0xffff
  unfolding rule_of
  size = needed t bytes good 8 Two 0xffff refl there.1.1.1.1.1.1.1.0

  dropped : Needed t bytes good 9 1 1
  unfolding rule_of
  dropped = needed t bytes good 9 One 1 refl there.1.1.1.1.1.1.1.1.0

  domain : Needed t bytes good 10 4 0xffffffff
  unfolding rule_of
  domain = needed t bytes good 10 Four 0xffffffff refl there.1.1.1.1.1.1.1.1.1.0

  route : Needed t bytes good 11 8 0xffffffffffffffff
  unfolding rule_of
  route = needed t bytes good 11 Eight 0xffffffffffffffff refl there.1.1.1.1.1.1.1.1.1.1.0

  offset : Numbered t bytes good 12 2 0xffff
  unfolding rule_of
  offset = numbered t bytes good 12 Two 0xffff refl

  code : Numbered t bytes good 13 1 0xff
  unfolding rule_of
  code = numbered t bytes good 13 One 0xff refl

  len : Numbered t bytes good 14 2 0xffff
  unfolding rule_of
  len = numbered t bytes good 14 Two 0xffff refl

  port : Numbered t bytes good 15 1 0xff
  unfolding rule_of
  port = numbered t bytes good 15 One 0xff refl

  config : Numbered t bytes good 16 1 0xff
  unfolding rule_of
  config = numbered t bytes good 16 One 0xff refl

  seq : Numbered t bytes good 17 1 0xff
  unfolding rule_of
  seq = numbered t bytes good 17 One 0xff refl

  unplug : Numbered t bytes good 18 1 0xff
  unfolding rule_of
  unplug = numbered t bytes good 18 One 0xff refl

  words : Bodied t bytes good 19 (Some R.Dwords)
  unfolding rule_of
  words = bodied t bytes good 19 (Some R.Dwords) refl there.1.1.1.1.1.1.1.1.1.1.1.0

  word_size_lem : (length words.body ≡ 4 * (length words.body / 4)) × (length words.body / 4 ≤ 256)
  unfolding fits_rule
  word_size_lem = fits_dwords_is (length words.body) words.fits

  count_is : dword_count t ≡ length words.body / 4
  unfolding dword_count
  count_is = ap (λ (n : ℕ). n / 4) (place_length t words.has)

  dwords_are : dwords_of t ≡ dwords_at words.body 0 (length words.body / 4)
  unfolding dwords_of
  dwords_are = rw count_is (dwords_read t words.has (length words.body / 4) word_size_lem.0)

  pub dwords_count : length (dwords_of t) ≡ dword_count t
  dwords_count = ap length dwords_are ∙ dwords_length words.body 0 (length words.body / 4) ∙ sym count_is

  pub count_few : dword_count t ≤ 256
  count_few = rw count_is word_size_lem.1

  dwords_bytes_lem : dwords_bytes (dwords_of t) ≡ words.body
  dwords_bytes_lem =
      let n : ℕ = length words.body / 4 in
      let whole : take (4 * n) words.body ≡ words.body = take_all (4 * n) words.body (omega (arith, word_size_lem.0)) in
      rw dwords_are
      (sym (dwords_made words.body (body_bytes t words.has bytes) n 0 (omega (arith, word_size_lem.0))) ∙ whole)

  dwords_part : (value_in t).dwords ≡ dwords_of t
  unfolding value_in value_of entry_of dword_count
  dwords_part = part_all (dwords_of t) ((place_of t 0x13).len / 4) (sym dwords_count)

  -- the rows of the value are what is found tag by tag
  rows_are : rows_of (value_in t) ≡ rows_from 19 1 (λ tag. lookup tag (pieces_in t))
  unfolding value_in value_of entry_of rows_of word_of byte_of
  rows_are =
      let e01 : Some (value_in t).task ≡ lookup 1 (pieces_in t) = ap Some (text_read t task.has) ∙ sym task.found in
      let e06 : Some (value_in t).function ≡ lookup 6 (pieces_in t) = ap Some (text_read t function.has) ∙ sym function.found in
      let e09 : Some (number_bytes 1 (flag (eqb (number_of 1 t 9) 1))) ≡ lookup 9 (pieces_in t) =
      ap (λ (n : ℕ). Some (number_bytes 1 n)) (flag_forth (number_of 1 t 9) dropped.low) ∙ dropped.is in
      let e0c : option_map (number_bytes 2) (value_in t).offset ≡ lookup 12 (pieces_in t) = offset.is in
      let e0d : option_map (number_bytes 1) (value_in t).code ≡ lookup 13 (pieces_in t) = code.is in
      let e0e : option_map (number_bytes 2) (value_in t).len ≡ lookup 14 (pieces_in t) = len.is in
      let e0f : option_map (number_bytes 1) (value_in t).port ≡ lookup 15 (pieces_in t) = port.is in
      let e10 : option_map (number_bytes 1) (value_in t).config ≡ lookup 16 (pieces_in t) = config.is in
      let e11 : option_map (number_bytes 1) (value_in t).seq ≡ lookup 17 (pieces_in t) = seq.is in
      let e12 : option_map (number_bytes 1) (value_in t).unplug ≡ lookup 18 (pieces_in t) = unplug.is in
      let e13 : Some (dwords_bytes (value_in t).dwords) ≡ lookup 19 (pieces_in t) =
      ap (λ (ds : List ℕ). Some (dwords_bytes ds)) dwords_part ∙ ap Some dwords_bytes_lem ∙ sym words.found in
      λ i.
      record { tag = 0x01; body = e01 i }
      ∷ record { tag = 0x02; body = pid.is i }
      ∷ record { tag = 0x03; body = cpu.is i }
      ∷ record { tag = 0x04; body = seconds.is i }
      ∷ record { tag = 0x05; body = microseconds.is i }
      ∷ record { tag = 0x06; body = e06 i }
      ∷ record { tag = 0x07; body = kind.is i }
      ∷ record { tag = 0x08; body = size.is i }
      ∷ record { tag = 0x09; body = e09 i }
      ∷ record { tag = 0x0A; body = domain.is i }
      ∷ record { tag = 0x0B; body = route.is i }
      ∷ record { tag = 0x0C; body = e0c i }
      ∷ record { tag = 0x0D; body = e0d i }
      ∷ record { tag = 0x0E; body = e0e i }
      ∷ record { tag = 0x0F; body = e0f i }
      ∷ record { tag = 0x10; body = e10 i }
      ∷ record { tag = 0x11; body = e11 i }
      ∷ record { tag = 0x12; body = e12 i }
      ∷ record { tag = 0x13; body = e13 i }
      ∷ []

  pieces_are : present (rows_of (value_in t)) ≡ pieces_in t
  pieces_are =
      ap present rows_are
      ∙ found_by_tag 19 0 (λ tag. lookup tag (pieces_in t)) (pieces_in t) (good_rising (task_size t) (pieces_in t) 0 good)
      (good_low (task_size t) 0 (pieces_in t) good) (λ tag h. refl)

  rest_is : drop 3 t ≡ fields_bytes (present (rows_of (value_in t)))
  rest_is = fills_made t bytes 3 judgement.0 ∙ ap fields_bytes (sym pieces_are)

  bytes_are : record_bytes (value_in t) ≡ t
  unfolding record_bytes
  bytes_are =
      let whole : Part = record { at = 0; tag = 0xA1; from = 3; to = length t } in
      let made : t ≡ field_bytes 0xA1 (between t 3 (length t)) ++ drop (length t) t = part_made t bytes whole (framed_is t p.frame) in
      ap (field_bytes 0xA1) (sym (between_end t 3 ∙ rest_is))
      ∙ sym (made ∙ ap (λ (l : List ℕ). field_bytes 0xA1 (between t 3 (length t)) ++ l) (drop-length t) ∙ append-nil (field_bytes 0xA1 (between t 3 (length t))))

  task_text : TaskText (value_in t).task
  unfolding value_in value_of entry_of fits_rule
  task_text =
      let f = fits_text_is is_task_byte (λ b. (b < 128) × (b ≡ 32 → ⊥)) task_byte task.body task.fits in
      let e : part_of t (place_of t 1).from (place_of t 1).len ≡ task.body = text_read t task.has in
      record { some = rw e f.0; letters = rw e f.1 }

  function_fits : (task_size t + length function.body ≤ 4096) × (fits_text is_word function.body ≡ true)
  unfolding fits_rule
  function_fits = (
    leb-true (task_size t + length function.body) 4096 (both_left _ _ function.fits),
    both_right (leb (task_size t + length function.body) 4096) _ function.fits,
  )

  function_is : (value_in t).function ≡ function.body
  unfolding value_in value_of entry_of
  function_is = text_read t function.has

  function_text : FunctionText (value_in t).function
  function_text =
      let f = fits_text_is is_word (λ b. is_word b ≡ true) (λ b e. e) function.body function_fits.1 in
      record { some = rw function_is f.0; letters = rw function_is f.1 }

  together : length (value_in t).task + length (value_in t).function ≤ 4096
  together = omega (arith, function_fits.0, ap length function_is, task_size_lem t (value_in t) rest_is)

  -- the value's numbers are within the ranges
  ranged : Ranged (value_in t)
  unfolding value_in value_of entry_of word_of byte_of
  ranged =
      record {
        task = task_text;
        pid = pid.low;
        cpu = omega (arith, cpu.low);
        seconds = seconds.low;
        microseconds = microseconds.low;
        function = function_text;
        together = together;
        kind = omega (arith, kind.low);
        size = size.low;
        domain = domain.low;
        route = route.low;
        offset = offset.low;
        code = code.low;
        len = len.low;
        port = port.low;
        config = config.low;
        seq = seq.low;
        unplug = unplug.low;
        dwords = rw (dwords_part, dwords_are) (dwords_below words.body (body_bytes t words.has bytes) (length words.body / 4) 0);
        few = rw (dwords_part, dwords_count) count_few;
      }

  -- a text that passes is the record of the value that its fields give
  pub passes_is : IsRecord t (value_in t)
  passes_is = record { ranged = ranged; bytes = bytes_are }

  -- the entry's parts lie in the text, and in slots that are enough
  pub places_lie : (slots : List ℕ) → dword_count t ≤ length slots → Lies (entry_of t) t slots
  unfolding entry_of dword_count
  places_lie slots h =
      record { task = place_within t task.has; function = place_within t function.has; dwords = h }
