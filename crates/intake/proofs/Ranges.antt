-- What a line says keeps the record's ranges: its texts are parts of a header of bytes below 128, apart from each other since the dash behind the task
-- is no word byte; its numbers were read within their widths. Assumes nothing.
use Rattle.std.specs.Prelude.{None, Option, Some}
use Prim.Native.Nat.{ℕ, suc, ◌+◌, ◌-◌, ◌^◌, ◌≤◌, ◌<◌}
use mathlib.Core.Path.{◌≡◌, sym, ap, ◌∙◌}
use mathlib.Core.Bool.{Bool, true, false, cond, not, ◌&&◌, false≢true}
use mathlib.Core.List.{List, [], ◌∷◌, ◌++◌}
use native.Mathlib.Omega.{arith}
use native.Mathlib.Decide.{dec_lt}
use lib.Dec.{ltb, eqb}
use lib.ListN.{length, get_or, length-append, length-drop, get_or-append}
use lib.Pow.{pow_pos}
use lib.Seq.{get_or-append-add, get_or-take, get_or-drop, length-take-le}
use borrow.Author.Tests.{ltb-true, eqb-true, eq-eqb}
use Rattle.text.specs.Class.{between, is_digit, is_letter, is_word, in_class}
use Rattle.text.specs.Number.{HexNumber}
use Rattle.text.specs.Place.{is_at}
use Rattle.text.specs.Quote.{bytes}
use Rattle.text.specs.Same.{same_text}
use Rattle.text.proofs.Texts.{both_left, both_right}
use Rattle.tlv.specs.Grammar.{All}
use Rattle.entry.specs.Entry.{EntryValue}
use Rattle.entry.specs.Kind.{by_direction, other_kind, kind_of}
use Rattle.header.specs.Dash.{dash_at, Task}
use Rattle.header.specs.Function.{Function}
use Rattle.pairs.specs.Data.{Dwords}
use Rattle.scan.specs.declared.Pieces.{Pieces}
use Rattle.scan.specs.Frame.{High, Split}
use Rattle.scan.specs.Line.{KeyDecimal, KeyHex, Optional, Line}
use Rattle.record.specs.Grammar.{Below, TaskText, FunctionText, Ranged}

-- what holds at each place holds of each element
all_places : (P : ℕ → Type 0) (l : List ℕ) → ((k : ℕ) → k < length l → P (get_or l k 0)) → All P l
all_places P [] h = tt
all_places P (x ∷ l) h = (h 0 (omega arith), all_places P l (λ k n. h (suc k) (omega (arith, n))))

-- ---- the header lies in the line

module _ (t : List ℕ) {header payload : List ℕ} (s : Split t header payload) where
  header_byte : (k : ℕ) → k < length header → (place : ℕ) × (place < length t) × (get_or t place 0 ≡ get_or header k 0)
  header_byte k n =
      let strip = s.header_stripped in
      let place : ℕ = length strip.front + k in
      let rest : k < length (header ++ strip.back) = omega (arith, n, length-append header strip.back) in
      let inside : place < length s.before =
      omega (arith, rest, ap length strip.whole, length-append strip.front (header ++ strip.back)) in (
        place,
        omega (arith, inside, ap length s.whole, length-append s.before (58 ∷ s.after)),
        ap (λ (l : List ℕ). get_or l place 0) s.whole
            ∙ get_or-append s.before (58 ∷ s.after) 0 place inside
            ∙ ap (λ (l : List ℕ). get_or l place 0) strip.whole
            ∙ get_or-append-add strip.front (header ++ strip.back) k 0
            ∙ get_or-append header strip.back 0 k n,
      )

  header_ascii : (High t → ⊥) → (k : ℕ) → k < length header → get_or header k 0 < 128
  header_ascii ascii k n =
      let b = header_byte k n in
      elim (dec_lt (get_or header k 0) 128) [
        | yes low ↦ low
        | no high ↦ absurd (ascii (record { place = b.0; within = b.1; high = omega (arith, b.2, high) }))
      ]

  header_short : length header ≤ length t
  header_short =
      let strip = s.header_stripped in
      omega (
        arith,
        ap length s.whole,
        length-append s.before (58 ∷ s.after),
        ap length strip.whole,
        length-append strip.front (header ++ strip.back),
        length-append header strip.back,
      )

-- ---- task and function

-- a dash is no word byte
dash_no_word : is_word 45 ≡ true → ⊥
unfolding is_word is_letter is_digit between
dash_no_word e = false≢true e

module _ (h : List ℕ) {task function : List ℕ} (a : Task h task) (f : Function h function) where
  dash_here : (0 < a.dash) × (get_or h a.dash 0 ≡ 45) × (a.dash < length h)
  unfolding dash_at
  dash_here =
      let here = a.last_dash.here in
      let front = both_left (ltb 0 a.dash && is_at 45 h a.dash) _ here in
      (ltb-true _ _ (both_left _ _ front), eqb-true _ _ (both_right (ltb 0 a.dash) _ front), omega (arith, a.last_dash.within, a.first_run.within))

  task_length : length task ≡ a.dash
  task_length = ap length a.before ∙ length-take-le a.dash h (omega (arith, dash_here.2))

  function_length : length function ≡ length h - f.word
  function_length = ap length f.is ∙ length-drop f.word h

  -- so the task ends before the function starts
  texts_apart : a.dash < f.word
  texts_apart =
      elim (dec_lt a.dash f.word) [
        | yes before ↦ before
        | no inside ↦
            let word : is_word (get_or h a.dash 0) ≡ true = f.last_run.inside a.dash (omega (arith, inside)) dash_here.2 in
            absurd (dash_no_word (rw dash_here.1 at word))
      ]

  texts_together : length task + length function ≤ length h
  texts_together = omega (arith, task_length, function_length, texts_apart, f.some_word)

  task_is_text : ((k : ℕ) → k < length h → get_or h k 0 < 128) → TaskText task
  unfolding in_class
  task_is_text ascii =
      record {
        some = omega (arith, task_length, dash_here.0);
        letters = all_places _ task letter;
      }
    where
      letter : (k : ℕ) → k < length task → (get_or task k 0 < 128) × (get_or task k 0 ≡ 32 → ⊥)
      letter k n =
          let near : k < a.dash = omega (arith, n, task_length) in
          let same : get_or task k 0 ≡ get_or h k 0 = ap (λ (l : List ℕ). get_or l k 0) a.before ∙ get_or-take a.dash h k 0 near in
          let unlike : not (eqb (get_or h k 0) 32) ≡ true = a.first_run.inside k (omega arith) (omega (arith, near, a.last_dash.within)) in (
            rw same (ascii k (omega (arith, near, dash_here.2))),
            λ e. false≢true (ap not (sym (eq-eqb (get_or h k 0) 32 (sym same ∙ e))) ∙ unlike),
          )

  function_is_text : FunctionText function
  function_is_text =
      record {
        some = omega (arith, function_length, f.some_word);
        letters = all_places _ function letter;
      }
    where
      letter : (k : ℕ) → k < length function → is_word (get_or function k 0) ≡ true
      letter k n =
          let same : get_or function k 0 ≡ get_or h (f.word + k) 0 = ap (λ (l : List ℕ). get_or l k 0) f.is ∙ get_or-drop f.word h k 0 in
          rw same (f.last_run.inside (f.word + k) (omega arith) (omega (arith, n, function_length)))

-- ---- numbers

cond_at_most : (most : ℕ) (b : Bool) {x y : ℕ} → x ≤ most → y ≤ most → cond b x y ≤ most
cond_at_most most true h k = h
cond_at_most most false h k = k

kind_at_most_12 : (name function : List ℕ) → kind_of name function ≤ 12
unfolding kind_of by_direction other_kind
kind_at_most_12 name function =
    cond_at_most 12 (same_text name (bytes "TB_CFG_PKG_READ")) (direction 1 2 (omega arith) (omega arith))
    (cond_at_most 12 (same_text name (bytes "TB_CFG_PKG_WRITE")) (direction 3 4 (omega arith) (omega arith))
    (cond_at_most 12 (same_text name (bytes "TB_CFG_PKG_ERROR")) (omega arith)
    (cond_at_most 12 (same_text name (bytes "TB_CFG_PKG_NOTIFY_ACK")) (omega arith)
    (cond_at_most 12 (same_text name (bytes "TB_CFG_PKG_EVENT")) (omega arith)
    (cond_at_most 12 (same_text name (bytes "TB_CFG_PKG_XDOMAIN_REQ")) (omega arith)
    (cond_at_most 12 (same_text name (bytes "TB_CFG_PKG_XDOMAIN_RESP")) (omega arith)
    (cond_at_most 12 (same_text name (bytes "TB_CFG_PKG_ICM_EVENT")) (omega arith)
    (cond_at_most 12 (same_text name (bytes "TB_CFG_PKG_ICM_CMD")) (omega arith)
    (cond_at_most 12 (same_text name (bytes "TB_CFG_PKG_ICM_RESP")) (omega arith) (omega arith))))))))))
  where
    direction : (sent received : ℕ) → sent ≤ 12 → received ≤ 12 → by_direction function sent received ≤ 12
    direction sent received h k =
        cond_at_most 12 (same_text function (bytes "tb_tx")) h (cond_at_most 12 (same_text function (bytes "tb_rx")) k (omega arith))

hex_within : (limit : ℕ) (s : List ℕ) {v : ℕ} → HexNumber limit s v → v ≤ limit
hex_within limit s (HexNumber.plain r) = r.within
hex_within limit s (HexNumber.prefixed t e r) = r.within

below : (bits : ℕ) {v : ℕ} → v ≤ 2 ^ bits - 1 → v < 2 ^ bits
below bits {v} h = omega (arith, h, pow_pos bits)

decimal_below : (bits : ℕ) (p key : List ℕ) (o : Option ℕ) → Optional (KeyDecimal p key (2 ^ bits - 1)) o → Below (2 ^ bits) o
decimal_below bits p key None r = tt
decimal_below bits p key (Some v) r = below bits r.reads.within

hex_below : (bits : ℕ) (p key : List ℕ) (o : Option ℕ) → Optional (KeyHex p key (2 ^ bits - 1)) o → Below (2 ^ bits) o
hex_below bits p key None r = tt
hex_below bits p key (Some v) r = below bits (hex_within (2 ^ bits - 1) r.text r.reads)

dwords_below : {ps : List (List ℕ)} {ds : List ℕ} → Dwords ps ds → All (λ d. d < 2 ^ 32) ds
dwords_below Dwords.empty = tt
dwords_below (Dwords.dword {p} {v} {ps} {ds} h r) = (omega (arith, hex_within (2 ^ 32 - 1) p h), dwords_below r)
dwords_below (Dwords.left_out h r) = dwords_below r

-- what a line says keeps the record's ranges
pub line_ranged : (pieces : Pieces) (t : List ℕ) {v : EntryValue} → Line pieces t v → Ranged v
line_ranged pieces t {v} a =
    let ascii = header_ascii t a.split a.ascii in
    record {
      task = task_is_text a.header a.task a.function ascii;
      pid = omega (arith, a.pid.value.within);
      cpu = a.cpu.value.within;
      seconds = omega (arith, a.timestamp.seconds_read.within);
      microseconds = omega (arith, a.timestamp.microseconds_read.within);
      function = function_is_text a.header a.task a.function;
      together = omega (arith, a.short, header_short t a.split, texts_together a.header a.task a.function);
      kind = rw (← a.kind.is) (kind_at_most_12 a.kind.name v.function);
      size = omega (arith, a.size.reads.within);
      domain = omega (arith, a.domain.reads.within);
      route = omega (arith, hex_within (2 ^ 64 - 1) a.route.text a.route.reads);
      offset = hex_below 16 a.payload _ v.offset a.offset;
      code = hex_below 8 a.payload _ v.code a.code;
      len = decimal_below 16 a.payload _ v.len a.len;
      port = decimal_below 8 a.payload _ v.port a.port;
      config = hex_below 8 a.payload _ v.config a.config;
      seq = decimal_below 8 a.payload _ v.seq a.seq;
      unplug = hex_below 8 a.payload _ v.unplug a.unplug;
      dwords = dwords_below a.dwords.brackets.dwords;
      few = a.few;
    }
