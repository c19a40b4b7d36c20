-- The reading is the grammar's: each number is answered exactly where its condition holds and no earlier one does, and an entry exactly
-- where none does, with what the line says. Each check's presence and absence come from that field's own soundness and completeness;
-- the chain puts them in the order of the checks. Assumes nothing.
use Rattle.std.specs.Prelude.{None, Option, Some}
use Prim.Native.Nat.{ℕ, ◌-◌, ◌^◌, ◌≤◌, ◌<◌}
use mathlib.Core.Path.{◌≡◌, refl, sym, ap, ◌∙◌}
use mathlib.Core.Bool.{Bool, true, false, cond}
use mathlib.Core.List.{List, [], ◌∷◌}
use native.Mathlib.Omega.{arith}
use lib.Dec.{ltb, leb, eqb}
use lib.ListN.{length, get_or, take, drop}
use borrow.Author.Tests.{ltb-true, ltb-false, leb-true, le-leb, eqb-true, eq-eqb}
use Rattle.text.specs.Told as T
use Rattle.text.specs.Place.{last_byte}
use Rattle.text.specs.Quote.{bytes}
use Rattle.text.proofs.Places.{clash, first_is, first_free}
use Rattle.entry.specs.declared.Entry.{Entry}
use Rattle.entry.specs.Entry.{value_of}
use Rattle.entry.specs.Kind.{kind_of}
use Rattle.header.specs.declared.stamp.Stamp.{Stamp}
use Rattle.header.specs.Dash.{Task, Pid, task_of, pid_of}
use Rattle.header.specs.Cpu.{Cpu, cpu_of}
use Rattle.header.specs.Stamp.{Timestamp, stamp_of}
use Rattle.header.specs.Function.{Function, function_of}
use Rattle.header.proofs.Dashes.{task_is, task_all, task_within, pid_is, pid_all}
use Rattle.header.proofs.Cpus.{cpu_is, cpu_all}
use Rattle.header.proofs.Stamps.{timestamp_is, timestamp_all}
use Rattle.header.proofs.Functions.{function_is, function_all, function_within}
use Rattle.pairs.specs.Pair.{last_pair, decimal_of, hex_at}
use Rattle.pairs.specs.Data.{any_bad, data_of}
use Rattle.pairs.proofs.Slots.{data_is, data_all}
use Rattle.pairs.proofs.BadPieces.{any_bad_is, any_bad_all, bad_data_is}
use Rattle.scan.specs.declared.Pieces.{Pieces}
use Rattle.scan.specs.declared.Pieces.TheVariants.{Strict, Lenient}
use Rattle.scan.specs.declared.head.Head.{Head}
use Rattle.scan.specs.declared.body.Body.{Body}
use Rattle.scan.specs.Frame.{Idle, High, Split, idle, first_high, frame_colon, frame_ascii, frame_of}
use Rattle.scan.specs.Head.{head_of, head6, head7, head8, head9, head_got}
use Rattle.scan.specs.Body.{text_at, hex_byte, hex_word, decimal_byte, decimal_word, dropped_of, optionals_of, body12, body13, body14, body_of}
use Rattle.scan.specs.Dwords.{payload_data, payload_bad, refuses, data16, data18, data_answer}
use Rattle.scan.specs.Parse.{header_of, payload_of, start_of, entry_of, with_data, with_body, payload_answer, with_head, parted_answer, with_frame, parse_of, dwords_by, line_dwords}
use Rattle.scan.specs.Line.{KeyText, KeyDecimal, KeyHex, Dwords, BadFor, Line, Missing, Has, MoreThan, Stamped, Condition, order_of}
use Rattle.scan.proofs.Frames.{idle_empty, idle_comment, idle_one, idle_not, frame_passed, frame-colon}
use Rattle.scan.proofs.Splits.{split_is, split_colon, one_header, one_payload}
use Rattle.scan.proofs.Keys.{key_text_is, key_text_all, key_decimal_is, key_decimal_all, key_hex_is, key_hex_all}
use Rattle.scan.proofs.Stages.{need_goes_on}
use Rattle.scan.proofs.Values.{task_part, function_part, dwords_whole, optional_decimal, optional_hex, dropped_is}
use Rattle.scan.proofs.Chain.{Clear, clear_starts, clear_next, Answered, refuse, check}

-- nothing is not something
nothing : {X : Type 0} {o : Option X} {a : X} → o ≡ None → o ≡ Some a → ⊥
nothing e q = let z : ◌≡◌ {A = ℕ} 0 1 = cc in omega arith

-- the dwords of a payload
pub dwords_are : (p : List ℕ) {ds : List ℕ} → payload_data p ≡ Some ds → Dwords p ds
unfolding payload_data
dwords_are p {ds} e =
    let w = need_goes_on (text_at p (last_pair p (bytes "data"))) None data_of e (λ q. nothing refl q) in
    record { value = w.0; found = key_text_is p (bytes "data") w.1; brackets = data_is w.2 }

dwords_all : (p : List ℕ) {ds : List ℕ} → Dwords p ds → payload_data p ≡ Some ds
unfolding payload_data
dwords_all p r = rw (key_text_all p (bytes "data") r.found) (data_all r.brackets)

-- whether a piece is bad is asked of the pieces
payload_bad_is : (p : List ℕ) {ds : List ℕ} (r : Dwords p ds) → payload_bad p ≡ any_bad r.brackets.pieces
unfolding payload_bad
payload_bad_is p r = rw (key_text_all p (bytes "data") r.found) (bad_data_is r.brackets)

-- what the choice refuses, as a test and as a sentence
pub bad_for_is : (pieces : Pieces) (p : List ℕ) {ds : List ℕ} → Dwords p ds → refuses pieces (payload_bad p) ≡ true → BadFor pieces p
unfolding refuses
bad_for_is Strict p {ds} r b = record { dwords = ds; are = r; piece = any_bad_is r.brackets.pieces (sym (payload_bad_is p r) ∙ b) }
bad_for_is Lenient p r b = clash b refl

pub bad_for_all : (pieces : Pieces) (p : List ℕ) → BadFor pieces p → refuses pieces (payload_bad p) ≡ true
unfolding refuses
bad_for_all Strict p r = payload_bad_is p r.are ∙ any_bad_all r.piece
bad_for_all Lenient p r = absurd r

-- a line parted at its last colon
module _ (t : List ℕ) (room : ℕ) {k : ℕ} (colon : last_byte 58 t ≡ Some k) where
  split : Split t (header_of t k) (payload_of t k)
  split = split_is t colon

  -- what header or payload lacks, the line lacks; what they have, it has
  lacking : {X : Type 0} (R : List ℕ → List ℕ → X → Type 0) → ((a : X) → R (header_of t k) (payload_of t k) a → ⊥) → Missing t R
  lacking R n header payload s a x = n a (rw (← one_header t colon s, ← one_payload t colon s) x)

  having : {X : Type 0} (R : List ℕ → List ℕ → X → Type 0) (a : X) → R (header_of t k) (payload_of t k) a → Missing t R → ⊥
  having R a x m = m (header_of t k) (payload_of t k) split a x

  payload_has : (R : List ℕ → Type 0) → R (payload_of t k) → Has t R
  payload_has R x = record { header = header_of t k; payload = payload_of t k; split = split; there = x }

  payload_not : (R : List ℕ → Type 0) → (R (payload_of t k) → ⊥) → Has t R → ⊥
  payload_not R n h = n (rw (← one_payload t colon h.split) h.there)

-- numbers 1 to 3, as tests and as sentences
pub idle_all : (t : List ℕ) → Idle t → idle t ≡ true
idle_all t (Idle.empty e) = idle_empty t (ap length e)
idle_all t (Idle.newline e) =
    idle_one t (λ z. absurd (omega (arith, ap length e))) (λ z. absurd (omega (arith, ap (λ (l : List ℕ). get_or l 0 0) e))) (ap length e)
    ∙ eq-eqb (get_or t 0 0) 10 (ap (λ (l : List ℕ). get_or l 0 0) e)
idle_all t (Idle.comment r e) =
    idle_comment t (λ z. absurd (omega (arith, ap length e))) (ap (λ (l : List ℕ). get_or l 0 0) e)

idle_is : (t : List ℕ) → idle t ≡ true → Idle t
idle_is [] e = Idle.empty refl
idle_is (x ∷ l) e = go (eqb x 35) refl
  where
    alone : (r : List ℕ) → length (x ∷ r) ≡ 1 → x ≡ 10 → x ∷ r ≡ 10 ∷ []
    alone [] q w = rw w
    alone (y ∷ r) q w = absurd (omega arith)

    longer : (b : Bool) → eqb (length (x ∷ l)) 1 ≡ b → (x ≡ 35 → ⊥) → Idle (x ∷ l)
    longer true q n =
        let one : length (x ∷ l) ≡ 1 = eqb-true (length (x ∷ l)) 1 q in
        let ten : x ≡ 10 = eqb-true x 10 (sym (idle_one (x ∷ l) (λ z. absurd (omega arith)) n one) ∙ e) in
        Idle.newline (alone l one ten)
    longer false q n = absurd (clash e (idle_not (x ∷ l) (λ z. absurd (omega arith)) n (λ z. clash (eq-eqb (length (x ∷ l)) 1 z) q)))

    go : (b : Bool) → eqb x 35 ≡ b → Idle (x ∷ l)
    go true q = Idle.comment l (ap (λ (y : ℕ). y ∷ l) (eqb-true x 35 q))
    go false q = longer (eqb (length (x ∷ l)) 1) refl (λ z. clash (eq-eqb x 35 z) q)

pub high_none : (t : List ℕ) → first_high t ≡ None → High t → ⊥
unfolding first_high
high_none t e h =
    clash (le-leb 128 (get_or t h.place 0) h.high)
    (first_free (λ (k : ℕ). leb 128 (get_or t k 0)) e (omega arith) h.place (omega arith) h.within)

high_some : (t : List ℕ) {k : ℕ} → first_high t ≡ Some k → High t
unfolding first_high
high_some t {k} e =
    let r = first_is (λ (k : ℕ). leb 128 (get_or t k 0)) e in
    record { place = k; within = r.within; high = leb-true 128 (get_or t k 0) r.here }

-- an entry that says what the line says
pub record Says (pieces : Pieces) (t : List ℕ) (e : Entry) : Type 0 where
  pub count : e.dwords ≡ length (line_dwords t)
  pub line : Line pieces t (value_of e t (line_dwords t))

module _ (pieces : Pieces) (t : List ℕ) {k : ℕ} (framed : frame_of t ≡ T.is k) where
  line_dwords_lem : {ds : List ℕ} → payload_data (payload_of t k) ≡ Some ds → line_dwords t ≡ ds
  unfolding line_dwords dwords_by
  line_dwords_lem e = rw (framed, e)

  -- with every part there, the entry says what the line says
  says : (task pid cpu : ℕ) (stamp : Stamp) (function : ℕ) (name : List ℕ) (size domain route : ℕ) (ds : List ℕ)
      → task_of (header_of t k) ≡ Some task
      → pid_of (header_of t k) ≡ Some pid
      → cpu_of (header_of t k) ≡ Some cpu
      → stamp_of (header_of t k) ≡ Some stamp
      → function_of (header_of t k) ≡ Some function
      → text_at (payload_of t k) (last_pair (payload_of t k) (bytes "type")) ≡ Some name
      → decimal_of (payload_of t k) (bytes "size") (2 ^ 16 - 1) ≡ Some size
      → decimal_of (payload_of t k) (bytes "domain") (2 ^ 32 - 1) ≡ Some domain
      → hex_at (payload_of t k) (bytes "route") (2 ^ 64 - 1) ≡ Some route
      → payload_data (payload_of t k) ≡ Some ds
      → refuses pieces (payload_bad (payload_of t k)) ≡ false
      → length ds ≤ 256
      → Says pieces t
      (entry_of (start_of t k) (length (header_of t k))
      (record { task = task; pid = pid; cpu = cpu; seconds = stamp.seconds; microseconds = stamp.microseconds; function = function })
      (record { kind = kind_of name (drop function (header_of t k)); size = size; dropped = dropped_of (payload_of t k); domain = domain; route = route; optionals = optionals_of (payload_of t k) })
      (length ds))
  unfolding value_of entry_of optionals_of hex_word hex_byte decimal_byte decimal_word dropped_of
  says task pid cpu stamp function name size domain route ds a b c d f n s o r e good few =
      let passed = frame_passed t framed in
      let are : line_dwords t ≡ ds = line_dwords_lem e in
      let task-in : task < length (header_of t k) = task_within (header_of t k) a in
      let function-in : function < length (header_of t k) = function_within (header_of t k) f in
      record {
        count = ap length (sym are);
        line =
            record {
              busy = λ q. clash (idle_all t q) passed.0;
              short = passed.1;
              ascii = high_none t passed.2;
              header = header_of t k;
              payload = payload_of t k;
              split = split_is t passed.3;
              task = rw (task_part t k task (omega arith)) (task_is (header_of t k) a);
              pid = pid_is (header_of t k) b;
              cpu = cpu_is (header_of t k) c;
              timestamp = timestamp_is (header_of t k) d;
              function = rw (function_part t k function (omega arith)) (function_is (header_of t k) f);
              kind = record { name = name; type = key_text_is (payload_of t k) (bytes "type") n; is = rw (function_part t k function (omega arith)) };
              size = key_decimal_is (payload_of t k) (bytes "size") (2 ^ 16 - 1) s;
              dropped = dropped_is (payload_of t k);
              domain = key_decimal_is (payload_of t k) (bytes "domain") (2 ^ 32 - 1) o;
              route = key_hex_is (payload_of t k) (bytes "route") (2 ^ 64 - 1) r;
              offset = optional_hex (payload_of t k) (bytes "offset") (2 ^ 16 - 1);
              code = optional_hex (payload_of t k) (bytes "error") (2 ^ 8 - 1);
              len = optional_decimal (payload_of t k) (bytes "len") (2 ^ 16 - 1);
              port = optional_decimal (payload_of t k) (bytes "port") (2 ^ 8 - 1);
              config = optional_hex (payload_of t k) (bytes "config") (2 ^ 8 - 1);
              seq = optional_decimal (payload_of t k) (bytes "seq") (2 ^ 8 - 1);
              unplug = optional_hex (payload_of t k) (bytes "unplug") (2 ^ 8 - 1);
              dwords = rw (are, dwords_whole ds) (dwords_are (payload_of t k) e);
              good = λ x. clash (bad_for_all pieces (payload_of t k) x) good;
              few = rw (are, dwords_whole ds) few;
            };
      }

-- the chain, from the last numbers to the first
module _ (pieces : Pieces) (t : List ℕ) (room : ℕ) where
  abbrev Ok : T.Told Entry → Type 0
  Ok = Answered pieces t room (Says pieces t)

  module _ {k : ℕ} (framed : frame_of t ≡ T.is k) where
    colon : last_byte 58 t ≡ Some k
    colon = (frame_passed t framed).3

    -- 15, 18, 16 and 17
    judge_data : (head : Head) (body : Body) → Clear pieces t room 15 → ((ds : List ℕ) → payload_data (payload_of t k) ≡ Some ds → refuses pieces (payload_bad (payload_of t k)) ≡ false → length ds ≤ 256 → Says pieces t (entry_of (start_of t k) (length (header_of t k)) head body (length ds))) → Ok (with_data (header_of t k) (start_of t k) head body (data_answer pieces (payload_of t k) room))
    unfolding Condition order_of data_answer with_data
    judge_data head body clear done =
        check pieces t room (Says pieces t) (with_data (header_of t k) (start_of t k) head body) 15 (payload_data (payload_of t k)) (T.refused 15) (data18 (refuses pieces (payload_bad (payload_of t k))) room) refl clear
        (λ e. lacking t room colon (λ (x y ds : List ℕ). Dwords y ds) (λ ds r. nothing e (dwords_all (payload_of t k) r)))
        (λ ds e. (
          having t room colon (λ (x y ds : List ℕ). Dwords y ds) ds (dwords_are (payload_of t k) e),
          λ c18.
              refuse pieces t room (Says pieces t) (with_data (header_of t k) (start_of t k) head body) 18 (refuses pieces (payload_bad (payload_of t k))) (T.refused 18) (data16 room ds) refl c18
              (λ b. payload_has t room colon (BadFor pieces) (bad_for_is pieces (payload_of t k) (dwords_are (payload_of t k) e) b))
              (λ b. (
                payload_not t room colon (BadFor pieces) (λ r. clash (bad_for_all pieces (payload_of t k) r) b),
                λ c16.
                    refuse pieces t room (Says pieces t) (with_data (header_of t k) (start_of t k) head body) 16 (ltb 256 (length ds)) (T.refused 16)
                    (cond (ltb room (length ds)) (T.refused 17) (T.is (length ds))) refl c16
                    (λ m. payload_has t room colon (MoreThan 256) (record { dwords = ds; are = dwords_are (payload_of t k) e; more = ltb-true 256 (length ds) m }))
                    (λ m. (
                      payload_not t room colon (MoreThan 256) (λ r. more-than e (ltb-false 256 (length ds) m) r),
                      λ c17.
                          refuse pieces t room (Says pieces t) (with_data (header_of t k) (start_of t k) head body) 17 (ltb room (length ds)) (T.refused 17) (T.is (length ds)) refl c17
                          (λ q. payload_has t room colon (MoreThan room) (record { dwords = ds; are = dwords_are (payload_of t k) e; more = ltb-true room (length ds) q }))
                          (λ q. (
                            payload_not t room colon (MoreThan room) (λ r. more-than e (ltb-false room (length ds) q) r),
                            λ c19. Answered.entry (entry_of (start_of t k) (length (header_of t k)) head body (length ds)) c19 (done ds e b (ltb-false 256 (length ds) m)),
                          )),
                    )),
              )),
        ))
      where
        more-than : {ds : List ℕ} {n : ℕ} → payload_data (payload_of t k) ≡ Some ds → length ds ≤ n → MoreThan n (payload_of t k) → ⊥
        more-than {ds} {n} e l r =
            let q = dwords_all (payload_of t k) r.are in
            let same : ds ≡ r.dwords = cc in
            omega (arith, r.more, ap length same)

    -- 11 to 14
    judge_body : (head : Head) → Clear pieces t room 11
        → ((name : List ℕ) (size domain route : ℕ) (ds : List ℕ)
        → text_at (payload_of t k) (last_pair (payload_of t k) (bytes "type")) ≡ Some name
        → decimal_of (payload_of t k) (bytes "size") (2 ^ 16 - 1) ≡ Some size
        → decimal_of (payload_of t k) (bytes "domain") (2 ^ 32 - 1) ≡ Some domain
        → hex_at (payload_of t k) (bytes "route") (2 ^ 64 - 1) ≡ Some route
        → payload_data (payload_of t k) ≡ Some ds
        → refuses pieces (payload_bad (payload_of t k)) ≡ false
        → length ds ≤ 256
        → Says pieces t
        (entry_of (start_of t k) (length (header_of t k)) head
        (record { kind = kind_of name (drop head.function (header_of t k)); size = size; dropped = dropped_of (payload_of t k); domain = domain; route = route; optionals = optionals_of (payload_of t k) })
        (length ds)))
        → Ok (payload_answer pieces (header_of t k) (start_of t k) head (payload_of t k) room)
    unfolding Condition order_of payload_answer body_of with_body
    judge_body head clear done =
        check pieces t room (Says pieces t) (with_body pieces (header_of t k) (start_of t k) head (payload_of t k) room) 11 (text_at (payload_of t k) (last_pair (payload_of t k) (bytes "type"))) (T.refused 11) (λ name. body12 (payload_of t k) (kind_of name (drop head.function (header_of t k)))) refl clear
        (λ n. lacking t room colon (λ (x y name : List ℕ). KeyText y (bytes "type") name) (λ a r. nothing n (key_text_all (payload_of t k) (bytes "type") r)))
        (λ name n. (
          having t room colon (λ (x y name : List ℕ). KeyText y (bytes "type") name) name (key_text_is (payload_of t k) (bytes "type") n),
          λ c12.
              check pieces t room (Says pieces t) (with_body pieces (header_of t k) (start_of t k) head (payload_of t k) room) 12 ((decimal_of (payload_of t k) (bytes "size") (2 ^ 16 - 1))) (T.refused 12) (body13 (payload_of t k) (kind_of name (drop head.function (header_of t k)))) refl c12
              (λ s. lacking t room colon (λ (x y : List ℕ) (v : ℕ). KeyDecimal y (bytes "size") (2 ^ 16 - 1) v) (λ v r. no_decimal (bytes "size") (2 ^ 16 - 1) s r))
              (λ size s. (
                having t room colon (λ (x y : List ℕ) (v : ℕ). KeyDecimal y (bytes "size") (2 ^ 16 - 1) v) size (key_decimal_is (payload_of t k) (bytes "size") (2 ^ 16 - 1) s),
                λ c13.
                    check pieces t room (Says pieces t) (with_body pieces (header_of t k) (start_of t k) head (payload_of t k) room) 13 ((decimal_of (payload_of t k) (bytes "domain") (2 ^ 32 - 1))) (T.refused 13) (body14 (payload_of t k) (kind_of name (drop head.function (header_of t k))) size) refl c13
                    (λ o. lacking t room colon (λ (x y : List ℕ) (v : ℕ). KeyDecimal y (bytes "domain") (2 ^ 32 - 1) v) (λ v r. no_decimal (bytes "domain") (2 ^ 32 - 1) o r))
                    (λ domain o. (
                      having t room colon (λ (x y : List ℕ) (v : ℕ). KeyDecimal y (bytes "domain") (2 ^ 32 - 1) v) domain (key_decimal_is (payload_of t k) (bytes "domain") (2 ^ 32 - 1) o),
                      λ c14.
                          check pieces t room (Says pieces t) (with_body pieces (header_of t k) (start_of t k) head (payload_of t k) room) 14 ((hex_at (payload_of t k) (bytes "route") (2 ^ 64 - 1))) (T.refused 14)
                          (λ route. T.is (record { kind = kind_of name (drop head.function (header_of t k)); size = size; dropped = dropped_of (payload_of t k); domain = domain; route = route; optionals = optionals_of (payload_of t k) })) refl c14
                          (λ r. lacking t room colon (λ (x y : List ℕ) (v : ℕ). KeyHex y (bytes "route") (2 ^ 64 - 1) v) (λ v q. no-hex (bytes "route") (2 ^ 64 - 1) r q))
                          (λ route r. (
                            having t room colon (λ (x y : List ℕ) (v : ℕ). KeyHex y (bytes "route") (2 ^ 64 - 1) v) route (key_hex_is (payload_of t k) (bytes "route") (2 ^ 64 - 1) r),
                            λ c15.
                                judge_data head (record { kind = kind_of name (drop head.function (header_of t k)); size = size; dropped = dropped_of (payload_of t k); domain = domain; route = route; optionals = optionals_of (payload_of t k) }) c15
                                (λ ds d good few. done name size domain route ds n s o r d good few),
                          )),
                    )),
              )),
        ))
      where
        no_decimal : (key : List ℕ) (limit : ℕ) → (decimal_of (payload_of t k) key limit) ≡ None → {v : ℕ} → KeyDecimal (payload_of t k) key limit v → ⊥
        no_decimal key limit e {v} r = nothing e (key_decimal_all (payload_of t k) key limit r)

        no-hex : (key : List ℕ) (limit : ℕ) → (hex_at (payload_of t k) key limit) ≡ None → {v : ℕ} → KeyHex (payload_of t k) key limit v → ⊥
        no-hex key limit e {v} r = nothing e (key_hex_all (payload_of t k) key limit r)

    -- 5 to 9
    judge_head : Clear pieces t room 5 → Ok (parted_answer pieces t k room)
    unfolding Condition order_of parted_answer head_of with_head
    judge_head clear =
        check pieces t room (Says pieces t) (with_head pieces t k room) 5 (task_of (header_of t k)) (T.refused 5) (head6 (header_of t k)) refl clear
        (λ a. lacking t room colon (λ (x y task : List ℕ). Task x task) (λ task r. nothing a (task_all (header_of t k) r)))
        (λ task a. (
          having t room colon (λ (x y task : List ℕ). Task x task) (take task (header_of t k)) (task_is (header_of t k) a),
          λ c6.
              check pieces t room (Says pieces t) (with_head pieces t k room) 6 (pid_of (header_of t k)) (T.refused 6) (head7 (header_of t k) task) refl c6
              (λ b. lacking t room colon (λ (x y : List ℕ) (pid : ℕ). Pid x pid) (λ pid r. nothing b (pid_all (header_of t k) r)))
              (λ pid b. (
                having t room colon (λ (x y : List ℕ) (pid : ℕ). Pid x pid) pid (pid_is (header_of t k) b),
                λ c7.
                    check pieces t room (Says pieces t) (with_head pieces t k room) 7 (cpu_of (header_of t k)) (T.refused 7) (head8 (header_of t k) task pid) refl c7
                    (λ c. lacking t room colon (λ (x y : List ℕ) (cpu : ℕ). Cpu x cpu) (λ cpu r. nothing c (cpu_all (header_of t k) r)))
                    (λ cpu c. (
                      having t room colon (λ (x y : List ℕ) (cpu : ℕ). Cpu x cpu) cpu (cpu_is (header_of t k) c),
                      λ c8.
                          check pieces t room (Says pieces t) (with_head pieces t k room) 8 (stamp_of (header_of t k)) (T.refused 8) (head9 (header_of t k) task pid cpu) refl c8
                          (λ d. no-stamp d)
                          (λ stamp d. (
                            (λ m. m (header_of t k) (payload_of t k) (split t room colon) (record { seconds = stamp.seconds; microseconds = stamp.microseconds; timestamp = timestamp_is (header_of t k) d })),
                            λ c9.
                                check pieces t room (Says pieces t) (with_head pieces t k room) 9 (function_of (header_of t k)) (T.refused 9) (head_got task pid cpu stamp) refl c9
                                (λ f. lacking t room colon (λ (x y function : List ℕ). Function x function) (λ function r. nothing f (function_all (header_of t k) r)))
                                (λ function f. (
                                  having t room colon (λ (x y function : List ℕ). Function x function) (drop function (header_of t k)) (function_is (header_of t k) f),
                                  λ c10.
                                      judge_body (record { task = task; pid = pid; cpu = cpu; seconds = stamp.seconds; microseconds = stamp.microseconds; function = function }) (no-ten c10)
                                      (λ name size domain route ds n s o r e good few.
                                      says pieces t framed task pid cpu stamp function name size domain route ds a b c d f n s o r e good few),
                                )),
                          )),
                    )),
              )),
        ))
      where
        -- the check behind that of 9 is that of 11: no row of the table has 10
        no-ten : Clear pieces t room 10 → Clear pieces t room 11
        no-ten c10 = clear_next pieces t room 10 c10 (λ row. row)

        no-stamp : stamp_of (header_of t k) ≡ None → (header payload : List ℕ) → Split t header payload → Stamped header → ⊥
        no-stamp d header payload s r =
            let w : Timestamp (header_of t k) r.seconds r.microseconds = rw (← one_header t colon s) r.timestamp in
            nothing d (timestamp_all (header_of t k) w)

  -- 1 to 4
  pub judge : Answered pieces t room (Says pieces t) (parse_of pieces t room)
  unfolding Condition order_of parse_of frame_of frame_ascii frame_colon with_frame
  judge =
      refuse pieces t room (Says pieces t) (with_frame pieces t room) 1 (idle t) (T.refused 1) (cond (ltb 4096 (length t)) (T.refused 2) (frame_ascii t (first_high t))) refl (clear_starts pieces t room)
      (λ e. idle_is t e)
      (λ e. (
        (λ i. clash (idle_all t i) e),
        λ c2.
            refuse pieces t room (Says pieces t) (with_frame pieces t room) 2 (ltb 4096 (length t)) (T.refused 2) (frame_ascii t (first_high t)) refl c2
            (λ l. ltb-true 4096 (length t) l)
            (λ l. (
              (λ m. absurd (omega (arith, ltb-false 4096 (length t) l))),
              λ c3. ascii (first_high t) refl c3 e (ltb-false 4096 (length t) l),
            )),
      ))
    where
      last_colon : (f : Option ℕ) → last_byte 58 t ≡ f → first_high t ≡ None → Clear pieces t room 4 → idle t ≡ false → length t ≤ 4096 → Ok (with_frame pieces t room (frame_colon f))
      last_colon (Some k) q n c4 e l =
          judge_head (frame-colon t e l n q) (clear_next pieces t room 4 c4 (λ m. m (header_of t k) (payload_of t k) (split_is t q)))
      last_colon None q n c4 e l =
          Answered.refused 4 (record { holds = λ header payload s. let w = split_colon t header payload s in absurd (let z : ◌≡◌ {A = ℕ} 0 1 = cc in omega arith); first = c4 })

      ascii : (f : Option ℕ) → first_high t ≡ f → Clear pieces t room 3 → idle t ≡ false → length t ≤ 4096 → Ok (with_frame pieces t room (frame_ascii t f))
      ascii (Some k) q c3 e l = Answered.refused 3 (record { holds = high_some t q; first = c3 })
      ascii None q c3 e l = last_colon (last_byte 58 t) refl q (clear_next pieces t room 3 c3 (high_none t q)) e l
