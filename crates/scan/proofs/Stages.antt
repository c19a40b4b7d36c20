-- The stages of the reading: at each way out the answer is the definition's, and the slots hold the dwords or are as found.
-- Assumes nothing.
use Rattle.refusal.specs.Number.{number_of}
use Rattle.refusal.specs.Told.{told}
use Rattle.std.specs.Prelude.{Err, None, Ok, Option, Result, Some}
use Rattle.std.specs.Option.{ok_or}
use Rattle.refusal.specs.declared.Refusal.{Refusal}
use Rattle.entry.specs.declared.Entry.{Entry}
use Prim.Native.Nat.{ℕ, ◌+◌, ◌^◌, ◌≤◌, ◌<◌}
use mathlib.Core.Path.{◌≡◌, refl, sym, ap, ◌∙◌}
use mathlib.Core.Bool.{Bool, true, false}
use mathlib.Core.List.{List}
use native.Mathlib.Omega.{arith}
use lib.ListN.{length, take, drop, length-take}
use borrow.Author.Tests.{lt-ltb, le-ltb}
use Rattle.text.specs.Told as T
use Rattle.header.specs.Dash.{task_of, pid_of}
use Rattle.header.specs.Cpu.{cpu_of}
use Rattle.header.specs.Stamp.{stamp_of}
use Rattle.header.specs.Function.{function_of}
use Rattle.text.specs.Quote.{bytes}
use Rattle.pairs.specs.Pair.{part, last_pair, span}
use Rattle.pairs.specs.Data.{inside_of, data_in, data_of, dwords_of, bad_of, bad_in, bad_data, filled}
use Rattle.text.proofs.Stripping.{strip_size}
use Rattle.header.proofs.Functions.{function_within}
use Rattle.scan.specs.declared.head.Head.{Head}
use Rattle.scan.specs.declared.body.Body.{Body}
use Rattle.scan.specs.declared.Pieces.{Pieces}
use Rattle.scan.specs.Need.{need}
use Rattle.scan.specs.Frame.{frame_of}
use Rattle.scan.specs.Head.{head_of, head6, head7, head8, head9, head_got}
use Rattle.scan.specs.Body.{text_at, body_of}
use Rattle.scan.specs.Dwords.{payload_data, payload_bad, refuses, data_answer, data_slots, DataRead}
use Rattle.scan.specs.Parse.{header_of, payload_of, start_of, entry_of, with_data, with_body, payload_answer, with_head, parted_answer, with_frame, parse_of, dwords_by, line_dwords, slots_by, Parsed, PartedRead, PayloadRead}

-- the dwords of a payload, as code finds them
module _ (pieces : Pieces) (p out : List ℕ) where
  pub data_missing : last_pair p (bytes "data") ≡ None → DataRead pieces p out out (Err Refusal.NoData)
  unfolding data_answer payload_data text_at data_slots
  data_missing e = record { answer = rw e; slots = refl }

  module _ {a b : ℕ} (found : last_pair p (bytes "data") ≡ span a b) where
    pub data_unbracketed : inside_of (part p a b) ≡ None → DataRead pieces p out out (Err Refusal.NoData)
    unfolding data_answer payload_data text_at data_slots data_of data_in
    data_unbracketed e = record { answer = rw (found, e); slots = refl }

    pub data_there : {x y : ℕ} → inside_of (part p a b) ≡ span x y → payload_data p ≡ Some (dwords_of (part (part p a b) x y))
    unfolding payload_data text_at data_of data_in
    data_there e = rw (found, e)

    -- what the choice says of its pieces
    pub bad_there : {x y : ℕ} {bad r : Bool} → inside_of (part p a b) ≡ span x y → bad ≡ bad_of (part (part p a b) x y) → r ≡ refuses pieces bad → refuses pieces (payload_bad p) ≡ r
    unfolding payload_bad text_at bad_data bad_in
    bad_there e q h = rw (found, e, ← q) (sym h)

  module _ (ds : List ℕ) (there : payload_data p ≡ Some ds) where
    pub data_bad : refuses pieces (payload_bad p) ≡ true → DataRead pieces p out out (Err Refusal.BadPiece)
    unfolding data_answer data_slots
    data_bad b = record { answer = rw (there, b); slots = refl }

    module _ (good : refuses pieces (payload_bad p) ≡ false) where
      pub data-many : 256 < length ds → DataRead pieces p out out (Err Refusal.ManyDwords)
      unfolding data_answer data_slots
      data-many h = record { answer = rw (there, good, lt-ltb 256 (length ds) h); slots = refl }

      pub data-crowded : length ds ≤ 256 → length out < length ds → DataRead pieces p out out (Err Refusal.FewSlots)
      unfolding data_answer data_slots
      data-crowded h l = record { answer = rw (there, good, le-ltb 256 (length ds) h, lt-ltb (length out) (length ds) l); slots = refl }

      pub data-got : (exit : List ℕ) (n : ℕ) → n ≡ length ds → length ds ≤ 256 → length ds ≤ length out → exit ≡ filled ds out → DataRead pieces p out exit (Ok n)
      unfolding data_answer data_slots
      data-got exit n q h l e =
          record { answer = rw (there, good, le-ltb 256 (length ds) h, le-ltb (length out) (length ds) l, q); slots = rw there e }

-- header and payload together
module _ (pieces : Pieces) (header : List ℕ) (start : ℕ) (head : Head) (payload out : List ℕ) where
  pub payload_refused : {k : Refusal} {x : Result Entry Refusal} → body_of payload (drop head.function header) ≡ T.refused (number_of k) → x ≡ Err k → PayloadRead pieces header start head payload out out x
  unfolding payload_answer with_body slots_by
  payload_refused e q = rw q (record { answer = rw e; slots = refl })

  module _ {body : Body} (got : body_of payload (drop head.function header) ≡ T.is body) {exit : List ℕ} {r : Result ℕ Refusal} (read : DataRead pieces payload out exit r) where
    pub data_refused : {k : Refusal} {x : Result Entry Refusal} → r ≡ Err k → x ≡ Err k → PayloadRead pieces header start head payload out exit x
    unfolding payload_answer with_body with_data slots_by data_slots
    data_refused e q =
        let a : data_answer pieces payload (length out) ≡ T.refused _ = sym read.answer ∙ ap told e in
        rw q (record { answer = rw (got, a); slots = read.slots ∙ rw e })

    pub payload_read : {n : ℕ} {x : _} → r ≡ Ok n → x ≡ entry_of start (length header) head body n → PayloadRead pieces header start head payload out exit (Ok x)
    unfolding payload_answer with_body with_data slots_by data_slots
    payload_read e q =
        let a : data_answer pieces payload (length out) ≡ T.is _ = sym read.answer ∙ ap told e in
        record { answer = rw (got, a, q); slots = read.slots ∙ rw e }

-- a line parted at a colon
module _ (pieces : Pieces) (t : List ℕ) (colon : ℕ) (out : List ℕ) where
  pub parted_refused : {k : Refusal} {x : Result Entry Refusal} → head_of (header_of t colon) ≡ T.refused (number_of k) → x ≡ Err k → PartedRead pieces t colon out out x
  unfolding parted_answer with_head slots_by
  parted_refused e q = rw q (record { answer = rw e; slots = refl })

  pub parted_read : {head : Head} {exit : List ℕ} {r : Result Entry Refusal} → head_of (header_of t colon) ≡ T.is head → PayloadRead pieces (header_of t colon) (start_of t colon) head (payload_of t colon) out exit r → PartedRead pieces t colon out exit r
  unfolding parted_answer with_head
  parted_read e p = record { answer = p.answer ∙ rw e; slots = p.slots }

-- a line
module _ (pieces : Pieces) (t out : List ℕ) where
  pub line_refused : {k : Refusal} {x : Result Entry Refusal} → frame_of t ≡ T.refused (number_of k) → x ≡ Err k → Parsed pieces t out out x
  unfolding parse_of with_frame slots_by
  line_refused e q = rw q (record { answer = rw e; slots = refl })

  pub line_read : {k : ℕ} {exit : List ℕ} {r : Result Entry Refusal} → frame_of t ≡ T.is k → PartedRead pieces t k out exit r → Parsed pieces t out exit r
  unfolding parse_of with_frame line_dwords dwords_by
  line_read e p = record { answer = p.answer ∙ rw e; slots = p.slots ∙ rw e }

-- what `ok_or` went on with
pub was_there : {A E : Type 0} (o : Option A) (e : E) {r : Result A E} {a : A} → r ≡ ok_or o e → r ≡ Ok a → o ≡ Some a
was_there (Some b) e p q = cc
was_there None e p q = absurd (let z : ◌≡◌ {A = ℕ} 0 1 = cc in omega arith)

-- and what it refused
pub was_missing : {A E : Type 0} (o : Option A) (e : E) {r : Result A E} {x : E} → r ≡ ok_or o e → r ≡ Err x → (o ≡ None) × (x ≡ e)
was_missing (Some b) e p q = absurd (let z : ◌≡◌ {A = ℕ} 0 1 = cc in omega arith)
was_missing None e p q = (refl, cc)

-- what a need went on with
pub need_goes_on : {X B : Type 0} (o : Option X) (x : B) (f : X → B) {y : B} → need x o f ≡ y → (x ≡ y → ⊥) → (a : X) × (o ≡ Some a) × (f a ≡ y)
need_goes_on None x f e n = absurd (n e)
need_goes_on (Some a) x f e n = (a, refl, e)

unlike : {k : ℕ} {head : Head} → T.refused k ≡ T.is head → ⊥
unlike e = let z : ◌≡◌ {A = ℕ} 0 1 = cc in omega arith

same_function : {x y : Head} → T.is x ≡ T.is y → x.function ≡ y.function
same_function {x} {y} q = let e : x ≡ y = cc in ap (λ (z : Head). z.function) e

-- a header that was read has its function where it says
pub head_function : (h : List ℕ) {head : Head} → head_of h ≡ T.is head → function_of h ≡ Some head.function
unfolding head_of
head_function h {head} e =
    let a = need_goes_on (task_of h) (T.refused 5) (head6 h) e unlike in
    let b = need_goes_on (pid_of h) (T.refused 6) (head7 h a.0) a.2 unlike in
    let c = need_goes_on (cpu_of h) (T.refused 7) (head8 h a.0 b.0) b.2 unlike in
    let d = need_goes_on (stamp_of h) (T.refused 8) (head9 h a.0 b.0 c.0) c.2 unlike in
    let f = need_goes_on (function_of h) (T.refused 9) (head_got a.0 b.0 c.0 d.0) d.2 unlike in
    f.1 ∙ ap Some (same_function f.2)

-- the same header, start and payload under other names
pub payload_same : {pieces : Pieces} {h h' p p' out exit : List ℕ} {s s' : ℕ} {head : Head} {r : Result Entry Refusal} → h ≡ h' → s ≡ s' → p ≡ p' → PayloadRead pieces h s head p out exit r → PayloadRead pieces h' s' head p' out exit r
payload_same a b c q = rw (← a, ← b, ← c) q

-- what a header that was read allows: its function lies in it, and the line has its places
pub parted_allows : (t : List ℕ) (colon : ℕ) {head : Head} {h : List ℕ} {s : ℕ} → h ≡ header_of t colon → s ≡ start_of t colon → length t < 2 ^ 64 → head_of h ≡ T.is head → (head.function ≤ length h) × (s + length h < 2 ^ 64)
parted_allows t colon {head} {h} {s} a b fits e =
    let f = function_within h (head_function h e) in
    let size : s + length h ≤ length (take colon t) = rw (b, a) (strip_size (take colon t)) in
    (omega arith, omega (arith, length-take colon t))
