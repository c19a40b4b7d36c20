-- The promises of the line, as an auditor looks for them: given 256 slots, accepted exactly when it belongs to the grammar; each number exactly when it
-- applies first, one reading, no second answer. All follow from `judge` and from each field having one value. Assumes nothing.
use Rattle.refusal.specs.Number.{number_of}
use Rattle.refusal.specs.Told.{told}
use Rattle.refusal.proofs.Told.{one_told}
use Rattle.std.specs.Prelude.{Err, None, Ok, Option, Result, Some}
use Rattle.refusal.specs.declared.Refusal.{Refusal}
use Prim.Native.Nat.{ℕ, ◌-◌, ◌^◌, ◌≤◌, ◌<◌}
use mathlib.Core.Path.{◌≡◌, refl, sym, ap, ◌∙◌}
use mathlib.Core.Bool.{Bool, true, false, cond}
use mathlib.Core.List.{List, ◌++◌}
use mathlib.Core.Logic.{◌↔◌}
use native.Mathlib.Omega.{arith}
use lib.Dec.{eqb}
use lib.ListN.{length, drop}
use borrow.Author.Tests.{eqb-true}
use Rattle.text.specs.Quote.{bytes}
use Rattle.text.specs.Told as T
use Rattle.text.proofs.Places.{by_order}
use Rattle.text.proofs.Numbers.{one_number}
use Rattle.text.proofs.Hexes.{one_hex}
use Rattle.entry.specs.declared.Entry.{Entry}
use Rattle.entry.specs.Entry.{EntryValue, part_of, value_of}
use Rattle.header.proofs.Dashes.{one_task, one_pid}
use Rattle.header.proofs.Cpus.{one_cpu}
use Rattle.header.proofs.Stamps.{one_timestamp}
use Rattle.header.proofs.Functions.{one_function}
use Rattle.pairs.proofs.LastPairs.{one_last_pair}
use Rattle.pairs.proofs.Slots.{one_data}
use Rattle.scan.specs.declared.Pieces.{Pieces}
use Rattle.scan.specs.Frame.{Split}
use Rattle.scan.specs.Parse.{parse_of, line_dwords, slots_by, Parsed}
use Rattle.scan.specs.Line.{KeyText, KeyDecimal, KeyHex, Optional, Dropped, Dwords, Line, Has, MoreThan, Condition, order_of, Applies}
use Rattle.scan.proofs.Splits.{split_colon, one_header, one_payload}
use Rattle.scan.proofs.Values.{dwords_part, dwords_whole}
use Rattle.scan.proofs.Chain.{one_order, past_order, Clear, Answered}
use Rattle.scan.proofs.Judged.{Says, judge}

-- two splits of a line are one
same_header : (t : List ℕ) {h p h' p' : List ℕ} → Split t h p → Split t h' p' → h ≡ h'
same_header t {h} {p} {h'} {p'} a b =
    let c = split_colon t h p a in
    one_header t c a ∙ sym (one_header t c b)

pub same_payload : (t : List ℕ) {h p h' p' : List ℕ} → Split t h p → Split t h' p' → p ≡ p'
same_payload t {h} {p} {h'} {p'} a b =
    let c = split_colon t h p a in
    one_payload t c a ∙ sym (one_payload t c b)

-- a key has one text, hence one number
one_text : (p key : List ℕ) {x y : List ℕ} → KeyText p key x → KeyText p key y → x ≡ y
one_text p key a b =
    let e = one_last_pair p key a.last b.last in
    a.is ∙ rw (e.0, e.1) (sym b.is)

one_decimal : (p key : List ℕ) (limit : ℕ) {v w : ℕ} → KeyDecimal p key limit v → KeyDecimal p key limit w → v ≡ w
one_decimal p key limit a b =
    let e = one_text p key a.found b.found in
    one_number 10 limit b.text (rw e at a.reads) b.reads

pub one_key_hex : (p key : List ℕ) (limit : ℕ) {v w : ℕ} → KeyHex p key limit v → KeyHex p key limit w → v ≡ w
one_key_hex p key limit a b =
    let e = one_text p key a.found b.found in
    one_hex limit (rw e at a.reads) b.reads

-- an optional field of one value is one
pub one_optional : (Reads : ℕ → Type 0) → ((v w : ℕ) → Reads v → Reads w → v ≡ w) → (a b : Option ℕ) → Optional Reads a → Optional Reads b → a ≡ b
one_optional R one (Some v) (Some w) x y = ap Some (one v w x y)
one_optional R one (Some v) None x y = absurd (y v x)
one_optional R one None (Some w) x y = absurd (x w y)
one_optional R one None None x y = refl

one_dropped : (p : List ℕ) (a b : Bool) → Dropped p a → Dropped p b → a ≡ b
one_dropped p true true x y = refl
one_dropped p true false x y = absurd (y x)
one_dropped p false true x y = absurd (x y)
one_dropped p false false x y = refl

-- entries by their fields
entry_by : List ℕ → ℕ → ℕ → ℕ → ℕ → List ℕ → ℕ → ℕ → Bool → ℕ → ℕ → Option ℕ → Option ℕ → Option ℕ → Option ℕ → Option ℕ → Option ℕ → Option ℕ → List ℕ → EntryValue
entry_by a b c d e f g h i j k l m n o p q r s =
    record { task = a; pid = b; cpu = c; seconds = d; microseconds = e; function = f; kind = g; size = h; dropped = i; domain = j; route = k; offset = l; code = m; len = n; port = o; config = p; seq = q; unplug = r; dwords = s }

-- each line has one reading
pub one_line_reading : (pieces : Pieces) (t : List ℕ) {v w : EntryValue} → Line pieces t v → Line pieces t w → v ≡ w
unfolding entry_by
one_line_reading pieces t {v} {w} a b =
    let h : a.header ≡ b.header = same_header t a.split b.split in
    let p : a.payload ≡ b.payload = same_payload t a.split b.split in
    let task = one_task b.header (rw h at a.task) b.task in
    let pid = one_pid b.header (rw h at a.pid) b.pid in
    let cpu = one_cpu b.header (rw h at a.cpu) b.cpu in
    let stamp = one_timestamp b.header (rw h at a.timestamp) b.timestamp in
    let function : v.function ≡ w.function = one_function b.header (rw h at a.function) b.function in
    let name = one_text b.payload (bytes "type") (rw p at a.kind.type) b.kind.type in
    let kind : v.kind ≡ w.kind = sym a.kind.is ∙ rw (name, function) b.kind.is in
    let size = one_decimal b.payload (bytes "size") (2 ^ 16 - 1) (rw p at a.size) b.size in
    let dropped = one_dropped b.payload v.dropped w.dropped (rw p at a.dropped) b.dropped in
    let domain = one_decimal b.payload (bytes "domain") (2 ^ 32 - 1) (rw p at a.domain) b.domain in
    let route = one_key_hex b.payload (bytes "route") (2 ^ 64 - 1) (rw p at a.route) b.route in
    let offset = one_optional (KeyHex b.payload (bytes "offset") (2 ^ 16 - 1)) (λ x y c d. one_key_hex b.payload (bytes "offset") (2 ^ 16 - 1) c d) v.offset w.offset (rw p at a.offset) b.offset in
    let code = one_optional (KeyHex b.payload (bytes "error") (2 ^ 8 - 1)) (λ x y c d. one_key_hex b.payload (bytes "error") (2 ^ 8 - 1) c d) v.code w.code (rw p at a.code) b.code in
    let len = one_optional (KeyDecimal b.payload (bytes "len") (2 ^ 16 - 1)) (λ x y c d. one_decimal b.payload (bytes "len") (2 ^ 16 - 1) c d) v.len w.len (rw p at a.len) b.len in
    let port = one_optional (KeyDecimal b.payload (bytes "port") (2 ^ 8 - 1)) (λ x y c d. one_decimal b.payload (bytes "port") (2 ^ 8 - 1) c d) v.port w.port (rw p at a.port) b.port in
    let config = one_optional (KeyHex b.payload (bytes "config") (2 ^ 8 - 1)) (λ x y c d. one_key_hex b.payload (bytes "config") (2 ^ 8 - 1) c d) v.config w.config (rw p at a.config) b.config in
    let seq = one_optional (KeyDecimal b.payload (bytes "seq") (2 ^ 8 - 1)) (λ x y c d. one_decimal b.payload (bytes "seq") (2 ^ 8 - 1) c d) v.seq w.seq (rw p at a.seq) b.seq in
    let unplug = one_optional (KeyHex b.payload (bytes "unplug") (2 ^ 8 - 1)) (λ x y c d. one_key_hex b.payload (bytes "unplug") (2 ^ 8 - 1) c d) v.unplug w.unplug (rw p at a.unplug) b.unplug in
    let text = one_text b.payload (bytes "data") (rw p at a.dwords.found) b.dwords.found in
    let dwords = one_data (rw text at a.dwords.brackets) b.dwords.brackets in
    let both : entry_by v.task v.pid v.cpu v.seconds v.microseconds v.function v.kind v.size v.dropped v.domain v.route v.offset v.code v.len v.port v.config v.seq v.unplug v.dwords ≡ entry_by w.task w.pid w.cpu w.seconds w.microseconds w.function w.kind w.size w.dropped w.domain w.route w.offset w.code w.len w.port w.config w.seq w.unplug w.dwords =
    rw (task, pid, cpu, stamp.0, stamp.1, function, kind, size, dropped, domain, route, offset, code, len, port, config, seq, unplug, dwords) in
    both

-- a line of the grammar meets no number's condition
line_clears : (pieces : Pieces) (t : List ℕ) {v : EntryValue} → Line pieces t v → (k : ℕ) → Condition pieces t 256 k → ⊥
unfolding Condition
line_clears pieces t {v} a k c =
    one (eqb k 1) _ _ a.busy
    (one (eqb k 2) _ _ (λ l. absurd (omega (arith, a.short)))
    (one (eqb k 3) _ _ a.ascii
    (one (eqb k 4) _ _ (λ m. m a.header a.payload a.split)
    (one (eqb k 5) _ _ (λ m. m a.header a.payload a.split v.task a.task)
    (one (eqb k 6) _ _ (λ m. m a.header a.payload a.split v.pid a.pid)
    (one (eqb k 7) _ _ (λ m. m a.header a.payload a.split v.cpu a.cpu)
    (one (eqb k 8) _ _ (λ m. m a.header a.payload a.split (record { seconds = v.seconds; microseconds = v.microseconds; timestamp = a.timestamp }))
    (one (eqb k 9) _ _ (λ m. m a.header a.payload a.split v.function a.function)
    (one (eqb k 11) _ _ (λ m. m a.header a.payload a.split a.kind.name a.kind.type)
    (one (eqb k 12) _ _ (λ m. m a.header a.payload a.split v.size a.size)
    (one (eqb k 13) _ _ (λ m. m a.header a.payload a.split v.domain a.domain)
    (one (eqb k 14) _ _ (λ m. m a.header a.payload a.split v.route a.route)
    (one (eqb k 15) _ _ (λ m. m a.header a.payload a.split v.dwords a.dwords)
    (one (eqb k 18) _ _ (λ r. a.good (rw (same_payload t r.split a.split) at r.there))
    (one (eqb k 16) _ _ many (one (eqb k 17) _ _ many (λ x. x)))))))))))))))))
    c
  where
    one : (b : Bool) (X Y : Type 0) → (X → ⊥) → (Y → ⊥) → cond b X Y → ⊥
    one true X Y f g x = f x
    one false X Y f g y = g y

    many : Has t (MoreThan 256) → ⊥
    many r =
        let p = same_payload t r.split a.split in
        let d : Dwords a.payload r.there.dwords = rw p at r.there.are in
        let text = one_text a.payload (bytes "data") d.found a.dwords.found in
        let same : r.there.dwords ≡ v.dwords = one_data (rw text at d.brackets) a.dwords.brackets in
        omega (arith, a.few, r.there.more, ap length same)

-- no number above 18 has a condition
pub past_table : (pieces : Pieces) (t : List ℕ) (room k : ℕ) → 19 ≤ k → Condition pieces t room k → ⊥
unfolding Condition
past_table pieces t room k l c =
    not_this 1 (omega arith) _ _ (not_this 2 (omega arith) _ _ (not_this 3 (omega arith) _ _ (not_this 4 (omega arith) _ _ (not_this 5 (omega arith) _ _
    (not_this 6 (omega arith) _ _ (not_this 7 (omega arith) _ _ (not_this 8 (omega arith) _ _ (not_this 9 (omega arith) _ _
    (not_this 11 (omega arith) _ _ (not_this 12 (omega arith) _ _ (not_this 13 (omega arith) _ _ (not_this 14 (omega arith) _ _ (not_this 15 (omega arith) _ _
    (not_this 18 (omega arith) _ _ (not_this 16 (omega arith) _ _ (not_this 17 (omega arith) _ _ (λ x. x)))))))))))))))))
    c
  where
    not_this : (j : ℕ) → j < k → (X Y : Type 0) → (Y → ⊥) → cond (eqb k j) X Y → ⊥
    not_this j h X Y g = go (eqb k j) refl
      where
        go : (b : Bool) → eqb k j ≡ b → cond b X Y → ⊥
        go true e x = absurd (omega (arith, eqb-true k j e))
        go false e y = g y

-- an entry says what the line says
pub line_entry_is : (pieces : Pieces) (t : List ℕ) (room : ℕ) {e : Entry} → parse_of pieces t room ≡ T.is e → Line pieces t (value_of e t (line_dwords t))
line_entry_is pieces t room {e} q = go (parse_of pieces t room) (judge pieces t room) q
  where
    go : (r : T.Told Entry) → Answered pieces t room (Says pieces t) r → r ≡ T.is e → Line pieces t (value_of e t (line_dwords t))
    go r (Answered.refused k a) n = absurd (let z : ◌≡◌ {A = ℕ} 0 1 = cc in omega arith)
    go r (Answered.entry f c s) n = let same : f ≡ e = cc in rw same at s.line

-- given 256 slots, a line of the grammar is accepted, and its entry is the grammar's
pub line_entry_all : (pieces : Pieces) (t : List ℕ) {v : EntryValue} → Line pieces t v → (e : Entry) × (parse_of pieces t 256 ≡ T.is e) × (value_of e t (line_dwords t) ≡ v)
line_entry_all pieces t {v} a = go (parse_of pieces t 256) (judge pieces t 256) refl
  where
    go : (r : T.Told Entry) → Answered pieces t 256 (Says pieces t) r → parse_of pieces t 256 ≡ r → (e : Entry) × (parse_of pieces t 256 ≡ T.is e) × (value_of e t (line_dwords t) ≡ v)
    go r (Answered.refused k p) n = absurd (line_clears pieces t a k p.holds)
    go r (Answered.entry e c s) n = (e, n, one_line_reading pieces t s.line a)

-- given 256 slots, a text is accepted as a line exactly when it belongs to the line grammar
pub line_accepted_exactly : (pieces : Pieces) (t : List ℕ) → ((e : Entry) × (parse_of pieces t 256 ≡ T.is e)) ↔ ((v : EntryValue) × Line pieces t v)
line_accepted_exactly pieces t =
    ((λ x. (value_of x.0 t (line_dwords t), line_entry_is pieces t 256 x.1)), (λ y. let w = line_entry_all pieces t y.1 in (w.0, w.1)))

-- a number is answered exactly when its condition holds and no earlier one does
pub line_number_exactly : (pieces : Pieces) (t : List ℕ) (room k : ℕ) → (parse_of pieces t room ≡ T.refused k) ↔ Applies pieces t room k
line_number_exactly pieces t room k = (λ q. mp (parse_of pieces t room) (judge pieces t room) q, λ a. mpr (parse_of pieces t room) (judge pieces t room) a)
  where
    mp : (r : T.Told Entry) → Answered pieces t room (Says pieces t) r → r ≡ T.refused k → Applies pieces t room k
    mp r (Answered.refused j a) n = let same : j ≡ k = cc in rw same at a
    mp r (Answered.entry e c s) n = absurd (let z : ◌≡◌ {A = ℕ} 0 1 = cc in omega arith)

    mpr : (r : T.Told Entry) → Answered pieces t room (Says pieces t) r → Applies pieces t room k → r ≡ T.refused k
    mpr r (Answered.refused j b) a =
        by_order (order_of j) (order_of k) (λ l. absurd (a.first j l b.holds)) (λ e. ap T.refused (one_order j k e)) (λ l. absurd (b.first k l a.holds))
    mpr r (Answered.entry e c s) a = absurd (no_number a.holds c)
      where
        no_number : Condition pieces t room k → Clear pieces t room 19 → ⊥
        no_number h clear = by_order (order_of k) 19 (λ l. clear k l h) (λ e. above (omega arith) h) (λ l. above (omega arith) h)
          where
            above : 19 ≤ order_of k → Condition pieces t room k → ⊥
            above l x = past_table pieces t room k (past_order k l) x

-- 10 is the number of no text: no row of the table has it, and what is answered is a row
pub number_10_never : (pieces : Pieces) (t : List ℕ) (room : ℕ) → parse_of pieces t room ≡ T.refused 10 → ⊥
unfolding Condition
number_10_never pieces t room q = ((line_number_exactly pieces t room 10).0 q).holds

-- the same through the number that is told, which is 0 for an entry alone
pub line_number_is : (pieces : Pieces) (t : List ℕ) (room k : ℕ) → 0 < k → (T.number_in (parse_of pieces t room) ≡ k) ↔ Applies pieces t room k
line_number_is pieces t room k positive = (λ q. (line_number_exactly pieces t room k).0 (mp (parse_of pieces t room) q), λ a. ap T.number_in ((line_number_exactly pieces t room k).1 a))
  where
    mp : (r : T.Told Entry) → T.number_in r ≡ k → r ≡ T.refused k
    mp (T.is e) q = absurd (omega arith)
    mp T.absent q = absurd (omega arith)
    mp (T.refused j) q = ap T.refused q

entry_says : (pieces : Pieces) (t : List ℕ) (room : ℕ) {e : Entry} → parse_of pieces t room ≡ T.is e → Says pieces t e
entry_says pieces t room {e} q = go (parse_of pieces t room) (judge pieces t room) q
  where
    go : (r : T.Told Entry) → Answered pieces t room (Says pieces t) r → r ≡ T.is e → Says pieces t e
    go r (Answered.refused k a) n = absurd (let z : ◌≡◌ {A = ℕ} 0 1 = cc in omega arith)
    go r (Answered.entry f c s) n = let same : f ≡ e = cc in rw same at s

-- what a call of `parse` leaves behind: its entry says what the line says, and the slots hold its dwords from the first, the rest as found
pub record Handed (pieces : Pieces) (t out exit : List ℕ) (e : Entry) : Type 0 where
  pub line : Line pieces t (value_of e t exit)
  pub count : e.dwords ≡ length (value_of e t exit).dwords
  pub slots : exit ≡ (value_of e t exit).dwords ++ drop e.dwords out

pub parsed_entry : (pieces : Pieces) (t out : List ℕ) {exit : List ℕ} {e : Entry} → Parsed pieces t out exit (Ok e) → Handed pieces t out exit e
unfolding slots_by value_of
parsed_entry pieces t out {exit} {e} p =
    let s : Says pieces t e = entry_says pieces t (length out) (sym p.answer) in
    let whole : part_of (line_dwords t) 0 e.dwords ≡ line_dwords t = rw s.count (dwords_whole (line_dwords t)) in
    let now : part_of exit 0 e.dwords ≡ line_dwords t = rw (p.slots, s.count) (dwords_part (line_dwords t) out) in
    record {
      line = rw now (rw whole at s.line);
      count = rw now s.count;
      slots = rw (now, s.count) p.slots;
    }

-- a refusal is the first number that applies, and no slot is touched
pub parsed_refused : (pieces : Pieces) (t out : List ℕ) {exit : List ℕ} {e : Refusal} → Parsed pieces t out exit (Err e) → Applies pieces t (length out) (number_of e) × (exit ≡ out)
unfolding slots_by
parsed_refused pieces t out p = ((line_number_exactly pieces t (length out) _).0 (sym p.answer), p.slots)

-- no second answer satisfies the contract, slots included
pub no_second_answer : (pieces : Pieces) (t out : List ℕ) {exit exit' : List ℕ} {r r' : Result Entry Refusal} → Parsed pieces t out exit r → Parsed pieces t out exit' r' → (r ≡ r') × (exit ≡ exit')
no_second_answer pieces t out {exit} {exit'} {r} {r'} a b =
    let same : told r ≡ told r' = a.answer ∙ sym b.answer in
    (one_told r r' same, a.slots ∙ rw same (sym b.slots))
