-- A line's numbers, as they are met: each key's text lies in the payload, the pieces are met as the data is cut, and what was found so far with
-- what is found from here on is all. Assumes nothing.
use Rattle.refusal.specs.Told.{told, told_maybe}
use Rattle.std.specs.Prelude.{Err, None, Ok, Option, Result, Some}
use Rattle.refusal.specs.declared.Refusal.{Refusal}
use Rattle.text.specs.declared.number.BadNumber.{BadNumber}
use Prim.Native.Nat.{ℕ, ◌+◌, ◌-◌, ◌^◌, ◌≤◌, ◌<◌}
use mathlib.Core.Path.{◌≡◌, refl, sym, ap, ◌∙◌}
use mathlib.Core.List.{List, [], ◌++◌, append-nil, append_assoc}
use native.Mathlib.Omega.{arith}
use lib.ListN.{length, drop, length-drop}
use lib.Seq.{length-take-le}
use Rattle.text.specs.Told.{Told, is, absent, refused, and_then}
use Rattle.text.specs.Number.{hex_of, Means}
use Rattle.text.proofs.Hexes.{hex_means}
use Rattle.pairs.specs.declared.pair.Span.{Span}
use Rattle.pairs.specs.Pair.{part, last_pair}
use Rattle.pairs.specs.Data.{cut, EndsPiece}
use Rattle.pairs.proofs.LastPairs.{last_within}
use Rattle.pairs.proofs.Cuts.{cut_last, cut_next}
use Rattle.scan.specs.Frame.{frame_of}
use Rattle.scan.proofs.Frames.{frame_passed}
use Rattle.reasons.specs.declared.Key.{Key}
use Rattle.reasons.specs.declared.HexText.{HexText}
use Rattle.reasons.specs.declared.payload.Place.{Place}
use Rattle.reasons.specs.Reasons.{name_of, limit_of, payload_from, payload_place, said_at, key_in, data_span, PayloadAt, DataAt}
use Rattle.why_rows.specs.declared.What.TheVariants as W
use Rattle.why_rows.specs.declared.tally.Counts.{Counts}
use Rattle.why_rows.specs.Tally.{up, with_line, with_payload}
use Rattle.why.specs.declared.asking.Asking.{Asking}
use Rattle.why.specs.Finding.{Finding, unread, asked, key_found, pieces_found, data_found, found_in, found_at, findings, ReadingWithin}
use Rattle.why.specs.Saying.{SaidAll, rows_of, tallied, line_counts, Gone, LineSaid}
use Rattle.why.proofs.Chains.{gone_none, gone_same, gone_then}

-- a bad digit is in its text
pub bad_within : (limit : ℕ) (s : List ℕ) {r : Result ℕ BadNumber} → r ≡ hex_of limit s → ReadingWithin r (length s)
bad_within limit s {r} e k q = let m : Means limit s (Err (BadNumber.BadDigit k)) = rw (sym e ∙ q) at (hex_means limit s) in m.first.within

-- how many bytes a part has
part_size : (s : List ℕ) {a b : ℕ} → a ≤ b → b ≤ length s → length (part s a b) ≡ b - a
part_size s {a} {b} h k = length-take-le (b - a) (drop a s) (omega (arith, length-drop a s))

pub part_short : (s : List ℕ) {a b : ℕ} → length s ≤ 4096 → a ≤ b → b ≤ length s → length (part s a b) ≤ 4096
part_short s h k l = omega (arith, part_size s k l)

-- ---- keys

-- a key's text lies in the payload
pub record HexIn (p : List ℕ) (h : HexText) : Type 0 where
  pub up : h.from ≤ h.to
  pub within : h.to ≤ length p
  pub read : ReadingWithin h.reading (length (part p h.from h.to))

said_in : (limit : ℕ) (p : List ℕ) (o : Option Span) → ((v : Span) → o ≡ Some v → (v.from ≤ v.to) × (v.to ≤ length p)) → {h : HexText} → said_at limit 0 p o ≡ is h → HexIn p h
unfolding said_at
said_in limit p (Some v) w {h} e =
    let x : 0 + v.from ≡ v.from = omega arith in
    let y : 0 + v.to ≡ v.to = omega arith in
    let q₀ : ◌≡◌ {A = HexText} (record { from = 0 + v.from; to = 0 + v.to; reading = hex_of limit (part p v.from v.to) }) h = cc in
    let q : ◌≡◌ {A = HexText} (record { from = v.from; to = v.to; reading = hex_of limit (part p v.from v.to) }) h = rw (x, y) at q₀ in
    rw (← q) (record { up = (w v refl).0; within = (w v refl).1; read = bad_within limit (part p v.from v.to) refl })
said_in limit p None w e = absurd (let z : ◌≡◌ {A = ℕ} 0 1 = cc in omega arith)

module _ (p : List ℕ) (key : Key) {r : Option HexText} (said : told_maybe (Ok r) ≡ key_in p 0 key) where
  pub key_text : {h : HexText} → r ≡ Some h → HexIn p h
  unfolding key_in
  key_text {h} e =
      said_in (limit_of key) p (last_pair p (name_of key))
      (λ v q. let w = last_within p (name_of key) q in (omega (arith, w.0), w.1)) (sym said ∙ ap (λ (o : Option HexText). told_maybe (Ok o)) e)

  pub key_found_lem : {h : HexText} → r ≡ Some h → unread (W.Key key) (part p h.from h.to) h.reading ≡ key_found p key
  unfolding key_found asked
  key_found_lem e = rw (← said, e)

  pub key_absent : r ≡ None → [] ≡ key_found p key
  unfolding key_found asked
  key_absent e = rw (← said, e)

-- ---- the data and its pieces

pub data_there : (p : List ℕ) {r : Option Span} {w : Span} → DataAt p r → r ≡ Some w → pieces_found 0 (cut (part p w.from w.to)) ≡ data_found p (data_span p)
unfolding data_found
data_there p d e = rw (← d.is, e)

pub data_missing : (p : List ℕ) {r : Option Span} → DataAt p r → r ≡ None → [] ≡ data_found p (data_span p)
unfolding data_found
data_missing p d e = rw (← d.is, e)

module _ (inner : List ℕ) (d : Asking) where
  -- what the pieces before this one gave, and that with the rest it is all
  pub record Walk (said : Asking) (i at : ℕ) : Type 0 where
    pub within : at ≤ length inner
    pub few : i ≤ at
    pub found : List Finding
    pub gone : Gone d found said
    pub rest : pieces_found 0 (cut inner) ≡ found ++ pieces_found i (cut (drop at inner))

  pub walk_starts : Walk d 0 0
  walk_starts = record { within = omega arith; few = omega arith; found = []; gone = gone_none; rest = refl }

  module _ {said r : Asking} {i at to : ℕ} {reading : Result ℕ BadNumber} (w : Walk said i at) (e : EndsPiece inner at to) (is_read : reading ≡ hex_of (2 ^ 32 - 1) (part inner at to)) (now : Gone said (unread (W.Piece i) (part inner at to) reading) r) where
    this : List Finding
    this = unread (W.Piece i) (part inner at to) (hex_of (2 ^ 32 - 1) (part inner at to))

    now_this : Gone said this r
    unfolding this
    now_this = rw (← is_read) now

    pub walk_ends : to ≡ length inner → Gone d (pieces_found 0 (cut inner)) r
    unfolding pieces_found this
    walk_ends h =
        let one : pieces_found i (cut (drop at inner)) ≡ this = ap (pieces_found i) (cut_last inner w.within e.is h) ∙ append-nil this in
        gone_same (sym (w.rest ∙ ap (λ (l : List Finding). w.found ++ l) one)) (gone_then w.gone now_this)

    pub walk_steps : (to ≡ length inner → ⊥) → Walk r (i + 1) (to + 2)
    unfolding pieces_found this
    walk_steps open-still =
        let short : to < length inner = omega (arith, e.within, open-still) in
        let one : pieces_found i (cut (drop at inner)) ≡ this ++ pieces_found (i + 1) (cut (drop (to + 2) inner)) = ap (pieces_found i) (cut_next inner w.within e.is short) in
        record {
          within = e.more short;
          few = omega (arith, w.few, e.up);
          found = w.found ++ this;
          gone = gone_then w.gone now_this;
          rest = w.rest ∙ ap (λ (l : List Finding). w.found ++ l) one ∙ sym (append_assoc w.found this (pieces_found (i + 1) (cut (drop (to + 2) inner))));
        }

-- ---- the whole line

module _ (t : List ℕ) where
  -- a line with a payload is not too long
  pub line_short : {r : Result Place Refusal} {place : Place} → PayloadAt t r → r ≡ Ok place → length t ≤ 4096
  unfolding payload_place
  line_short {r} {place} p e = go (frame_of t) refl (sym (ap told e) ∙ p.is)
    where
      go : (f : Told ℕ) → frame_of t ≡ f → is place ≡ and_then f (λ (colon : ℕ). is (payload_from t colon)) → length t ≤ 4096
      go (is k) q x = (frame_passed t q).1
      go absent q x = absurd (let z : ◌≡◌ {A = ℕ} 0 1 = cc in omega arith)
      go (refused k) q x = absurd (let z : ◌≡◌ {A = ℕ} 0 1 = cc in omega arith)

  module _ {d c : Asking} (same : c.sink ≡ d.sink) where
    pub line_there : {r : Asking} {a : Result Place Refusal} {place : Place} → PayloadAt t a → a ≡ Ok place → c.counts ≡ with_payload (with_line d.counts)
        → Gone c (found_in (part t place.from place.to)) r → LineSaid t d r
    unfolding findings found_at line_counts with_line with_payload
    line_there {a = a} {place = place} p e q g =
        let at_place : payload_place t ≡ is place = sym p.is ∙ ap told e in
        let number : c.counts.lines ≡ up d.counts.lines = ap (λ (x : Counts). x.lines) q in
        record {
          says = rw (at_place, ← number, ← same) g.says;
          counts = rw (at_place, ← q) g.counts;
        }

    pub line_refused : {a : Result Place Refusal} {k : Refusal} → PayloadAt t a → a ≡ Err k → c.counts ≡ with_line d.counts → LineSaid t d c
    unfolding findings found_at line_counts rows_of tallied
    line_refused p e q =
        let none : payload_place t ≡ refused _ = sym p.is ∙ ap told e in
        record { says = rw none (SaidAll.none same); counts = rw none q }
