-- Spans and what they say: a span that was found lies in its text, so it has a place in the line, and each call's answer is the definition's
-- by the case it took. Assumes nothing.
use Rattle.std.specs.Prelude.{Err, Ok, Result, None, Option, Some}
use Rattle.text.specs.declared.number.BadNumber.{BadNumber}
use Prim.Native.Nat.{ℕ, ◌+◌, ◌-◌, ◌^◌, ◌≤◌, ◌<◌}
use mathlib.Core.Path.{◌≡◌, refl, sym}
use mathlib.Core.List.{List}
use native.Mathlib.Omega.{arith}
use lib.ListN.{length, drop, length-drop}
use Rattle.text.specs.Told.{is, absent, refused}
use Rattle.text.specs.Class.{is_blank}
use Rattle.text.specs.Number.{hex_of}
use Rattle.text.specs.Quote.{bytes}
use Rattle.text.specs.Run.{run_end, stripped}
use Rattle.text.proofs.Stripping.{strip_size}
use Rattle.pairs.specs.declared.pair.Span.{Span}
use Rattle.pairs.specs.Pair.{part, last_pair, ValueAt, span}
use Rattle.refusal.specs.declared.Refusal.{Refusal}
use Rattle.refusal.specs.Number.{number_of}
use Rattle.pairs.specs.Data.{Bracketed, NthPiece}
use Rattle.scan.specs.Frame.{frame_of}
use Rattle.reasons.specs.declared.Key.{Key}
use Rattle.reasons.specs.declared.payload.Place.{Place}
use Rattle.reasons.specs.Reasons.{name_of, limit_of, payload_from, payload_place, said_at, moved, brackets_at, data_span, piece_at, key_in, piece_in, key_answer, piece_answer, SpanWithin, PlacedAt, PayloadAt, DataAt}

-- ---- spans within their text

pub pair_within : {s key : List ℕ} {r : Option Span} → ValueAt s key r → SpanWithin s r
pair_within {r = Some w} v = (omega (arith, v.within.0), v.within.1)
pair_within {r = None} v = tt

-- ---- what a span says

module _ (limit start : ℕ) (s : List ℕ) where
  pub said_some : {w : Option Span} {a b : ℕ} → w ≡ span a b → {r : Result ℕ BadNumber} → r ≡ hex_of limit (part s a b)
      → is (record { from = start + a; to = start + b; reading = r }) ≡ said_at limit start s w
  unfolding said_at
  said_some e q = rw (e, q)

  pub said_none : {w : Option Span} → w ≡ None → absent ≡ said_at limit start s w
  unfolding said_at
  said_none e = rw e

-- ---- keys

pub says_key : (p : List ℕ) (start : ℕ) {key k : Key} {r : Option Span} → key ≡ k → r ≡ last_pair p (name_of k) → said_at (limit_of k) start p r ≡ key_in p start key
unfolding key_in
says_key p start e q = rw (e, q)

-- ---- the data's span, and its pieces

module _ (p : List ℕ) where
  pub data_inside : {a b x y : ℕ} {value : List ℕ} → ValueAt p (bytes "data") (span a b) → value ≡ part p a b → length value ≡ b - a → Bracketed value (span x y) → DataAt p (span (a + x) (a + y))
  unfolding data_span brackets_at moved
  data_inside {a} {b} {x} {y} {value} v e size r =
      let w = v.within in
      let i = r.within in
      record {
        is = sym (rw (← v.is, ← e, ← r.is));
        within = (omega (arith, i.0), omega (arith, i.1, w.0, w.1, size));
      }

  pub data_not_inside : {a b : ℕ} {value : List ℕ} → ValueAt p (bytes "data") (span a b) → value ≡ part p a b → Bracketed value None → DataAt p None
  unfolding data_span brackets_at moved
  data_not_inside {a} {b} v e r =
      record {
        is = sym (rw (← v.is, ← e, ← r.is));
        within = tt;
      }

  pub data_missing : ValueAt p (bytes "data") None → DataAt p None
  unfolding data_span brackets_at
  data_missing v =
      record {
        is = sym (rw (← v.is));
        within = tt;
      }

  pub says_piece : (start i : ℕ) {a b : ℕ} {r : Option Span} → DataAt p (span a b) → NthPiece (part p a b) i r
      → said_at (2 ^ 32 - 1) (start + a) (part p a b) r ≡ piece_in p start i
  unfolding piece_in piece_at
  says_piece start i d n = rw (← d.is, n.is)

  pub says_no_piece : (start i : ℕ) → DataAt p None → absent ≡ piece_in p start i
  unfolding piece_in piece_at
  says_no_piece start i d = rw (← d.is)

-- ---- the payload's place

module _ (t : List ℕ) {colon : ℕ} where
  pub placed : {blanks : ℕ} {payload : List ℕ} → colon < length t → blanks ≡ run_end is_blank (drop (colon + 1) t) 0 → payload ≡ stripped (drop (colon + 1) t)
      → PlacedAt t colon (record { from = colon + 1 + blanks; to = colon + 1 + blanks + length payload })
  unfolding payload_from
  placed {blanks} {payload} h b p =
      record {
        is = rw (b, p);
        up = omega arith;
        within = omega (arith, fits h b p);
      }
    where
      fits : colon < length t → blanks ≡ run_end is_blank (drop (colon + 1) t) 0 → payload ≡ stripped (drop (colon + 1) t) → colon + 1 + (blanks + length payload) ≤ length t
      fits h b p = rw (b, p) (omega (arith, strip_size (drop (colon + 1) t), length-drop (colon + 1) t))

  pub payload_there : {place : Place} → frame_of t ≡ is colon → PlacedAt t colon place → PayloadAt t (Ok place)
  unfolding payload_place
  payload_there {place} f p =
      record { is = rw (f, p.is); within = (p.up, p.within) }

pub payload_refused : (t : List ℕ) {k : Refusal} → frame_of t ≡ refused (number_of k) → PayloadAt t (Err k)
unfolding payload_place
payload_refused t f =
    record { is = rw f; within = tt }

-- ---- the whole line

module _ (t : List ℕ) where
  pub key_there : {place : Place} (key : Key) → PayloadAt t (Ok place) → key_in (part t place.from place.to) place.from key ≡ key_answer t key
  unfolding key_answer
  key_there key p = rw (← p.is)

  pub key_refused : {k : Refusal} (key : Key) → PayloadAt t (Err k) → refused (number_of k) ≡ key_answer t key
  unfolding key_answer
  key_refused key p = rw (← p.is)

  pub piece_there : {place : Place} (i : ℕ) → PayloadAt t (Ok place) → piece_in (part t place.from place.to) place.from i ≡ piece_answer t i
  unfolding piece_answer
  piece_there i p = rw (← p.is)

  pub piece_refused : {k : Refusal} (i : ℕ) → PayloadAt t (Err k) → refused (number_of k) ≡ piece_answer t i
  unfolding piece_answer
  piece_refused i p = rw (← p.is)
