-- Where a text that is told stands: a pair's value, and a piece between brackets, lies within its payload, and the payload within the line. So its
-- length is the difference of its ends. Assumes nothing.
use Rattle.std.specs.Prelude.{Err, IfOk, IfSome, None, Ok, Option, Result, Some}
use Prim.Native.Nat.{ℕ, zero, suc, ◌+◌, ◌-◌, ◌^◌, ◌≤◌, ◌<◌}
use mathlib.Core.Path.{◌≡◌, refl, sym}
use mathlib.Core.Bool.{Bool, true, false, cond}
use mathlib.Core.List.{List}
use native.Mathlib.Omega.{arith}
use lib.Dec.{ltb}
use lib.ListN.{length, drop, length-drop}
use lib.Seq.{length-take-le}
use borrow.Author.Tests.{ltb-true}
use Rattle.refusal.specs.declared.Refusal.{Refusal}
use Rattle.refusal.specs.Told.{told_maybe}
use Rattle.text.specs.Told.{Told, is, absent, refused, and_then}
use Rattle.text.specs.Quote.{bytes}
use Rattle.pairs.specs.declared.pair.Span.{Span}
use Rattle.pairs.specs.Pair.{part, last_pair, span}
use Rattle.pairs.specs.Data.{inside_of, piece_end, nth_piece}
use Rattle.pairs.proofs.Ends.{same_span}
use Rattle.pairs.proofs.Cuts.{ends_piece}
use Rattle.pairs.proofs.LastPairs.{last_within}
use Rattle.pairs.proofs.Slots.{bracketed}
use Rattle.scan.specs.Frame.{frame_of}
use Rattle.scan.proofs.Frames.{frame_colon_within}
use Rattle.reasons.specs.declared.Key.{Key}
use Rattle.reasons.specs.declared.HexText.{HexText}
use Rattle.reasons.specs.declared.payload.Place.{Place}
use Rattle.reasons.specs.Reasons.{name_of, limit_of, payload_from, payload_place, said_at, moved, brackets_at, data_span, key_in, piece_at, piece_in, key_answer, piece_answer, SpanWithin}
use Rattle.capi.specs.Hexes.{Upright}
use Rattle.reasons.proofs.Said.{placed}

-- the text that is told lies before a place, and starts where it ends or before
abbrev pub StandsBefore : ℕ → Told HexText → Type 0
StandsBefore n told = (text : HexText) → told ≡ is text → (text.from ≤ text.to) × (text.to ≤ n)

part_length : (s : List ℕ) (a b : ℕ) → b ≤ length s → length (part s a b) ≡ b - a
part_length s a b h = length-take-le (b - a) (drop a s) (omega (arith, length-drop a s))

said_stands : (limit start : ℕ) (s : List ℕ) (span : Option Span) → SpanWithin s span → StandsBefore (start + length s) (said_at limit start s span)
unfolding said_at
said_stands limit start s (Some x) w text e =
    let f : start + x.from ≡ text.from = cc in
    let t : start + x.to ≡ text.to = cc in
    (omega (arith, f, t, w.0), omega (arith, t, w.1))
said_stands limit start s None w text e = absurd (let z : ◌≡◌ {A = ℕ} 0 1 = cc in omega arith)

-- what lies within a text at its ends lies within it
if_within : (s : List ℕ) (r : Option Span) → ((a b : ℕ) → r ≡ span a b → (a ≤ b) × (b ≤ length s)) → SpanWithin s r
if_within s (Some w) h = h w.from w.to refl
if_within s None h = tt

key_stands : (p : List ℕ) (start : ℕ) (key : Key) → StandsBefore (start + length p) (key_in p start key)
unfolding key_in
key_stands p start key =
    said_stands (limit_of key) start p (last_pair p (name_of key))
    (if_within p (last_pair p (name_of key)) (λ a b e. let w = last_within p (name_of key) e in (omega (arith, w.0), w.1)))

-- the i-th piece from a place on lies within the text
nth_ends : (i : ℕ) (l : List ℕ) (from : ℕ) → from ≤ length l → (a b : ℕ) → nth_piece i l from ≡ span a b → (a ≤ b) × (b ≤ length l)
unfolding nth_piece
nth_ends zero l from low =
    λ a b e.
    let p = ends_piece l low refl in
    let q = same_span e in
    (omega (arith, q.0, q.1, p.up), omega (arith, q.1, p.within))
nth_ends (suc i) l from low = λ a b. go a b (ltb (piece_end l from) (length l)) refl (nth_ends i l (piece_end l from + 2))
  where
    go : (a b : ℕ) (more : Bool) → ltb (piece_end l from) (length l) ≡ more
        → (piece_end l from + 2 ≤ length l → (c d : ℕ) → nth_piece i l (piece_end l from + 2) ≡ span c d → (c ≤ d) × (d ≤ length l))
        → cond more (nth_piece i l (piece_end l from + 2)) None ≡ span a b → (a ≤ b) × (b ≤ length l)
    go a b true t next q = let p = ends_piece l low refl in next (p.more (ltb-true _ _ t)) a b q
    go a b false t next q = absurd (let z : ◌≡◌ {A = ℕ} 0 1 = cc in omega arith)

nth_within : (i : ℕ) (l : List ℕ) (from : ℕ) → from ≤ length l → SpanWithin l (nth_piece i l from)
nth_within i l from low = if_within l (nth_piece i l from) (nth_ends i l from low)

module _ (p : List ℕ) where
  moved_within : (a b n : ℕ) → n ≤ b - a → b ≤ length p → (r : Option Span) → IfSome r (λ v. (v.from < v.to) × (v.to ≤ n)) → SpanWithin p (moved a r)
  unfolding moved
  moved_within a b n m h (Some v) i = (omega (arith, i.0), omega (arith, i.0, i.1))
  moved_within a b n m h None i = tt

  brackets_within : (r : Option Span) → last_pair p (bytes "data") ≡ r → SpanWithin p (brackets_at p r)
  unfolding brackets_at
  brackets_within (Some v) e =
      let w = last_within p (bytes "data") e in
      let size = part_length p v.from v.to w.1 in
      moved_within v.from v.to (length (part p v.from v.to)) (omega (arith, size)) w.1 (inside_of (part p v.from v.to)) (bracketed (part p v.from v.to) refl).within
  brackets_within None e = tt

  piece_at_stands : (start i : ℕ) (span : Option Span) → SpanWithin p span → StandsBefore (start + length p) (piece_at p start i span)
  unfolding piece_at
  piece_at_stands start i (Some x) w text e =
      let s = said_stands (2 ^ 32 - 1) (start + x.from) (part p x.from x.to) (nth_piece i (part p x.from x.to) 0) (nth_within i (part p x.from x.to) 0 (omega arith)) text e in
      (s.0, omega (arith, s.1, part_length p x.from x.to w.1, w.0, w.1))
  piece_at_stands start i None w text e = absurd (let z : ◌≡◌ {A = ℕ} 0 1 = cc in omega arith)

  piece_stands : (start i : ℕ) → StandsBefore (start + length p) (piece_in p start i)
  unfolding piece_in data_span
  piece_stands start i = piece_at_stands start i (data_span p) (brackets_within (last_pair p (bytes "data")) refl)

module _ (t : List ℕ) where
  -- the payload lies within the line
  payload_within : (f : Told ℕ) → frame_of t ≡ f → (place : Place) → and_then f (λ colon. is (payload_from t colon)) ≡ is place
      → (place.from ≤ place.to) × (place.to ≤ length t)
  unfolding payload_from
  payload_within (is colon) e place q =
      let w = placed t (frame_colon_within t e) refl refl in
      let same : payload_from t colon ≡ place = cc in
      rw (← same) (w.up, w.within)
  payload_within absent e place q = absurd (let z : ◌≡◌ {A = ℕ} 0 1 = cc in omega arith)
  payload_within (refused k) e place q = absurd (let z : ◌≡◌ {A = ℕ} 0 1 = cc in omega arith)

  -- so what stands in the payload stands in the line
  line_stands : (next : Place → Told HexText) → ((place : Place) → StandsBefore (place.from + length (part t place.from place.to)) (next place))
      → StandsBefore (length t) (and_then (payload_place t) next)
  unfolding payload_place
  line_stands next inner text e = go (payload_place t) (payload_within (frame_of t) refl) e
    where
      go : (told : Told Place) → ((place : Place) → told ≡ is place → (place.from ≤ place.to) × (place.to ≤ length t)) → and_then told next ≡ is text
          → (text.from ≤ text.to) × (text.to ≤ length t)
      go (is place) w q =
          let s = inner place text q in
          let h = w place refl in
          (s.0, omega (arith, s.1, part_length t place.from place.to h.1, h.0, h.1))
      go absent w q = absurd (let z : ◌≡◌ {A = ℕ} 0 1 = cc in omega arith)
      go (refused k) w q = absurd (let z : ◌≡◌ {A = ℕ} 0 1 = cc in omega arith)

  -- a key's text is a part of the line
  pub key_in_line : (key : Key) → StandsBefore (length t) (key_answer t key)
  unfolding key_answer
  key_in_line key = line_stands _ (λ place. key_stands (part t place.from place.to) place.from key)

  -- and so is a piece
  pub piece_in_line : (i : ℕ) → StandsBefore (length t) (piece_answer t i)
  unfolding piece_answer
  piece_in_line i = line_stands _ (λ place. piece_stands (part t place.from place.to) place.from i)

-- a text that an answer tells starts where it ends or before
pub told_upright : (r : Result (Option HexText) Refusal) {told : Told HexText} → told_maybe r ≡ told → Upright told
    → IfOk r (λ o. IfSome o (λ text. text.from ≤ text.to))
told_upright (Ok (Some text)) e up = up text (sym e)
told_upright (Ok None) e up = tt
told_upright (Err k) e up = tt
