-- A struct that tells of a hex text is told by one answer alone: the answer can be read back from its fields. Two cases would give one struct, and
-- neither occurs: a text that ends before it starts, and a refusal by 0. Assumes nothing.
use Rattle.std.specs.Prelude.{Err, None, Ok, Option, Result, Some}
use Rattle.text.specs.declared.number.BadNumber.{BadNumber}
use Rattle.text.specs.declared.number.BadNumber.TheVariants as BadNumber
use Rattle.reasons.specs.declared.Key.{Key}
use Prim.Native.Nat.{ℕ, ◌+◌, ◌-◌, ◌^◌, ◌≤◌, ◌<◌}
use mathlib.Core.Path.{◌≡◌, refl, sym, ap, ◌∙◌}
use mathlib.Core.Bool.{Bool, true, false, cond}
use mathlib.Core.List.{List}
use native.Mathlib.Omega.{arith}
use lib.Dec.{ltb, eqb}
use lib.ListN.{length}
use borrow.Author.Tests.{ne_eqb}
use Rattle.text.specs.Told.{Told, is, absent, refused, and_then}
use Rattle.text.specs.Place.{last_byte}
use Rattle.pairs.specs.declared.pair.Span.{Span}
use Rattle.pairs.specs.Pair.{part, last_pair, span}
use Rattle.pairs.specs.Data.{nth_piece}
use Rattle.scan.specs.Frame.{idle, first_high, frame_colon, frame_ascii, frame_of}
use Rattle.reasons.specs.declared.HexText.{HexText}
use Rattle.reasons.specs.declared.payload.Place.{Place}
use Rattle.reasons.specs.Reasons.{name_of, limit_of, payload_from, payload_place, said_at, data_span, key_in, piece_at, piece_in, key_answer, piece_answer}
use Rattle.capi.specs.declared.hexes.HexAnswer.{HexAnswer}
use Rattle.capi.specs.Hexes.{hex_by, text_by, key_numbered, key_told, other_key, Upright}
use Rattle.capi.proofs.HexTexts.{key_in_line, piece_in_line}

-- ---- what the fields say

abbrev reading_back : HexAnswer → Result ℕ BadNumber
reading_back r =
    cond (eqb r.what 1) (Ok r.value) (cond (eqb r.what 2) (Err BadNumber.Empty) (cond (eqb r.what 3) (Err (BadNumber.BadDigit r.bad)) (Err BadNumber.TooWide)))

abbrev told_back : HexAnswer → Told HexText
told_back r =
    cond (eqb r.number 0)
    (cond (eqb r.what 0) absent (is (record { from = r.at; to = r.at + r.len; reading = reading_back r })))
    (refused r.number)

-- a refusal has a number
abbrev pub Numbered : {A : Type 0} → Told A → Type 0
Numbered told = (k : ℕ) → told ≡ refused k → 0 < k

text_back : (from to : ℕ) (reading : Result ℕ BadNumber) → from + (to - from) ≡ to
    → told_back (text_by (record { from = from; to = to; reading = reading })) ≡ is (record { from = from; to = to; reading = reading })
text_back from to (Ok v) e = rw e
text_back from to (Err BadNumber.Empty) e = rw e
text_back from to (Err (BadNumber.BadDigit place)) e = rw e
text_back from to (Err BadNumber.TooWide) e = rw e

told_back_lem : (told : Told HexText) → Upright told → Numbered told → told_back (hex_by told) ≡ told
unfolding hex_by
told_back_lem (is text) up n = text_back text.from text.to text.reading (omega (arith, up text refl))
told_back_lem absent up n = refl
told_back_lem (refused k) up n = rw (ne_eqb k 0 (λ z. omega (arith, n k refl, z)))

-- two answers never give one struct
pub one_told : (a b : Told HexText) → Upright a → Numbered a → Upright b → Numbered b → hex_by a ≡ hex_by b → a ≡ b
one_told a b ua na ub nb e = sym (told_back_lem a ua na) ∙ ap told_back e ∙ told_back_lem b ub nb

-- ---- a line's answers are refused by numbers alone

colon_numbered : (f : Option ℕ) → Numbered (frame_colon f)
unfolding frame_colon
colon_numbered (Some j) k e = absurd (let z : ◌≡◌ {A = ℕ} 0 1 = cc in omega arith)
colon_numbered None k e = let q : 4 ≡ k = cc in omega (arith, q)

module _ (t : List ℕ) where
  ascii_numbered : (f : Option ℕ) → Numbered (frame_ascii t f)
  unfolding frame_ascii
  ascii_numbered (Some j) = λ k e. let q : 3 ≡ k = cc in omega (arith, q)
  ascii_numbered None = colon_numbered (last_byte 58 t)

  frame_numbered : Numbered (frame_of t)
  unfolding frame_of
  frame_numbered = go (idle t) (ltb 4096 (length t))
    where
      go : (a b : Bool) → Numbered (cond a (refused 1) (cond b (refused 2) (frame_ascii t (first_high t))))
      go true b = λ k e. let q : 1 ≡ k = cc in omega (arith, q)
      go false true = λ k e. let q : 2 ≡ k = cc in omega (arith, q)
      go false false = ascii_numbered (first_high t)

-- what a value leads to is refused by a number if both are
then_numbered : {A B : Type 0} (told : Told A) (next : A → Told B) → Numbered told → ((a : A) → Numbered (next a)) → Numbered (and_then told next)
then_numbered (is a) next n m = m a
then_numbered absent next n m = λ k e. absurd (let z : ◌≡◌ {A = ℕ} 0 1 = cc in omega arith)
then_numbered (refused j) next n m = λ k e. let q : j ≡ k = cc in omega (arith, n j refl, q)

said_numbered : (limit start : ℕ) (s : List ℕ) (span : Option Span) → Numbered (said_at limit start s span)
unfolding said_at
said_numbered limit start s (Some w) k e = absurd (let z : ◌≡◌ {A = ℕ} 0 1 = cc in omega arith)
said_numbered limit start s None k e = absurd (let z : ◌≡◌ {A = ℕ} 0 1 = cc in omega arith)

piece_numbered : (p : List ℕ) (start i : ℕ) (span : Option Span) → Numbered (piece_at p start i span)
unfolding piece_at
piece_numbered p start i (Some w) = said_numbered (2 ^ 32 - 1) (start + w.from) (part p w.from w.to) (nth_piece i (part p w.from w.to) 0)
piece_numbered p start i None = λ k e. absurd (let z : ◌≡◌ {A = ℕ} 0 1 = cc in omega arith)

module _ (t : List ℕ) where
  payload_numbered : Numbered (payload_place t)
  unfolding payload_place
  payload_numbered =
      then_numbered (frame_of t) (λ colon. is (payload_from t colon)) (frame_numbered t)
      (λ colon k e. absurd (let z : ◌≡◌ {A = ℕ} 0 1 = cc in omega arith))

  key_numbered_lem : (key : Option Key) → Numbered (key_told t key)
  unfolding key_told key_answer key_in other_key
  key_numbered_lem (Some key) =
      then_numbered (payload_place t) _ payload_numbered
      (λ p. let s = part t p.from p.to in said_numbered (limit_of key) p.from s (last_pair s (name_of key)))
  key_numbered_lem None =
      then_numbered (payload_place t) (λ place. absent) payload_numbered (λ p k e. absurd (let z : ◌≡◌ {A = ℕ} 0 1 = cc in omega arith))

  pub key_upright : (key : Option Key) → Upright (key_told t key)
  unfolding key_told other_key
  key_upright (Some key) = λ text e. (key_in_line t key text e).0
  key_upright None = λ text e. never (payload_place t) text e
    where
      never : (told : Told Place) (text : HexText) → and_then told (λ place. absent) ≡ is text → text.from ≤ text.to
      never (is p) text e = absurd (let z : ◌≡◌ {A = ℕ} 0 1 = cc in omega arith)
      never absent text e = absurd (let z : ◌≡◌ {A = ℕ} 0 1 = cc in omega arith)
      never (refused k) text e = absurd (let z : ◌≡◌ {A = ℕ} 0 1 = cc in omega arith)

  -- `ck_hex_key`: the struct fixes what the line says of the key
  pub no_second_key : (number : ℕ) (told : Told HexText) → Upright told → Numbered told → hex_by told ≡ hex_by (key_told t (key_numbered number))
      → told ≡ key_told t (key_numbered number)
  no_second_key number told up n e = one_told told _ up n (key_upright (key_numbered number)) (key_numbered_lem (key_numbered number)) e

  -- `ck_hex_piece`: the struct fixes what the line says of the piece
  pub no_second_piece : (i : ℕ) (told : Told HexText) → Upright told → Numbered told → hex_by told ≡ hex_by (piece_answer t i) → told ≡ piece_answer t i
  unfolding piece_answer piece_in
  no_second_piece i told up n e =
      one_told told (piece_answer t i) up n (λ text q. (piece_in_line t i text q).0)
      (then_numbered (payload_place t) _ payload_numbered
      (λ p. let s = part t p.from p.to in piece_numbered s p.from i (data_span s)))
      e
