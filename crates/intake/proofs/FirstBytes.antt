-- The first 65,539 bytes tell what a text is: a record's two-byte length reaches no further than 65,538 bytes, so a longer text is neither record nor line,
-- and its number goes by its first byte. Assumes nothing.
use Prim.Native.Nat.{ℕ, ◌≤◌, ◌<◌}
use mathlib.Core.Path.{◌≡◌, refl, sym, ap, ◌∙◌}
use mathlib.Core.Bool.{Bool, true, false, cond}
use mathlib.Core.List.{List}
use native.Mathlib.Decide.{dec_le}
use native.Mathlib.Omega.{arith}
use borrow.Author.Tests.{ne_eqb, lt-ltb}
use lib.Dec.{eqb}
use lib.ListN.{length, get_or, take}
use lib.Seq.{take_all, length-take-le, get_or-take}
use Rattle.text.specs.Told as T
use Rattle.tlv.specs.Number.{Bytes}
use Rattle.tlv.proofs.Fields.{field_found, two_bytes}
use Rattle.tlv.proofs.Places.{bytes_take}
use Rattle.scan.specs.declared.Pieces.{Pieces}
use Rattle.scan.specs.Frame.{idle, frame_of}
use Rattle.scan.specs.Parse.{with_frame, parse_of}
use Rattle.record.specs.Judging.{framed}
use Rattle.record.specs.Reading.{read_of}
use Rattle.record.proofs.Judging.{not_framed}
use Rattle.record.proofs.Sound.{framed_is}
use Rattle.intake.specs.Intake.{starts_a1, taken_of}
use Rattle.intake.specs.What.{what_of}

-- the number of a text that is longer than any record, by its first byte: 30 behind A1, 1 behind `#`, else 2
abbrev pub long_number : ℕ → ℕ
long_number b = cond (eqb b 0xA1) 30 (cond (eqb b 35) 1 2)

-- a text of more than 4,096 bytes is no line, and its number goes by its first byte, whatever is lent
pub overlong_line : (pieces : Pieces) (t : List ℕ) (room : ℕ) → 4096 < length t → parse_of pieces t room ≡ T.refused (cond (eqb (get_or t 0 0) 35) 1 2)
unfolding parse_of with_frame frame_of idle
overlong_line pieces t room long = go (eqb (get_or t 0 0) 35) refl
  where
    some : eqb (length t) 0 ≡ false
    some = ne_eqb (length t) 0 (λ z. omega (arith, z, long))

    more : eqb (length t) 1 ≡ false
    more = ne_eqb (length t) 1 (λ z. omega (arith, z, long))

    go : (b : Bool) → eqb (get_or t 0 0) 35 ≡ b → parse_of pieces t room ≡ T.refused (cond b 1 2)
    go true e = rw (some, e)
    go false e = rw (some, more, e, lt-ltb 4096 (length t) long)

module _ (pieces : Pieces) (t : List ℕ) (bytes : Bytes t) (long : 65539 ≤ length t) where
  -- no two-byte length is that of the rest
  long_unframed : framed t ≡ false
  long_unframed = go (framed t) refl
    where
      go : (b : Bool) → framed t ≡ b → b ≡ false
      go false e = refl
      go true e =
          let f = field_found t 0 (framed_is t e) in
          absurd (omega (arith, f.to_is, two_bytes t 1, bytes 1, bytes 2, long))

  pub long_record : read_of t 256 ≡ T.refused 30
  unfolding read_of
  long_record = rw (← not_framed t long_unframed)

  pub long_line : parse_of pieces t 256 ≡ T.refused (cond (eqb (get_or t 0 0) 35) 1 2)
  long_line = overlong_line pieces t 256 (omega (arith, long))

  -- a text of 65,539 bytes or more is neither
  pub long_is_neither : what_of pieces t ≡ T.refused (long_number (get_or t 0 0))
  unfolding what_of taken_of starts_a1
  long_is_neither = go (eqb (get_or t 0 0) 0xA1) refl
    where
      go : (b : Bool) → eqb (get_or t 0 0) 0xA1 ≡ b → what_of pieces t ≡ T.refused (cond b 30 (cond (eqb (get_or t 0 0) 35) 1 2))
      go true e = rw (e, long_record)
      go false e = rw (e, long_line)

-- the first 65,539 bytes tell
pub first_bytes_tell : (pieces : Pieces) (t : List ℕ) → Bytes t → (n : ℕ) → 65539 ≤ n → what_of pieces (take n t) ≡ what_of pieces t
first_bytes_tell pieces t bytes n h =
    elim (dec_le (length t) n) [
      | yes l ↦ ap (what_of pieces) (take_all n t l)
      | no l ↦
          let size : length (take n t) ≡ n = length-take-le n t (omega arith) in
          let first : get_or (take n t) 0 0 ≡ get_or t 0 0 = get_or-take n t 0 0 (omega arith) in
          long_is_neither pieces (take n t) (bytes_take t n bytes) (omega (arith, size, h))
          ∙ ap (λ (b : ℕ). T.refused (long_number b)) first
          ∙ sym (long_is_neither pieces t bytes (omega arith))
    ]
