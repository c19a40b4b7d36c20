-- The frame by itself: it gives the colon, and then none of the numbers 1 to 4 applies, or one of them, and then that one does. Assumes nothing.
use Rattle.std.specs.Prelude.{None, Option, Some}
use Prim.Native.Nat.{ℕ, ◌≤◌}
use mathlib.Core.Path.{◌≡◌}
use mathlib.Core.Bool.{Bool, true, false, cond}
use mathlib.Core.List.{List}
use native.Mathlib.Omega.{arith}
use lib.Dec.{ltb}
use lib.ListN.{length}
use Rattle.text.specs.Told as T
use Rattle.text.specs.Place.{last_byte}
use Rattle.text.proofs.Places.{clash}
use Rattle.scan.specs.declared.Pieces.{Pieces}
use Rattle.scan.specs.Frame.{idle, first_high, frame_colon, frame_ascii, frame_of}
use Rattle.scan.specs.Line.{Condition, order_of, Applies}
use Rattle.scan.specs.Parse.{with_frame, parse_of}
use Rattle.scan.proofs.Frames.{frame_passed}
use Rattle.scan.proofs.Splits.{split_is}
use Rattle.scan.proofs.Chain.{Clear, clear_starts, clear_next}
use Rattle.scan.proofs.Judged.{idle_all, high_none}
use Rattle.scan.proofs.Theorems.{line_number_exactly}

module _ (pieces : Pieces) (t : List ℕ) (room : ℕ) where
  -- a line that passes its frame
  pub frame_clear : {k : ℕ} → frame_of t ≡ T.is k → Clear pieces t room 5
  unfolding Condition order_of
  frame_clear f =
      let w = frame_passed t f in
      let busy = clear_next pieces t room 1 (clear_starts pieces t room) (λ i. clash (idle_all t i) w.0) in
      let short = clear_next pieces t room 2 busy (λ l. omega (arith, l, w.1)) in
      let ascii = clear_next pieces t room 3 short (high_none t w.2) in
      clear_next pieces t room 4 ascii (λ none. none _ _ (split_is t w.3))

  -- a line that its frame refuses
  pub frame_applies : {k : ℕ} → frame_of t ≡ T.refused k → Applies pieces t room k
  unfolding parse_of with_frame
  frame_applies {k} f = (line_number_exactly pieces t room k).0 (rw f)

-- the frame tells nothing else
pub data Framed : T.Told ℕ → Type 0 where
  colon : (k : ℕ) → Framed (T.is k)
  number : (k : ℕ) → k ≤ 4 → Framed (T.refused k)

pub framed : (t : List ℕ) → Framed (frame_of t)
unfolding frame_of frame_ascii frame_colon
framed t = by_idle (idle t)
  where
    by_colon : (x : Option ℕ) → Framed (frame_colon x)
    by_colon (Some j) = colon j
    by_colon None = number 4 (omega arith)

    by_high : (x : Option ℕ) → Framed (frame_ascii t x)
    by_high (Some j) = number 3 (omega arith)
    by_high None = by_colon (last_byte 58 t)

    by_length : (b : Bool) → Framed (cond b (T.refused 2) (frame_ascii t (first_high t)))
    by_length true = number 2 (omega arith)
    by_length false = by_high (first_high t)

    by_idle : (b : Bool) → Framed (cond b (T.refused 1) (cond (ltb 4096 (length t)) (T.refused 2) (frame_ascii t (first_high t))))
    by_idle true = number 1 (omega arith)
    by_idle false = by_length (ltb 4096 (length t))
