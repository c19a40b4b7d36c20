-- The row from its parts, and the row of a text from its first 65,539 bytes. Assumes nothing.
use Prim.Native.Nat.{ℕ, ◌≤◌}
use mathlib.Core.Path.{◌≡◌, ap, ◌∙◌}
use mathlib.Core.List.{List, [], ◌∷◌, ◌++◌}
use native.Mathlib.Omega.{arith}
use lib.ListN.{take}
use Rattle.std.specs.Prelude.{Result, Ok, Err}
use Rattle.refusal.specs.declared.Refusal.{Refusal}
use Rattle.refusal.specs.Number.{number_of}
use Rattle.refusal.specs.Told.{told}
use Rattle.text.specs.Decimal.{decimal_text}
use Rattle.text.specs.Quote.{bytes}
use Rattle.tlv.specs.Number.{Bytes}
use Rattle.print.specs.declared.page.Page.{Page}
use Rattle.print.specs.Page.{Puts}
use Rattle.scan.specs.declared.Pieces.{Pieces}
use Rattle.listing_rows.specs.Rows.{Room, PutOn}
use Rattle.listing_rows.proofs.Putting.{put_whole, put_then, put_size, word_number, word_length, newline_put}
use Rattle.intake.specs.declared.What.{What}
use Rattle.intake.specs.declared.What.TheVariants as W
use Rattle.intake.specs.What.{what_of}
use Rattle.intake.proofs.FirstBytes.{first_bytes_tell}
use Rattle.what.specs.Row.{neither_row, what_row}

-- the row of what is neither
pub neither_row_lem : (k : ℕ) {p m₁ m₂ q : Page} → Room p 32
    → Puts p (bytes "neither ") m₁ → Puts m₁ (decimal_text k) m₂ → Puts m₂ (10 ∷ []) q → PutOn p (neither_row k) q
unfolding neither_row
neither_row_lem k {p} room x y z =
    let w = word_number k {out = p.out.now} {word = bytes "neither "} (omega arith) x.placed y.placed in
    record {
      put = put_then w (newline_put (omega (arith, w.place, put_size w, word_length (bytes "neither ") k)) z.placed);
      same = z.same ∙ y.same ∙ x.same;
    }

-- the row of the answer is that of the text
module _ (pieces : Pieces) (t : List ℕ) {r : Result What Refusal} {p q : Page} (answer : told r ≡ what_of pieces t) where
  pub record_row : r ≡ Ok W.Record → Room p 32 → Puts p (bytes "record" ++ (10 ∷ [])) q → PutOn p (what_row (what_of pieces t)) q
  unfolding what_row
  record_row e room x = rw (← answer, e) (record { put = put_whole (omega arith) x.placed; same = x.same })

  pub line_row : r ≡ Ok W.Line → Room p 32 → Puts p (bytes "line" ++ (10 ∷ [])) q → PutOn p (what_row (what_of pieces t)) q
  unfolding what_row
  line_row e room x = rw (← answer, e) (record { put = put_whole (omega arith) x.placed; same = x.same })

  pub outside_row : {k : Refusal} → r ≡ Err k → PutOn p (neither_row (number_of k)) q → PutOn p (what_row (what_of pieces t)) q
  unfolding what_row
  outside_row e x = rw (← answer, e) x

-- the row of the first 65,539 bytes is that of the whole text
pub row_of_the_whole : (pieces : Pieces) (t : List ℕ) → Bytes t → (n : ℕ) → 65539 ≤ n → what_row (what_of pieces (take n t)) ≡ what_row (what_of pieces t)
row_of_the_whole pieces t bytes n h = ap what_row (first_bytes_tell pieces t bytes n h)
