-- A text that is said waits, or what waited was written before. Assumes nothing.
use Prim.Native.Nat.{ℕ, ◌+◌, ◌≤◌}
use mathlib.Core.Path.{◌≡◌, refl, ◌∙◌}
use mathlib.Core.Bool.{Bool, true, false, cond}
use mathlib.Core.List.{List}
use native.Mathlib.Omega.{arith}
use lib.Dec.{eqb}
use lib.ListN.{length}
use borrow.Author.Tests.{le-leb}
use Rattle.std.specs.Prelude.{None}
use Rattle.std.specs.List.{count_by}
use Rattle.std.proofs.lemmas.List.Recursion.{is_count_by}
use Rattle.print.specs.Put.{Placed, buffer_after, place_after}
use Rattle.channel.specs.Sink.{row_end, rows_in, Waits}

-- rows are counted as newlines are
pub rows_are : (text : List ℕ) → rows_in text ≡ count_by (λ b. eqb b 10) text
unfolding rows_in row_end
rows_are text = is_count_by rows_in (λ b. eqb b 10) refl (λ b s. go (eqb b 10) (rows_in s)) text
  where
    go : (t : Bool) (n : ℕ) → cond t 1 0 + n ≡ cond t (1 + n) n
    go true n = refl
    go false n = omega arith

-- what fits waits
pub waits_put : {out text exit : List ℕ} {at e whole : ℕ} → at + length text ≤ length out → Placed out at text exit e → Waits out at text exit whole (record { at = e; whole = whole; fault = None })
unfolding buffer_after place_after
waits_put h p =
    record {
      buffer = p.buffer ∙ rw (le-leb _ _ h) refl;
      place = p.place ∙ rw (le-leb _ _ h) refl;
      rows = refl;
      sound = refl;
    }
