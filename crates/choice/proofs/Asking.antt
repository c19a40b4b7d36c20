-- No word says strict. Assumes nothing.
use Rattle.std.specs.Prelude.{None, Option, Some}
use Rattle.scan.specs.declared.Pieces.{Pieces}
use Prim.Native.Nat.{ℕ}
use mathlib.Core.Path.{◌≡◌}
use mathlib.Core.Bool.{Bool, true, false, cond}
use mathlib.Core.List.{List}
use native.Mathlib.Omega.{arith}
use Rattle.text.specs.Same.{same_text}
use Rattle.text.specs.Quote.{bytes}
use Rattle.scan.specs.declared.Pieces.TheVariants.{Lenient}
use Rattle.choice.specs.Words.{asked_by, NotStrict}

-- what a word says is not strict
pub word_is_none : (word : List ℕ) {r : Option Pieces} → r ≡ asked_by word → NotStrict r
unfolding asked_by
word_is_none word {r} q = go (same_text word (bytes "lenient")) q
  where
    go : (b : Bool) → r ≡ cond b (Some Lenient) None → NotStrict r
    go true q e = let z : ◌≡◌ {A = ℕ} 0 1 = cc in omega arith
    go false q e = let z : ◌≡◌ {A = ℕ} 0 1 = cc in omega arith
