-- What a word says, and that strict is said by no word.
use Rattle.scan.specs.declared.Pieces.{Pieces}
use Rattle.std.specs.Prelude.{ℕ, ◌≡◌, cond, List, ◌↔◌, None, Option, Some}
use Rattle.text.specs.Same.{same_text}
use Rattle.text.specs.Quote.{bytes}
use Rattle.scan.specs.declared.Pieces.TheVariants.{Strict, Lenient}

-- `lenient` is lenient, and no other word is a choice
unfoldable pub asked_by : List ℕ → Option Pieces
asked_by word = cond (same_text word (bytes "lenient")) (Some Lenient) None

-- no word says strict
abbrev pub NotStrict : Option Pieces → Type 0
NotStrict r = r ≡ Some Strict → ⊥

-- strict is the answer exactly where there is no argument more
abbrev pub StrictByNone : ℕ → ℕ → Option Pieces → Type 0
StrictByNone count before r = (r ≡ Some Strict) ↔ (count ≡ before)
