-- The row that says what a text is.
use Rattle.std.specs.Prelude.{ℕ, List, [], ◌∷◌, ◌++◌}
use Rattle.text.specs.Told.{Told, is, absent, refused}
use Rattle.text.specs.Quote.{bytes}
use Rattle.listing_rows.specs.Rows.{word_and_number}
use Rattle.intake.specs.declared.What.{What}
use Rattle.intake.specs.declared.What.TheVariants as W

-- `neither K` and a newline
unfoldable pub neither_row : ℕ → List ℕ
neither_row k = word_and_number (bytes "neither ") k ++ (10 ∷ [])

-- `record`, `line` or `neither K`, and a newline; something is told of every text
unfoldable pub what_row : Told What → List ℕ
what_row (is W.Record) = bytes "record" ++ (10 ∷ [])
what_row (is W.Line) = bytes "line" ++ (10 ∷ [])
what_row absent = []
what_row (refused k) = neither_row k
