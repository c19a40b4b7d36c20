-- The rows of `unanswered`, each with its newline.
use Rattle.std.specs.Prelude.{ℕ, cond, List, [], ◌∷◌, ◌++◌, eqb, Err, Ok, Result}
use Rattle.text.specs.Decimal.{decimal_text}
use Rattle.text.specs.Quote.{bytes}
use Rattle.listing_rows.specs.Rows.{word_and_number, refused_row}
use Rattle.refusal.specs.declared.Refusal.{Refusal}
use Rattle.refusal.specs.Number.{number_of}
use Rattle.slots.specs.declared.Four.{Four}
use Rattle.unanswered_rows.specs.declared.gap.Gap.{Gap}
use Rattle.unanswered_rows.specs.declared.gap.Gap.TheVariants as G
use Rattle.unanswered_rows.specs.declared.Row.{Row}
use Rattle.unanswered_rows.specs.declared.Row.TheVariants as R
use Rattle.unanswered_rows.specs.declared.Note.{Note}
use Rattle.unanswered_rows.specs.declared.Counts.{Counts}
use Rattle.unanswered_rows.specs.Parts.{six_text, route_text}

-- `N` and a word
unfoldable pub word_row : ℕ → List ℕ → List ℕ
word_row line word = decimal_text line ++ word

-- ` after K`, in microseconds, or ` before K`
abbrev pub gap_text : Gap → List ℕ
gap_text (G.After n) = word_and_number (bytes " after ") n
gap_text (G.Before n) = word_and_number (bytes " before ") n

-- `N answered M after K`, or `before`
unfoldable pub answered_row : ℕ → ℕ → Gap → List ℕ
answered_row line request gap = decimal_text line ++ (word_and_number (bytes " answered ") request ++ (gap_text gap ++ (10 ∷ [])))

-- what became of the line of that number
unfoldable pub row_text : ℕ → Result Row Refusal → List ℕ
row_text line (Ok R.Dropped) = word_row line (bytes " dropped" ++ (10 ∷ []))
row_text line (Ok R.Other) = word_row line (bytes " other" ++ (10 ∷ []))
row_text line (Ok R.NoSeq) = word_row line (bytes " no seq" ++ (10 ∷ []))
row_text line (Ok R.Taken) = word_row line (bytes " taken" ++ (10 ∷ []))
row_text line (Ok R.TurnedAway) = word_row line (bytes " turned away" ++ (10 ∷ []))
row_text line (Ok (R.Answered request gap)) = answered_row line request gap
row_text line (Ok R.Stray) = word_row line (bytes " stray" ++ (10 ∷ []))
row_text line (Err r) = refused_row line (number_of r)

-- `waits N at SECONDS.MICROSECONDS`
unfoldable pub when_text : Note → List ℕ
when_text note =
    word_and_number (bytes "waits ") note.line
    ++ (word_and_number (bytes " at ") note.at.seconds ++ (bytes "." ++ six_text note.at.microseconds))

-- `read`, or `write`
unfoldable pub way_text : ℕ → List ℕ
way_text write = cond (eqb write 0) (bytes " read" ++ (10 ∷ [])) (bytes " write" ++ (10 ∷ []))

-- ` domain D route 0xR seq S` and `read` or `write`
unfoldable pub four_text : Four → List ℕ
four_text four =
    word_and_number (bytes " domain ") four.domain
    ++ (bytes " route 0x" ++ (route_text four.route ++ (word_and_number (bytes " seq ") four.seq ++ way_text four.write)))

-- a request that waits
unfoldable pub waits_row : Note → Four → List ℕ
waits_row note four = when_text note ++ four_text four

-- ` turned away W stray Y waiting N`
unfoldable pub others_text : Counts → ℕ → List ℕ
others_text counts waiting =
    word_and_number (bytes " turned away ") counts.away
    ++ (word_and_number (bytes " stray ") counts.stray ++ (word_and_number (bytes " waiting ") waiting ++ (10 ∷ [])))

-- `lines L entries E taken T answered A` and the others
unfoldable pub totals_text : Counts → ℕ → List ℕ
totals_text counts waiting =
    word_and_number (bytes "lines ") counts.lines
    ++ (word_and_number (bytes " entries ") counts.entries
    ++ (word_and_number (bytes " taken ") counts.taken
    ++ (word_and_number (bytes " answered ") counts.answered ++ others_text counts waiting)))
