-- The rows of `why`, each with its newlines.
use Rattle.std.specs.Prelude.{ℕ, ◌+◌, ◌<◌, ◌≡◌, List, [], ◌∷◌, ◌++◌, replicate}
use Rattle.text.specs.Quote.{bytes}
use Rattle.listing_rows.specs.Rows.{Room, word_and_number}
use Rattle.escape.specs.Escape.{escaped}
use Rattle.why_rows.specs.declared.What.{What}
use Rattle.text.specs.declared.number.BadNumber.{BadNumber}
use Rattle.text.specs.declared.number.BadNumber.TheVariants as R
use Rattle.print.specs.declared.page.Page.{Page}
use Rattle.why_rows.specs.declared.tally.Counts.{Counts}
use Rattle.why_rows.specs.Names.{name_text, bits_of}

-- `line N, WHAT: `
unfoldable pub head_text : ℕ → What → List ℕ
head_text line what = word_and_number (bytes "line ") line ++ (bytes ", " ++ (name_text what ++ bytes ": "))

-- `bad digit at place K`
unfoldable pub place_text : ℕ → List ℕ
place_text k = word_and_number (bytes "bad digit at place ") k ++ (10 ∷ [])

-- `too wide for W bits`
unfoldable pub width_text : ℕ → List ℕ
width_text bits = word_and_number (bytes "too wide for ") bits ++ (bytes " bits" ++ (10 ∷ []))

-- why it is none
unfoldable pub reason_text : What → BadNumber → List ℕ
reason_text what R.Empty = bytes "empty" ++ (10 ∷ [])
reason_text what (R.BadDigit k) = place_text k
reason_text what R.TooWide = width_text (bits_of what)

-- the text behind four blanks, printable bytes alone; nothing where it has no byte
unfoldable pub shown_text : List ℕ → List ℕ
shown_text [] = []
shown_text (b ∷ s) = bytes "    " ++ (escaped (b ∷ s) ++ (10 ∷ []))

-- a mark below the byte at a place of the text
unfoldable pub mark_text : ℕ → List ℕ
mark_text k = bytes "    " ++ (replicate k 32 ++ (bytes "^" ++ (10 ∷ [])))

-- a bad digit has a mark, and no other reason does
unfoldable pub caret_text : BadNumber → List ℕ
caret_text R.Empty = []
caret_text (R.BadDigit k) = mark_text k
caret_text R.TooWide = []

-- the row of an unreadable number of a line
unfoldable pub row_text : ℕ → What → List ℕ → BadNumber → List ℕ
row_text line what text reason = head_text line what ++ (reason_text what reason ++ (shown_text text ++ caret_text reason))

-- `: empty E, bad digit B, too wide W`
unfoldable pub reasons_text : Counts → List ℕ
reasons_text c =
    word_and_number (bytes ": empty ") c.empty
    ++ (word_and_number (bytes ", bad digit ") c.bad ++ (word_and_number (bytes ", too wide ") c.wide ++ (10 ∷ [])))

-- `lines L payloads P unreadable U` and the reasons
unfoldable pub totals_text : Counts → List ℕ
totals_text c =
    word_and_number (bytes "lines ") c.lines
    ++ (word_and_number (bytes " payloads ") c.payloads ++ (word_and_number (bytes " unreadable ") c.unreadable ++ reasons_text c))

-- ---- what is asked of callers

-- a bad digit is in a text of n bytes
abbrev pub PlaceWithin : BadNumber → ℕ → Type 0
PlaceWithin reason n = (k : ℕ) → reason ≡ R.BadDigit k → k < n

-- there is room for the mark on a page
abbrev pub CaretRoom : BadNumber → Page → Type 0
CaretRoom reason p = (k : ℕ) → reason ≡ R.BadDigit k → Room p (k + 6)
