-- The listing's rows, and a row put into a buffer.
use Rattle.std.specs.Prelude.{ℕ, ◌+◌, ◌≤◌, ◌≡◌, List, [], ◌∷◌, ◌++◌, length}
use Rattle.std.proofs.lemmas.List.Edits.{sets}
use Rattle.print.specs.declared.page.Page.{Page}
use Rattle.text.specs.Decimal.{decimal_text}
use Rattle.text.specs.Quote.{bytes}

-- a word and then a number in decimal
unfoldable pub word_and_number : List ℕ → ℕ → List ℕ
word_and_number word n = word ++ decimal_text n

-- `N refused K` and a newline
unfoldable pub refused_row : ℕ → ℕ → List ℕ
refused_row line number = decimal_text line ++ (word_and_number (bytes " refused ") number ++ (10 ∷ []))

-- `N kind K dwords D` and a newline
unfoldable pub entry_row : ℕ → ℕ → ℕ → List ℕ
entry_row line kind dwords =
    decimal_text line ++ (word_and_number (bytes " kind ") kind ++ (word_and_number (bytes " dwords ") dwords ++ (10 ∷ [])))

-- `lines N entries M` and a newline
unfoldable pub totals_row : ℕ → ℕ → List ℕ
totals_row lines entries = word_and_number (bytes "lines ") lines ++ (word_and_number (bytes " entries ") entries ++ (10 ∷ []))

-- a text's bytes in the buffer from a place on, all else as found, and the place behind them
pub record Put (out : List ℕ) (at : ℕ) (s exit : List ℕ) (r : ℕ) : Type 0 where
  pub fits : at + length s ≤ length out
  pub buffer : exit ≡ sets out at s
  pub place : r ≡ at + length s

-- a page has room for n bytes more
abbrev pub Room : Page → ℕ → Type 0
Room p n = p.at + n ≤ length p.out.now

-- all of a text on a page behind what it had, all else as found; the buffer is the one that was lent
pub record PutOn (p : Page) (s : List ℕ) (q : Page) : Type 0 where
  pub put : Put p.out.now p.at s q.out.now q.at
  pub same : q.out.ghost_name ≡ p.out.ghost_name
