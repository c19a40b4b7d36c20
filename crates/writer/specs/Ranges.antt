-- Number 37 as a test: the ranges of the record that an entry could break, and parts inside what is lent.
-- Assumes nothing.
use Rattle.std.specs.Prelude.{ℕ, ◌+◌, Bool, ◌&&◌, List, leb, length}
use Rattle.text.specs.Class.{is_word}
use Rattle.entry.specs.declared.Entry.{Entry}
use Rattle.entry.specs.Entry.{part_of}
use Rattle.record.specs.Rule.{is_task_byte, fits_text}

-- task and function, each by itself and both together: each is one or more bytes that pass, and lies in the text, since a part outside is empty
unfoldable pub fits_texts : List ℕ → Entry → Bool
fits_texts text e =
    fits_text is_task_byte (part_of text e.task_at e.task_len)
    && fits_text is_word (part_of text e.function_at e.function_len)
    && leb (e.task_len + e.function_len) 4096

-- CPU, seconds, microseconds and kind
unfoldable pub fits_numbers : Entry → Bool
fits_numbers e =
    leb e.cpu 999 && leb e.seconds 0x7fffffffffffffff && leb e.microseconds 0x7fffffffffffffff && leb e.kind 12

-- number 37 is not due
unfoldable pub writable : List ℕ → Entry → List ℕ → Bool
writable text e dwords = fits_texts text e && fits_numbers e && leb e.dwords 256 && leb e.dwords (length dwords)
