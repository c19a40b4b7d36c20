-- What a number of a line is called, and how wide it may be.
use Rattle.std.specs.Prelude.{ℕ, List, ◌++◌}
use Rattle.text.specs.Quote.{bytes}
use Rattle.listing_rows.specs.Rows.{word_and_number}
use Rattle.reasons.specs.declared.Key.{Key}
use Rattle.reasons.specs.declared.Key.TheVariants as K
use Rattle.reasons.specs.Reasons.{name_of}
use Rattle.why_rows.specs.declared.What.{What}
use Rattle.why_rows.specs.declared.What.TheVariants as W

-- `piece I of data`
unfoldable pub piece_text : ℕ → List ℕ
piece_text i = word_and_number (bytes "piece ") i ++ bytes " of data"

-- a key's name, or which piece it is
unfoldable pub name_text : What → List ℕ
name_text (W.Key key) = name_of key
name_text (W.Piece i) = piece_text i

-- the width of a key in bits
unfoldable pub key_bits : Key → ℕ
key_bits K.Route = 64
key_bits K.Offset = 16
key_bits K.Error = 8
key_bits K.Config = 8
key_bits K.Unplug = 8

-- the width in bits
unfoldable pub bits_of : What → ℕ
bits_of (W.Key key) = key_bits key
bits_of (W.Piece i) = 32
