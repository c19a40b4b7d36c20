-- One table for digits and word bytes: what it says of each byte, as a list of 256 entries.
use Rattle.std.specs.Prelude.{ℕ, zero, suc, cond, List, [], ◌∷◌, ltb}
use Rattle.text.specs.Class.{is_word}
use Rattle.text.specs.Number.{digit_of}

-- a byte's entry: a digit's value, 128 for another word byte, 255 for any other byte
unfoldable pub entry_of : ℕ → ℕ
entry_of b = cond (ltb (digit_of b) 16) (digit_of b) (cond (is_word b) 128 255)

-- the entries of n bytes from b on
unfoldable pub entries : ℕ → ℕ → List ℕ
entries zero b = []
entries (suc n) b = entry_of b ∷ entries n (suc b)

-- the table
unfoldable pub table : List ℕ
table = entries 256 0
