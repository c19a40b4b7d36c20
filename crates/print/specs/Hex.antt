-- Small hex digits.
use Rattle.std.specs.Prelude.{ℕ, ◌+◌, ◌/◌, ◌%◌, cond, List, [], ◌∷◌, ltb}

-- 0 to 9, then a to f
unfoldable pub hex_digit : ℕ → ℕ
hex_digit n = cond (ltb n 10) (48 + n) (87 + n)

-- a byte, two digits
abbrev pub byte_text : ℕ → List ℕ
byte_text b = hex_digit (b / 16) ∷ hex_digit (b % 16) ∷ []

-- bytes, two digits each
unfoldable pub hex_text : List ℕ → List ℕ
hex_text [] = []
hex_text (b ∷ s) = hex_digit (b / 16) ∷ hex_digit (b % 16) ∷ hex_text s

-- a dword, eight digits
abbrev pub dword_text : ℕ → List ℕ
dword_text d =
    hex_digit (d / 268435456 % 16)
    ∷ hex_digit (d / 16777216 % 16)
    ∷ hex_digit (d / 1048576 % 16)
    ∷ hex_digit (d / 65536 % 16)
    ∷ hex_digit (d / 4096 % 16)
    ∷ hex_digit (d / 256 % 16)
    ∷ hex_digit (d / 16 % 16)
    ∷ hex_digit (d % 16)
    ∷ []
