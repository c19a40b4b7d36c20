-- The byte classes of the line grammar.
use Rattle.std.specs.Prelude.{ℕ, Bool, not, ◌&&◌, ◌||◌, leb, eqb}
use Rattle.text.specs.declared.class.Class.{Class}
use Rattle.text.specs.declared.class.Class.TheVariants.{Blank, Digit, Word, NotSpace, NotClose}

-- b is one of low, .., high
unfoldable pub between : ℕ → ℕ → ℕ → Bool
between low high b = leb low b && leb b high

-- blank: bytes 9 to 13 and 32
unfoldable pub is_blank : ℕ → Bool
is_blank b = eqb b 32 || between 9 13 b

-- digit: 0 to 9
unfoldable pub is_digit : ℕ → Bool
is_digit b = between 48 57 b

-- letter: A to Z and a to z
unfoldable pub is_letter : ℕ → Bool
is_letter b = between 65 90 b || between 97 122 b

-- word byte: letter, digit, underscore
unfoldable pub is_word : ℕ → Bool
is_word b = is_letter b || is_digit b || eqb b 95

-- any other byte
abbrev pub no_word : ℕ → Bool
no_word b = not (is_word b)

-- every byte but one
abbrev pub other_than : ℕ → ℕ → Bool
other_than a b = not (eqb b a)

-- the class by its name: `NotSpace` is every byte but 32, `NotClose` every byte but `]`
unfoldable pub in_class : Class → ℕ → Bool
in_class Blank = is_blank
in_class Digit = is_digit
in_class Word = is_word
in_class NotSpace = λ b. not (eqb b 32)
in_class NotClose = λ b. not (eqb b 93)
