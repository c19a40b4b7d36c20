-- Equal texts, as a test.
use Rattle.std.specs.Prelude.{ℕ, Bool, List}
use Rattle.std.specs.Str.{bytes_eq}

-- the same bytes in the same order
abbrev pub same_text : List ℕ → List ℕ → Bool
same_text = bytes_eq
