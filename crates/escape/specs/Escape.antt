-- A book's name as it is shown: printable bytes alone, and no two names alike.
use Rattle.std.specs.Prelude.{ℕ, ◌≤◌, Bool, cond, ◌&&◌, not, List, [], ◌∷◌, ◌++◌, leb, eqb}
use Rattle.print.specs.Hex.{byte_text}

-- a byte that stands for itself: 32 to 126, but the backslash, 92
unfoldable pub is_plain : ℕ → Bool
is_plain b = leb 32 b && (leb b 126 && not (eqb b 92))

-- a byte as it is shown: itself where it is plain, else a backslash, `x` and its two hex digits
unfoldable pub shown_byte : ℕ → List ℕ
shown_byte b = cond (is_plain b) (b ∷ []) (92 ∷ 120 ∷ byte_text b)

-- a name as it is shown, byte after byte
unfoldable pub escaped : List ℕ → List ℕ
escaped [] = []
escaped (b ∷ s) = shown_byte b ++ escaped s

-- a byte that any terminal prints: 32 to 126
pub record Printable (b : ℕ) : Type 0 where
  pub low : 32 ≤ b
  pub high : b ≤ 126
