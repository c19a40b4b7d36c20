-- The parts of what a caller lends. A call that hands out a part hands out the caller's own elements, not equal ones that lie elsewhere.
use Rattle.std.specs.Prelude.{ℕ, ◌+◌, ◌*◌, ◌≤◌, ◌≡◌, List, [], ◌∷◌, length, take, drop}
use Rattle.std.specs.Borrow.{Bor}

-- a slice as a contract sees it: its elements, `now`, and where the first of them lies, `ref_ptr`, a memory and a byte in it
abbrev pub Slice : Type 0
Slice = Bor (List ℕ)

-- a part is the caller's own elements of what is lent from an element onward, as many as these are; an element has `size` bytes
pub record OwnPart (size : ℕ) (lent : Slice) (from : ℕ) (elements : List ℕ) (part : Slice) : Type 0 where
  -- the part has these elements and no others
  pub is : part.now ≡ elements
  -- it lies in the memory that is lent
  pub memory : part.ref_ptr.0 ≡ lent.ref_ptr.0
  -- it starts so many elements behind the start of what is lent
  pub place : part.ref_ptr.1 ≡ lent.ref_ptr.1 + from * size
  -- it ends within what is lent
  pub within : from + length elements ≤ length lent.now
  -- what is lent has these elements from there onward
  pub own : take (length elements) (drop from lent.now) ≡ elements

-- the caller's own bytes from a byte onward
abbrev pub OwnBytes : Slice → ℕ → List ℕ → Slice → Type 0
OwnBytes = OwnPart 1

-- the caller's own dwords from a dword onward
abbrev pub OwnDwords : Slice → ℕ → List ℕ → Slice → Type 0
OwnDwords = OwnPart 4

-- where a text lies that stands at a place; where there is no text, an empty part is handed out that lies at the start of what is lent
unfoldable pub or_start : ℕ → List ℕ → ℕ
or_start place [] = 0
or_start place (b ∷ text) = place

-- the caller's own bytes of a text that stands at a place, or the empty part
abbrev pub OwnText : Slice → ℕ → List ℕ → Slice → Type 0
OwnText lent place text part = OwnBytes lent (or_start place text) text part
