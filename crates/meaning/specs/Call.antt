-- What the packet call answers and writes, by the relation: the promise that an auditor reads.
-- Assumes nothing.
use Rattle.std.specs.Prelude.{ℕ, ◌<◌, ◌≡◌, List, ◌++◌, length, drop, None, Option, Some}
use Rattle.text.specs.Told.{Told, is, absent, refused}
use Rattle.book.specs.declared.Uuid.{Uuid}
use Rattle.book.specs.Grammar.{IsBook}
use Rattle.packet.specs.declared.Packet.{Packet}
use Rattle.meaning.specs.Packet.{Description, IsPacket, Refuses}
use Rattle.meaning.specs.Places.{PlacesOf}

-- ---- numbers 20 to 26, of so many dwords and so many places lent

module _ (k : ℕ) (s : List ℕ) (count room : ℕ) where
  -- a number applies: 20 to a text that is no book, another to the tables of one
  pub data Applies (number : ℕ) : Type 0 where
    no_book : (IsBook s → ⊥) → number ≡ 20 → Applies number
    of_tables : (b : IsBook s) → Refuses k b.tables count room number → Applies number

  -- checks run in number order: a number is the answer when it applies and no earlier one does
  pub record IsNumber (number : ℕ) : Type 0 where
    pub applies : Applies number
    pub first : (j : ℕ) → j < number → Applies j → ⊥

  -- the text is a book, and no number applies
  pub record NoNumber (b : IsBook s) : Type 0 where
    pub none : (j : ℕ) → Refuses k b.tables count room j → ⊥

-- ---- the answer

-- a packet: no number applies; its descriptions, UUID and view are the relation's; and the place list has the place of each entry and no more
pub record Answered (k : ℕ) (s ds out exit : List ℕ) (p : Packet) : Type 0 where
  pub book : IsBook s
  pub no_number : NoNumber k s (length ds) (length out) book
  pub descriptions : List (Option Description)
  pub is : IsPacket k book.tables ds descriptions (p.uuid) (p.start)
  pub kind_is : p.kind ≡ k
  pub dwords_are : p.dwords ≡ length ds
  pub places : List ℕ
  pub places_are : PlacesOf book.tables descriptions places
  pub written : exit ≡ places ++ drop (length ds) out

-- a number: the first that applies, and nothing is written
abbrev pub Means : ℕ → List ℕ → List ℕ → List ℕ → List ℕ → Told Packet → Type 0
Means k s ds out exit (is p) = Answered k s ds out exit p
Means k s ds out exit absent = ⊥
Means k s ds out exit (refused n) = IsNumber k s (length ds) (length out) n × (exit ≡ out)
