-- When each number applies to a packet: the table of document 01, said of the book's tables and not of a search for them.
-- Assumes nothing.
use Rattle.std.specs.Prelude.{ℕ, ◌<◌, ◌≡◌, true, cond, List, ◌∷◌, ◌++◌, eqb, length}
use Rattle.book.specs.Grammar.{Owner, kind, uuid, Table, IsBook}
use Rattle.packet.specs.Packet.{is_read_response_or_write_request, is_xdomain, zero_uuid}

-- the book has a table of that kind or UUID
pub record Has (s : List ℕ) (owner : Owner) (table : Table) : Type 0 where
  pub book : IsBook s
  pub before : List Table
  pub behind : List Table
  pub among : book.tables ≡ before ++ (table ∷ behind)
  pub owner_is : table.owner ≡ owner

-- it has none
abbrev pub HasNot : List ℕ → Owner → Type 0
HasNot s owner = (table : Table) → Has s owner table → ⊥

-- number 23: kind 8 or 9 and no header table
pub record NoHeader (k : ℕ) (s : List ℕ) : Type 0 where
  pub crossing : is_xdomain k ≡ true
  pub none : HasNot s (uuid zero_uuid)

-- number 25: kind 2 or 3, fewer dwords than table entries
pub record TooFew (k : ℕ) (s : List ℕ) (count : ℕ) : Type 0 where
  pub viewing : is_read_response_or_write_request k ≡ true
  pub table : Table
  pub has : Has s (kind k) table
  pub fewer : count < length table.entries

-- when a number applies to a packet of a kind, with so many dwords and so many places lent; no other number does
unfoldable pub Condition : ℕ → List ℕ → ℕ → ℕ → ℕ → Type 0
Condition k s count room number =
    cond (eqb number 20) (IsBook s → ⊥)
    (cond (eqb number 21) (k ≡ 0)
    (cond (eqb number 22) (HasNot s (kind k))
    (cond (eqb number 23) (NoHeader k s)
    (cond (eqb number 24) (256 < count)
    (cond (eqb number 25) (TooFew k s count)
    (cond (eqb number 26) (room < count)
    ⊥))))))

-- a number is the answer when it applies and no earlier one does
pub record Applies (k : ℕ) (s : List ℕ) (count room number : ℕ) : Type 0 where
  pub holds : Condition k s count room number
  pub first : (j : ℕ) → j < number → Condition k s count room j → ⊥
