-- The first that is so, and the one else the other: what document 01 means by both, over a list and with no search.
-- Assumes nothing.
use Rattle.std.specs.Prelude.{◌≡◌, List, ◌∷◌, ◌++◌, ◌⊎◌, None, Option, Some}
use Rattle.tlv.specs.Grammar.{All}

module _ {X : Type 0} (So : X → Type 0) where
  -- none of them is so
  abbrev pub NoneOf : List X → Type 0
  NoneOf = All (λ x. So x → ⊥)

  -- the first of them that is so: none before it is
  pub record First (xs : List X) (x : X) : Type 0 where
    pub before : List X
    pub behind : List X
    pub among : xs ≡ before ++ (x ∷ behind)
    pub so : So x
    pub none_before : NoneOf before

  -- the first that is so, or nothing where none is
  abbrev pub FirstOf : List X → Option X → Type 0
  FirstOf xs (Some x) = First xs x
  FirstOf xs None = NoneOf xs

-- the one, else the other
abbrev pub Else : {X : Type 0} → (Option X → Type 0) → (Option X → Type 0) → Option X → Type 0
Else P Q (Some x) = P (Some x) ⊎ (P None × Q (Some x))
Else P Q None = P None × Q None
