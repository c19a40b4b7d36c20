-- What a part of a stream ends and leaves open, where of each unit only so many bytes are kept.
use Rattle.std.specs.Prelude.{ℕ, ◌+◌, ◌-◌, ◌≤◌, ◌<◌, ◌≡◌, Bool, true, false, cond, Option, Some, None, List, [], ◌∷◌, ◌++◌, length, take, drop}
use Rattle.std.proofs.lemmas.List.Edits.{sets}
use Rattle.framing.specs.declared.Framing.{Framing}
use Rattle.framing.specs.declared.Fed as FedModule
use Rattle.framing.specs.Units.{is_whole}

module _ (f : Framing) (cap : ℕ) where
  -- the units that bytes end, cut to what is kept, given what is held of the open one
  unfoldable pub ended : List ℕ → List ℕ → List (List ℕ)
  ended held [] = []
  ended held (b ∷ s) = cond (is_whole f (held ++ (b ∷ []))) (take cap (held ++ (b ∷ [])) ∷ ended [] s) (ended (take cap (held ++ (b ∷ []))) s)

  -- what is held of the open one after them
  unfoldable pub left : List ℕ → List ℕ → List ℕ
  left held [] = held
  left held (b ∷ s) = cond (is_whole f (held ++ (b ∷ []))) (left [] s) (left (take cap (held ++ (b ∷ []))) s)

-- how many units bytes end
unfoldable pub units_in : Framing → List ℕ → ℕ
units_in f s = length (ended f 65539 [] s)

-- the bytes of a part from one place to another
unfoldable pub between : List ℕ → ℕ → ℕ → List ℕ
between s a b = take (b - a) (drop a s)

-- where a unit ends, or the part does, and whether the unit is whole there
pub record UnitEnd : Type 0 where
  pub at : ℕ
  pub whole : Bool

-- a part that does not end the unit is all of it
abbrev pub end_of : List ℕ → Option ℕ → UnitEnd
end_of s (Some at) = record { at = at; whole = true }
end_of s None = record { at = length s; whole = false }

-- the answer is the first place behind `from` up to which the open unit is whole, and that it is; else the part's end, and that it is not
pub record Ends (f : Framing) (s : List ℕ) (from : ℕ) (held : List ℕ) (r : UnitEnd) : Type 0 where
  pub on : from < r.at
  pub within : r.at ≤ length s
  pub whole_is : r.whole ≡ is_whole f (held ++ between s from r.at)
  pub none_before : (k : ℕ) → from < k → k < r.at → is_whole f (held ++ between s from k) ≡ false
  pub all_of_it : r.whole ≡ false → r.at ≡ length s

-- the answer, and each byte of the unit
pub record Fed (f : Framing) (s : List ℕ) (from : ℕ) (unit : List ℕ) (held : ℕ) (exit : List ℕ) (r : FedModule.Fed) : Type 0 where
  pub ends : Ends f s from (take held unit) (record { at = r.at; whole = r.whole })
  pub unit_is : exit ≡ sets unit held (take (length unit - held) (between s from r.at))
  pub held_is : r.held ≡ held + length (take (length unit - held) (between s from r.at))
  pub held_within : r.held ≤ length unit
