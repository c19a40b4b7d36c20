-- A walk over a table puts each entry to its offset where the dword there has none yet, so each dword ends with the first entry of its offset:
-- at every field, what the walk would still give each dword stays the same. Assumes nothing.
use Prim.Native.Nat.{ℕ, suc, ◌+◌, ◌<◌}
use mathlib.Core.Path.{◌≡◌, refl, sym, ap, ap₂, subst, ◌∙◌}
use mathlib.Core.Bool.{Bool, true, false, cond, ◌&&◌, and-true}
use mathlib.Core.List.{List, [], ◌∷◌}
use native.Mathlib.Omega.{arith}
use borrow.Author.Tests.{eqb-true, eqb-false, lt-ltb}
use lib.Dec.{eqb, ltb}
use lib.ListN.{length, get_or, set, take, length-set}
use lib.Seq.{get_or-set_same, get_or-set_other, take_all}
use Rattle.tlv.specs.declared.Step.TheVariants.{Field}
use Rattle.tlv.specs.Number.{number}
use Rattle.tlv.specs.Reading.{Part, Stands, field_at}
use Rattle.tlv.proofs.Places.{stands_narrows, stands_cut}
use Rattle.book.specs.Search.{type_at, fits, wanted, first_wanted}
use Rattle.book.specs.Finders.{place_of, type_of, inner_from, seek_of}
use Rattle.book.proofs.Steps.{Bare, field_bare}
use Rattle.book.proofs.Searching.{first_none, first_hit, first_miss}
use Rattle.packet.specs.declared.fill.Pick.{Pick}
use Rattle.packet.specs.declared.fill.Pick.TheVariants.{Any, Typed}
use Rattle.packet.specs.Field.{or_else}
use Rattle.packet.specs.Steps.{map_from, entry_of, filled}
use Rattle.packet.specs.Inner.{want_of, entry_from, picked, bare, with_entry}
use Rattle.packet.proofs.Fields.{none_else, some_else, else_none}

-- ---- lists by index

module _ (f g : ℕ → ℕ → ℕ) where
  pub map_alike : (k : ℕ) (m m' : List ℕ) → length m ≡ length m' → ((j : ℕ) → j < length m → f (k + j) (get_or m j 0) ≡ g (k + j) (get_or m' j 0))
      → map_from f k m ≡ map_from g k m'
  unfolding map_from
  map_alike k [] [] e h = refl
  map_alike k [] (q ∷ m') e h = absurd (omega arith)
  map_alike k (p ∷ m) [] e h = absurd (omega arith)
  map_alike k (p ∷ m) (q ∷ m') e h =
      let here : k + 0 ≡ k = omega arith in
      ap₂ ◌∷◌
      (subst (λ n. f n p ≡ g n q) here (h 0 (omega arith)))
      (map_alike (suc k) m m' (omega arith) (λ j lt. let up : k + suc j ≡ suc k + j = omega arith in subst (λ n. f n (get_or m j 0) ≡ g n (get_or m' j 0)) up (h (suc j) (omega arith))))

-- two ways to fill that give each dword the same
pub filled_alike : (e e' : ℕ → ℕ) (m m' : List ℕ) → length m ≡ length m'
    → ((i : ℕ) → i < length m → or_else (get_or m i 0) (e i) ≡ or_else (get_or m' i 0) (e' i)) → filled e m ≡ filled e' m'
unfolding filled
filled_alike e e' m m' n h = map_alike (λ i p. or_else p (e i)) (λ i p. or_else p (e' i)) 0 m m' n
    (λ j lt. let up : j ≡ 0 + j = omega arith in subst (λ k. or_else (get_or m j 0) (e k) ≡ or_else (get_or m' j 0) (e' k)) up (h j lt))

pub map_same : (f : ℕ → ℕ → ℕ) → ((i p : ℕ) → f i p ≡ p) → (k : ℕ) (m : List ℕ) → map_from f k m ≡ m
unfolding map_from
map_same f h k [] = refl
map_same f h k (p ∷ m) = ap₂ ◌∷◌ (h k p) (map_same f h (suc k) m)

-- nothing to take leaves all as found
pub filled_none : (e : ℕ → ℕ) → ((i : ℕ) → e i ≡ 0) → (m : List ℕ) → filled e m ≡ m
unfolding filled
filled_none e h m = map_same (λ i p. or_else p (e i)) (λ i p. ap (or_else p) (h i) ∙ else_none p) 0 m

pub length_map_from : (f : ℕ → ℕ → ℕ) (k : ℕ) (m : List ℕ) → length (map_from f k m) ≡ length m
unfolding map_from
length_map_from f k [] = refl
length_map_from f k (p ∷ m) = ap suc (length_map_from f (suc k) m)

pub length_filled : (e : ℕ → ℕ) (m : List ℕ) → length (filled e m) ≡ length m
unfolding filled
length_filled e m = length_map_from (λ i p. or_else p (e i)) 0 m

-- ---- one field

module _ (at : ℕ) (up : 0 < at) (later i : ℕ) (m : List ℕ) (within : i < length m) (o : ℕ) where
  -- an entry of this offset
  own : o ≡ i → (b : Bool) → or_else (get_or m i 0) (cond b at later) ≡ or_else (get_or (cond (bare m o && b) (set m o at) m) i 0) later
  unfolding bare
  own e b = by (eqb (get_or m o 0) 0) refl b
    where
      inside : o < length m
      inside = omega arith

      by : (z : Bool) → eqb (get_or m o 0) 0 ≡ z → (b : Bool)
          → or_else (get_or m i 0) (cond b at later) ≡ or_else (get_or (cond ((ltb o (length m) && eqb (get_or m o 0) 0) && b) (set m o at) m) i 0) later
      by true z true =
          let empty : get_or m i 0 ≡ 0 = sym (ap (λ (n : ℕ). get_or m n 0) e) ∙ eqb-true _ _ z in
          let put : get_or (set m o at) i 0 ≡ at = ap (λ (n : ℕ). get_or (set m o at) n 0) (sym e) ∙ get_or-set_same m o at 0 inside in
          none_else at (get_or m i 0) empty ∙ sym (rw (lt-ltb o (length m) inside, z, put) (some_else later at (λ n. absurd (omega arith))))
      by true z false = rw (lt-ltb o (length m) inside, z)
      by false z b =
          let full : get_or m i 0 ≡ 0 → ⊥ = λ n. eqb-false _ _ z (ap (λ (k : ℕ). get_or m k 0) e ∙ n) in
          some_else (cond b at later) (get_or m i 0) full ∙ sym (rw (lt-ltb o (length m) inside, z) (some_else later (get_or m i 0) full))

  -- an entry of another offset
  other : (o ≡ i → ⊥) → (b : Bool) → or_else (get_or m i 0) later ≡ or_else (get_or (cond b (set m o at) m) i 0) later
  other n true = ap (λ (p : ℕ). or_else p later) (sym (get_or-set_other m o i at 0 (λ e. n (sym e))))
  other n false = refl

  -- a field, which is an entry that counts or not
  at_index : (t b : Bool)
      → or_else (get_or m i 0) (cond (t && (eqb o i && b)) at later) ≡ or_else (get_or (cond (t && (bare m o && b)) (set m o at) m) i 0) later
  at_index false b = refl
  at_index true b = by (eqb o i) refl
    where
      by : (d : Bool) → eqb o i ≡ d → or_else (get_or m i 0) (cond (eqb o i && b) at later) ≡ or_else (get_or (cond (bare m o && b) (set m o at) m) i 0) later
      by true e = rw e (own (eqb-true o i e) b)
      by false e = rw e (other (eqb-false _ _ e) (bare m o && b))

-- a field put to its offset leaves the number of places
pub length_with : (pick : Pick) (name s : List ℕ) (tag at from : ℕ) (m : List ℕ) → length (with_entry pick name s tag at from m) ≡ length m
unfolding with_entry
length_with pick name s tag at from m = by (eqb tag 3 && (bare m (number 2 s from) && picked pick (type_of s at) name))
  where
    by : (b : Bool) → length (cond b (set m (number 2 s from) at) m) ≡ length m
    by true = length-set m (number 2 s from) at
    by false = refl

module _ (pick : Pick) (name s : List ℕ) where
  -- what is wanted of an offset: an entry of that offset whose type counts
  wanted_is : (p : Part) → Stands s p → (i : ℕ)
      → wanted (want_of pick i) name s p
      ≡ (eqb p.tag 3 && (eqb (number 2 (take p.to s) p.from) i && picked pick (type_of (take p.to s) p.at) name))
  unfolding wanted type_of fits
  wanted_is p stands i = by pick
    where
      u : List ℕ
      u = take p.to s

      whole : Stands u p
      whole = stands_narrows s p.to p (omega arith) stands

      type_is : type_of u p.at ≡ type_at u p.from
      type_is = rw whole (ap (λ (l : List ℕ). type_at l p.from) (take_all p.to u (let e = stands_cut s p stands in omega arith)))

      by : (k : Pick)
          → wanted (want_of k i) name s p ≡ (eqb p.tag 3 && (eqb (number 2 u p.from) i && picked k (type_of u p.at) name))
      by Any = ap (◌&&◌ (eqb p.tag 3)) (sym (and-true (eqb (number 2 u p.from) i)))
      by Typed = rw type_is

  -- the first entry of an offset is the field there, if it is one, else the first behind it
  entry_step : (p : Part) → Stands s p → (i : ℕ)
      → entry_from pick name s p.at i
      ≡ cond (eqb p.tag 3 && (eqb (number 2 (take p.to s) p.from) i && picked pick (type_of (take p.to s) p.at) name))
      p.at (entry_from pick name s p.to i)
  unfolding entry_from first_wanted
  entry_step p stands i = rw (sym (wanted_is p stands i)) (by (wanted (want_of pick i) name s p) refl)
    where
      by : (b : Bool) → wanted (want_of pick i) name s p ≡ b
          → place_of (first_wanted (want_of pick i) name s p.at) ≡ cond b p.at (place_of (first_wanted (want_of pick i) name s p.to))
      by true h = ap place_of (first_hit (wanted (want_of pick i) name s) s p stands h)
      by false h = ap place_of (first_miss (wanted (want_of pick i) name s) s p stands h)

  -- a field put to its offset changes nothing of what the walk gives in the end
  pub fill_field : (p : Part) → Stands s p → 0 < p.at → (m : List ℕ)
      → filled (entry_from pick name s p.at) m
      ≡ filled (entry_from pick name s p.to) (with_entry pick name (take p.to s) p.tag p.at p.from m)
  unfolding with_entry
  fill_field p stands up m =
      filled_alike (entry_from pick name s p.at) (entry_from pick name s p.to) m (with_entry pick name u p.tag p.at p.from m)
      (sym (length_with pick name u p.tag p.at p.from m))
      (λ i within. ap (or_else (get_or m i 0)) (entry_step p stands i)
      ∙ at_index p.at up (entry_from pick name s p.to i) i m within o (eqb p.tag 3) (picked pick (type_of u p.at) name))
    where
      u : List ℕ
      u = take p.to s

      o : ℕ
      o = number 2 u p.from

  -- where no field stands the walk is done
  pub fill_end : (at : ℕ) → Bare (field_at s at) → (m : List ℕ) → filled (entry_from pick name s at) m ≡ m
  unfolding entry_from first_wanted
  fill_end at h m = filled_none (entry_from pick name s at) (λ i. ap place_of (first_none (wanted (want_of pick i) name s) s at h)) m

-- ---- a table

module _ (name s : List ℕ) (table : ℕ) where
  -- no table, nothing to take
  pub fill_no_table : (pick : Pick) → Bare (field_at s table) → (m : List ℕ) → filled (entry_of pick name s table) m ≡ m
  unfolding entry_of seek_of
  fill_no_table Any h m = filled_none (entry_of Any name s table) (λ i. ap place_of (field_bare _ _ (field_at s table) h)) m
  fill_no_table Typed h m = filled_none (entry_of Typed name s table) (λ i. ap place_of (field_bare _ _ (field_at s table) h)) m

  -- the entries of a table are the fields inside it
  pub entry_inside : (pick : Pick) {tag from to : ℕ} → field_at s table ≡ Field tag from to → (i : ℕ)
      → entry_from pick name (take to s) (inner_from tag (take to s) from) i ≡ entry_of pick name s table i
  unfolding entry_of entry_from seek_of first_wanted wanted fits
  entry_inside Any e i = rw e
  entry_inside Typed e i = rw e

-- what is inside a table fills as the table does
pub fill_table : (pick : Pick) (name s : List ℕ) (table : ℕ) {tag from to : ℕ} → field_at s table ≡ Field tag from to
    → (start : ℕ) → start ≡ inner_from tag (take to s) from → (m : List ℕ)
    → filled (entry_from pick name (take to s) start) m ≡ filled (entry_of pick name s table) m
fill_table pick name s table {tag} {from} {to} e start h m =
    filled_alike (entry_from pick name (take to s) start) (entry_of pick name s table) m m refl
    (λ i lt. ap (or_else (get_or m i 0)) (ap (λ (k : ℕ). entry_from pick name (take to s) k i) h ∙ entry_inside name s table pick e i))
