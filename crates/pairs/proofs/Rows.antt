-- The table of the keys: no name stands twice in it, so what a name is tells of every row at once whether the name is its key's. Assumes
-- nothing.
use Prim.Native.Nat.{ℕ, zero, suc, ◌+◌, ◌≤◌, ◌<◌}
use mathlib.Core.Path.{◌≡◌, refl, sym, ap, ◌∙◌}
use mathlib.Core.Bool.{Bool, true, false, ◌||◌}
use mathlib.Core.List.{List, [], ◌∷◌}
use native.Mathlib.Omega.{arith}
use lib.Dec.{eqb}
use lib.ListN.{length}
use borrow.Author.Tests.{eq-eqb, ne_eqb, eqb-true}
use Rattle.text.specs.Same.{same_text}
use Rattle.text.proofs.Places.{clash}
use Rattle.text.proofs.Texts.{same_refl, same_true}
use Rattle.text.proofs.Computed.{has, once, once_first}
use Rattle.pairs.specs.declared.keys.Form.{Form}
use Rattle.pairs.specs.Table.{Key, Row, keys, row_in, row_at, row_takes, key_after, unknown, key_named}

abbrev names : List Row → List (List ℕ)
names [] = []
names (q ∷ qs) = q.name ∷ names qs

-- neither half holds where the whole does not
neither_left : (a b : Bool) → (a || b) ≡ false → a ≡ false
neither_left true b e = e
neither_left false b e = refl

neither_right : (a b : Bool) → (a || b) ≡ false → b ≡ false
neither_right true b e = absurd (let z : ◌≡◌ {A = ℕ} 0 1 = cc in omega arith)
neither_right false b e = e

-- a name that no row has is no row's
has_none : (name : List ℕ) (qs : List Row) → has (names qs) name ≡ false → (k : ℕ) → k < length qs → same_text name (row_in qs k).name ≡ false
has_none name [] e k h = absurd (omega arith)
has_none name (q ∷ qs) e zero h = neither_left _ _ e
has_none name (q ∷ qs) e (suc k) h = has_none name qs (neither_right (same_text name q.name) _ e) k (omega arith)

-- rows of one name are one row
one_row : (name : List ℕ) (qs : List Row) → once (names qs) ≡ true → (j k : ℕ) → j < length qs → k < length qs →
    same_text name (row_in qs j).name ≡ true → same_text name (row_in qs k).name ≡ true → j ≡ k
one_row name [] o j k h l s t = absurd (omega arith)
one_row name (q ∷ qs) o j k h l s t = go j k h l s t (λ a b x y u v. one_row name qs (once_first q.name (names qs) o).1 a b x y u v)
  where
    -- no row behind the first has its name
    first_alone : (i : ℕ) → i < length qs → same_text name q.name ≡ true → same_text name (row_in qs i).name ≡ true → ⊥
    first_alone i x u v =
        let none = has_none q.name qs (once_first q.name (names qs) o).0 i x in
        clash v (rw (same_true name q.name u) none)

    go : (j k : ℕ) → j < length (q ∷ qs) → k < length (q ∷ qs) → same_text name (row_in (q ∷ qs) j).name ≡ true →
        same_text name (row_in (q ∷ qs) k).name ≡ true →
        ((a b : ℕ) → a < length qs → b < length qs → same_text name (row_in qs a).name ≡ true → same_text name (row_in qs b).name ≡ true → a ≡ b) →
        j ≡ k
    go zero zero h l s t rest = refl
    go zero (suc k) h l s t rest = absurd (first_alone k (omega arith) s t)
    go (suc j) zero h l s t rest = absurd (first_alone j (omega arith) t s)
    go (suc j) (suc k) h l s t rest = ap suc (rest j k (omega arith) (omega arith) s t)

-- what a name is behind rows: what it was, and no row has it; or a row that has it, by its place and form
pub data Taken (name : List ℕ) (n : ℕ) (qs : List Row) (before after : Key) : Type 0 where
  by_none : ((k : ℕ) → k < length qs → same_text name (row_in qs k).name ≡ false) → after ≡ before → Taken name n qs before after
  by_row : (k : ℕ) → k < length qs → same_text name (row_in qs k).name ≡ true → after.row ≡ n + k → after.form ≡ (row_in qs k).form →
      Taken name n qs before after

pub taken_by : (name : List ℕ) (n : ℕ) (qs : List Row) (key : Key) → Taken name n qs key (key_after name n qs key)
unfolding key_after
taken_by name n [] key = by_none (λ k h. absurd (omega arith)) refl
taken_by name n (q ∷ qs) key = go (same_text name q.name) refl (taken_by name (suc n) qs after_first)
  where
    here : Key
    here = record { row = n; form = q.form }

    after_first : Key
    after_first = row_takes name q.name here key

    -- the first row, and then each of the others
    none : same_text name q.name ≡ false → ((k : ℕ) → k < length qs → same_text name (row_in qs k).name ≡ false) →
        (k : ℕ) → k < length (q ∷ qs) → same_text name (row_in (q ∷ qs) k).name ≡ false
    none f rest zero h = f
    none f rest (suc k) h = rest k (omega arith)

    go : (b : Bool) → same_text name q.name ≡ b →
        Taken name (suc n) qs (row_takes name q.name here key) (key_after name (suc n) qs (row_takes name q.name here key)) →
        Taken name n (q ∷ qs) key (key_after name (suc n) qs (row_takes name q.name here key))
    go b e (by_row k h t r f) = by_row (suc k) (omega arith) t (r ∙ omega arith) f
    go true e (by_none rest s) =
        let is : key_after name (suc n) qs (row_takes name q.name here key) ≡ here = s ∙ rw e in
        by_row 0 (omega arith) e (ap (λ (x : Key). x.row) is ∙ omega arith) (ap (λ (x : Key). x.form) is)
    go false e (by_none rest s) = by_none (none e rest) (s ∙ rw e)

-- the one test that the table must pass
keys_once : once (names keys) ≡ true
unfolding keys
keys_once = refl

module _ (name : List ℕ) where
  -- a name is a row's own exactly where it is that row
  pub key_same : (k : ℕ) → k < length keys → same_text name (row_at k).name ≡ eqb (key_named name).row k
  unfolding row_at unknown key_named
  key_same k h = go (taken_by name 0 keys unknown) (same_text name (row_in keys k).name) refl
    where
      go : {after : Key} → Taken name 0 keys unknown after → (b : Bool) → same_text name (row_in keys k).name ≡ b →
          b ≡ eqb after.row k
      go {after} (by_none none same) true t = absurd (clash t (none k h))
      go {after} (by_none none same) false t = sym (ne_eqb after.row k (λ q. omega (arith, ap (λ (x : Key). x.row) same)))
      go {after} (by_row j l s r f) true t = sym (eq-eqb after.row k (omega (arith, r, one_row name keys keys_once j k l h s t)))
      go {after} (by_row j l s r f) false t =
          sym (ne_eqb after.row k (λ q. let same : j ≡ k = omega (arith, r) in clash s (rw same t)))

  -- and it is read as that row says
  pub key_form : (k : ℕ) → k < length keys → (key_named name).row ≡ k → (key_named name).form ≡ (row_at k).form
  unfolding row_at unknown key_named
  key_form k h e = go (taken_by name 0 keys unknown) e
    where
      go : {after : Key} → Taken name 0 keys unknown after → after.row ≡ k → after.form ≡ (row_in keys k).form
      go (by_none none same) q = absurd (omega (arith, ap (λ (x : Key). x.row) same))
      go (by_row j l s r f) q = let same : j ≡ k = omega (arith, r) in f ∙ ap (λ (i : ℕ). (row_in keys i).form) same

  pub key_within : (key_named name).row ≤ length keys
  unfolding unknown key_named
  key_within = go (taken_by name 0 keys unknown)
    where
      go : {after : Key} → Taken name 0 keys unknown after → after.row ≤ length keys
      go (by_none none same) = omega (arith, ap (λ (x : Key). x.row) same)
      go (by_row j l s r f) = omega (arith, r)

  -- a name that is no row's is the one that stands behind the last
  pub key_none : length keys ≤ (key_named name).row → key_named name ≡ unknown
  unfolding unknown key_named
  key_none h = go (taken_by name 0 keys unknown) h
    where
      go : {after : Key} → Taken name 0 keys unknown after → length keys ≤ after.row → after ≡ unknown
      go (by_none none same) l = same
      go (by_row j l s r f) m = absurd (omega (arith, r))

-- a key is its row and its form
pub key_parts : (key : Key) {row : ℕ} {form : Form} → key.row ≡ row → key.form ≡ form → key ≡ record { row = row; form = form }
key_parts key a b = rw (← a, ← b)

-- a row's own name is that row
pub key_own : (k : ℕ) → k < length keys → key_named (row_at k).name ≡ record { row = k; form = (row_at k).form }
key_own k h =
    let own : (key_named (row_at k).name).row ≡ k = eqb-true _ _ (sym (key_same (row_at k).name k h) ∙ same_refl (row_at k).name) in
    key_parts _ own (key_form (row_at k).name k h own)
