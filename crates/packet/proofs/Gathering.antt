-- The dwords of one name, from the first on: the values are that dword's and those of the dwords behind it. Assumes nothing.
use Rattle.std.specs.Prelude.{None, Some}
use Prim.Native.Nat.{ℕ, suc, ◌+◌, ◌≤◌, ◌<◌, min}
use mathlib.Core.Path.{◌≡◌, refl, sym, ap, ◌∙◌}
use mathlib.Core.Bool.{Bool, true, false, cond}
use mathlib.Core.List.{List, [], ◌∷◌, ◌++◌, append-nil, append_assoc}
use native.Mathlib.Numerals.{add-one}
use native.Mathlib.Omega.{arith}
use Rattle.std.proofs.lemmas.List.{take_more_set}
use lib.ListN.{length, get_or, set, take, drop, length-set, drop_of_length-le}
use lib.Dec.{leb}
use lib.Seq.{drop-cons, take_all, length-take-le}
use borrow.Author.Tests.{leb-true, leb-false}
use Rattle.packet.specs.declared.field.Ask.TheVariants.{Named}
use Rattle.packet.specs.Field.{asks}
use Rattle.packet.specs.Steps.{values_named, exactly_four, gathered}
use Rattle.packet.specs.Packet.{first_from}

-- ---- the first index

module _ (ok : ℕ → Bool) (ps : List ℕ) (i : ℕ) where
  -- no index is left
  pub first_over : length ps ≤ i → first_from ok i (drop i ps) ≡ None
  unfolding first_from
  first_over h = rw (drop_of_length-le ps h)

  -- this one
  pub first_here : i < length ps → ok (get_or ps i 0) ≡ true → first_from ok i (drop i ps) ≡ Some i
  unfolding first_from
  first_here lt h = rw (drop-cons ps i 0 lt, h)

  -- a later one
  pub first_later : i < length ps → ok (get_or ps i 0) ≡ false → first_from ok i (drop i ps) ≡ first_from ok (i + 1) (drop (i + 1) ps)
  unfolding first_from
  first_later lt h =
      let up : suc i ≡ i + 1 = omega arith in
      rw (drop-cons ps i 0 lt, h) (ap (λ (k : ℕ). first_from ok k (drop k ps)) up)

-- what is found lies inside
pub first_within : (ok : ℕ → Bool) (i j : ℕ) (ps : List ℕ) → first_from ok i ps ≡ Some j → j < i + length ps
unfolding first_from
first_within ok i j [] e = absurd (let z : ◌≡◌ {A = ℕ} 0 1 = cc in omega arith)
first_within ok i j (p ∷ ps) e = by (ok p) (first_within ok (suc i) j ps) e
  where
    by : (b : Bool) → (first_from ok (suc i) ps ≡ Some j → j < suc i + length ps) → cond b (Some i) (first_from ok (suc i) ps) ≡ Some j → j < i + suc (length ps)
    by true later e = let same : i ≡ j = cc in omega arith
    by false later e = let w = later e in omega arith

-- what is found is as asked
pub first_is : (ok : ℕ → Bool) (i j : ℕ) (ps : List ℕ) → first_from ok i ps ≡ Some j → (a : ℕ) × (j ≡ i + a) × (ok (get_or ps a 0) ≡ true)
unfolding first_from
first_is ok i j [] e = absurd (let z : ◌≡◌ {A = ℕ} 0 1 = cc in omega arith)
first_is ok i j (p ∷ ps) e = by (ok p) refl (first_is ok (suc i) j ps) e
  where
    by : (b : Bool) → ok p ≡ b → (first_from ok (suc i) ps ≡ Some j → (a : ℕ) × (j ≡ suc i + a) × (ok (get_or ps a 0) ≡ true))
        → cond b (Some i) (first_from ok (suc i) ps) ≡ Some j → (a : ℕ) × (j ≡ i + a) × (ok (get_or (p ∷ ps) a 0) ≡ true)
    by true h later e = let same : i ≡ j = cc in (0, omega arith, h)
    by false h later e = let w = later e in (suc w.0, omega (arith, w.1), w.2)

-- ---- the values

more_than_four : (l : List ℕ) → length l ≡ 4 → (x : ℕ) (later : List ℕ) → exactly_four (l ++ (x ∷ later)) ≡ None
more_than_four [] n x later = absurd (omega (arith, n))
more_than_four (a ∷ []) n x later = absurd (omega (arith, n))
more_than_four (a ∷ b ∷ []) n x later = absurd (omega (arith, n))
more_than_four (a ∷ b ∷ c ∷ []) n x later = absurd (omega (arith, n))
more_than_four (a ∷ b ∷ c ∷ d ∷ []) n x later = refl
more_than_four (a ∷ b ∷ c ∷ d ∷ e ∷ l) n x later = absurd (omega (arith, n))

fewer_than_four : (l : List ℕ) → length l < 4 → None ≡ exactly_four l
fewer_than_four [] n = refl
fewer_than_four (a ∷ []) n = refl
fewer_than_four (a ∷ b ∷ []) n = refl
fewer_than_four (a ∷ b ∷ c ∷ []) n = refl
fewer_than_four (a ∷ b ∷ c ∷ d ∷ l) n = absurd (omega (arith, n))

just_four : (l : List ℕ) → length l ≡ 4
    → Some (record { first = get_or l 0 0; second = get_or l 1 0; third = get_or l 2 0; fourth = get_or l 3 0 }) ≡ exactly_four l
just_four [] n = absurd (omega (arith, n))
just_four (a ∷ []) n = absurd (omega (arith, n))
just_four (a ∷ b ∷ []) n = absurd (omega (arith, n))
just_four (a ∷ b ∷ c ∷ []) n = absurd (omega (arith, n))
just_four (a ∷ b ∷ c ∷ d ∷ []) n = refl
just_four (a ∷ b ∷ c ∷ d ∷ e ∷ l) n = absurd (omega (arith, n))

no_dwords : (s name ps : List ℕ) → values_named s name [] ps ≡ []
unfolding values_named
no_dwords s name ps = refl

no_places : (s name ds : List ℕ) → values_named s name ds [] ≡ []
unfolding values_named
no_places s name [] = refl
no_places s name (d ∷ ds) = refl

module _ (s name ds ps : List ℕ) where
  -- the values so far, n of four, and those of the dwords that are left
  pub record Gathered (values : List ℕ) (n i : ℕ) : Type 0 where
    pub fit : n ≤ 4
    pub room : length values ≡ 4
    pub so_far : values_named s name ds ps ≡ take n values ++ values_named s name (drop i ds) (drop i ps)

  pub gather_start : Gathered (0 ∷ 0 ∷ 0 ∷ 0 ∷ []) 0 0
  gather_start = record { fit = omega arith; room = refl; so_far = refl }

  module _ {values : List ℕ} {n i : ℕ} (g : Gathered values n i) where
    module _ (in_ds : i < length ds) (in_ps : i < length ps) where
      hit : asks Named s name (get_or ps i 0) ≡ true
          → values_named s name (drop i ds) (drop i ps) ≡ get_or ds i 0 ∷ values_named s name (drop (i + 1) ds) (drop (i + 1) ps)
      unfolding values_named
      hit h = rw (drop-cons ds i 0 in_ds, drop-cons ps i 0 in_ps, h, add-one) refl

      -- a dword of that name, while there is room
      pub gather_next : asks Named s name (get_or ps i 0) ≡ true → n < 4 → Gathered (set values n (get_or ds i 0)) (n + 1) (i + 1)
      gather_next h lt =
          let inside : n < length values = omega (arith, lt, g.room) in
          let later : List ℕ = values_named s name (drop (i + 1) ds) (drop (i + 1) ps) in
          record {
            fit = omega (arith, lt);
            room = length-set values n (get_or ds i 0) ∙ g.room;
            so_far =
                g.so_far ∙ ap (◌++◌ (take n values)) (hit h) ∙ sym (append_assoc (take n values) (get_or ds i 0 ∷ []) later)
                ∙ ap (λ (l : List ℕ). l ++ later) (sym (take_more_set values n (get_or ds i 0) inside));
          }

      miss : asks Named s name (get_or ps i 0) ≡ false
          → values_named s name (drop i ds) (drop i ps) ≡ values_named s name (drop (i + 1) ds) (drop (i + 1) ps)
      unfolding values_named
      miss h = rw (drop-cons ds i 0 in_ds, drop-cons ps i 0 in_ps, h, add-one) refl

      -- a dword of another name
      pub gather_pass : asks Named s name (get_or ps i 0) ≡ false → Gathered values n (i + 1)
      gather_pass h = record { fit = g.fit; room = g.room; so_far = g.so_far ∙ ap (◌++◌ (take n values)) (miss h) }

      -- a fifth
      pub gather_more : asks Named s name (get_or ps i 0) ≡ true → 3 < n → None ≡ gathered s name ds ps
      unfolding gathered
      gather_more h lt =
          let later : List ℕ = values_named s name (drop (i + 1) ds) (drop (i + 1) ps) in
          let whole : take n values ≡ values = take_all n values (omega (arith, lt, g.room)) in
          sym
          (ap exactly_four (g.so_far ∙ ap (◌++◌ (take n values)) (hit h) ∙ ap (λ (l : List ℕ). l ++ (get_or ds i 0 ∷ later)) whole)
          ∙ more_than_four values g.room (get_or ds i 0) later)

    -- no dword is left
    module _ (over : min (length ds) (length ps) ≤ i) where
      none_left : values_named s name (drop i ds) (drop i ps) ≡ []
      none_left = by (leb (length ds) i) refl
        where
          by : (b : Bool) → leb (length ds) i ≡ b → values_named s name (drop i ds) (drop i ps) ≡ []
          by true e = ap (λ (l : List ℕ). values_named s name l (drop i ps)) (drop_of_length-le ds (leb-true (length ds) i e)) ∙ no_dwords s name (drop i ps)
          by false e =
              ap (values_named s name (drop i ds)) (drop_of_length-le ps (omega (arith, over, leb-false (length ds) i e)))
              ∙ no_places s name (drop i ds)

      all_so_far : values_named s name ds ps ≡ take n values
      all_so_far = g.so_far ∙ ap (◌++◌ (take n values)) none_left ∙ append-nil (take n values)

      -- fewer than four
      pub gather_few : n < 4 → None ≡ gathered s name ds ps
      unfolding gathered
      gather_few lt =
          fewer_than_four (take n values) (rw (length-take-le n values (omega (arith, g.room, lt))) lt) ∙ ap exactly_four (sym all_so_far)

      -- just four
      pub gather_four : 4 ≤ n
          → Some (record { first = get_or values 0 0; second = get_or values 1 0; third = get_or values 2 0; fourth = get_or values 3 0 }) ≡ gathered s name ds ps
      unfolding gathered
      gather_four le =
          just_four values g.room
          ∙ ap exactly_four (sym (all_so_far ∙ take_all n values (omega (arith, le, g.room))))
