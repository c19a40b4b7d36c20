-- Taking and freeing keep the table and the list together: the ranks are counted in `Counts`, and slot by slot each four stays at the place in the list
-- that its rank tells. Assumes nothing.
use Prim.Native.Nat.{ℕ, suc, ◌+◌, ◌-◌, ◌<◌, ◌≤◌, ◌^◌}
use native.Mathlib.Omega.{arith}
use mathlib.Core.Path.{◌≡◌, refl, sym, ◌∙◌, ap}
use mathlib.Core.Bool.{Bool, true, false, cond}
use mathlib.Core.List.{List, [], ◌∷◌, ◌++◌}
use lib.ListN.{length, get_or, set, take, drop, length-append, length-drop, length-set, length-map, get_or-append, get_or-map}
use lib.Seq.{get_or_at, get_or-take, get_or-drop, get_or-append-add, length-take-le, get_or-set_same, get_or-set_other}
use lib.Dec.{eqb, ltb}
use borrow.Author.Tests.{eqb-true, eqb-false, ltb-true, ltb-false}
use Rattle.slots.specs.declared.Four.{Four}
use Rattle.slots.specs.declared.Slot.{Slot}
use Rattle.slots.specs.Decide.{free_slot, lower_of, lowered_of}
use Rattle.pending.specs.Table.{rank_at, waiting, tally}
use Rattle.pending.specs.Step.{newcomer, freed}
use Rattle.matched.specs.Holds.{request_at, Holds}
use Rattle.pending.proofs.Sounds.{tally_none}
use Rattle.matched.proofs.Counts.{Lowered, this, later, earlier, lowered_is, tally_take, waiting_take, tally_earlier, tally_later, waiting_free}

-- what `Holds` says of one slot
pub record Fits (s : Slot) (l : List Four) : Type 0 where
  pub within : s.rank ≤ length l
  pub placed : 0 < s.rank → s.four ≡ request_at l (s.rank - 1)
  pub plain : 0 < s.rank → s.four.route < 2 ^ 63
  pub direction : 0 < s.rank → s.four.write ≤ 1

pub holds_fits : {t : List Slot} {l : List Four} → Holds t l → (i : ℕ) → i < length t → Fits (get_or t i free_slot) l
holds_fits hold i h =
    record {
      within = hold.within i h;
      placed = λ w. hold.placed i (h, w);
      plain = λ w. hold.plain i (h, w);
      direction = λ w. hold.direction i (h, w);
    }

fits_holds : (t : List Slot) (l : List Four) → waiting t ≡ length l → ((k : ℕ) → 0 < k → k ≤ length l → tally k t ≡ 1)
    → ((i : ℕ) → i < length t → Fits (get_or t i free_slot) l) → Holds t l
fits_holds t l many once fits =
    record {
      many = many;
      once = once;
      within = λ i h. (fits i h).within;
      placed = λ i w. (fits i w.0).placed w.1;
      plain = λ i w. (fits i w.0).plain w.1;
      direction = λ i w. (fits i w.0).direction w.1;
    }

-- ---- a request is taken
module _ (t : List Slot) (l : List Four) (hold : Holds t l) (i : ℕ) (four : Four) (inside : i < length t) (free : rank_at t i ≡ 0)
    (plain : four.route < 2 ^ 63) (direction : four.write ≤ 1) where
  abbrev longer : List Four
  longer = l ++ (four ∷ [])

  long : length longer ≡ length l + 1
  long = length-append l (four ∷ [])

  -- the newcomer is the youngest
  rank_is : waiting t + 1 ≡ length l + 1
  rank_is = let m = hold.many in omega arith

  newcomer_fits : Fits (newcomer t four) longer
  newcomer_fits =
      let m = rank_is in let n = long in
      record {
        within = omega arith;
        placed = λ w. sym (get_or_at l four [] free_slot.four (waiting t + 1 - 1) (omega arith));
        plain = λ w. plain;
        direction = λ w. direction;
      }

  -- who waited before keeps the place
  kept_fits : (s : Slot) → Fits s l → Fits s longer
  kept_fits s f =
      let n = long in let v = f.within in
      record {
        within = omega arith;
        placed = λ w. f.placed w ∙ sym (get_or-append l (four ∷ []) free_slot.four (s.rank - 1) (omega arith));
        plain = f.plain;
        direction = f.direction;
      }

  taken_fits : (j : ℕ) → j < length t → Fits (get_or (set t i (newcomer t four)) j free_slot) longer
  taken_fits j h = by_place (eqb j i) refl
    where
      by_place : (b : Bool) → eqb j i ≡ b → Fits (get_or (set t i (newcomer t four)) j free_slot) longer
      by_place true e = let q = eqb-true j i e in rw (q, get_or-set_same t i (newcomer t four) free_slot inside) newcomer_fits
      by_place false e =
          rw (get_or-set_other t i j (newcomer t four) free_slot (eqb-false j i e)) (kept_fits (get_or t j free_slot) (holds_fits hold j h))

  taken_once : (k : ℕ) → 0 < k → k ≤ length l + 1 → tally k (set t i (newcomer t four)) ≡ 1
  taken_once k w h = tally_take (newcomer t four) k w t i inside free ∙ by_rank (eqb (waiting t + 1) k) refl
    where
      by_rank : (b : Bool) → eqb (waiting t + 1) k ≡ b → tally k t + cond b 1 0 ≡ 1
      by_rank true e =
          let q = eqb-true (waiting t + 1) k e in let m = rank_is in
          let z = tally_none k t (λ j g p. let v = hold.within j g in omega arith) in omega arith
      by_rank false e =
          let q = eqb-false (waiting t + 1) k e in let o = hold.once k w (below (ltb (length l) k) refl q) in omega arith
        where
          below : (b : Bool) → ltb (length l) k ≡ b → (waiting t + 1 ≡ k → ⊥) → k ≤ length l
          below true f n = let g = ltb-true (length l) k f in let m = rank_is in absurd (n (omega arith))
          below false f n = ltb-false (length l) k f

  pub holds_take : Holds (set t i (newcomer t four)) longer
  holds_take =
      let m = waiting_take (newcomer t four) (omega arith) t i inside free in let n = rank_is in let o = long in
      fits_holds (set t i (newcomer t four)) longer (omega arith) (λ k w h. taken_once k w (omega arith))
      (λ j h. taken_fits j (let q = length-set t i (newcomer t four) in omega arith))

-- ---- a rank is freed
zero_stays : (r : ℕ) → lower_of r 0 ≡ 0
unfolding lower_of
zero_stays r = by (eqb r 0) (eqb 0 r) (ltb r 0)
  where
    by : (a b c : Bool) → cond a 0 (cond b 0 (cond c (0 - 1) 0)) ≡ 0
    by true b c = refl
    by false true c = refl
    by false false true = refl
    by false false false = refl

-- the slot at a place, wherever it is
pub freed_at : (r : ℕ) (t : List Slot) (j : ℕ) → get_or (freed r t) j free_slot ≡ lowered_of r (get_or t j free_slot)
freed_at r t j =
    let e : free_slot ≡ lowered_of r free_slot = ap (λ (k : ℕ). record { four = free_slot.four; rank = k }) (sym (zero_stays r)) in
    ap (get_or (freed r t) j) e ∙ get_or-map (lowered_of r) t j free_slot

module _ (t : List Slot) (l : List Four) (hold : Holds t l) (r : ℕ) (some : 0 < r) (most : r ≤ length l) where
  abbrev shorter : List Four
  shorter = take (r - 1) l ++ drop r l

  front : length (take (r - 1) l) ≡ r - 1
  front = length-take-le (r - 1) l (omega arith)

  short : length shorter + 1 ≡ length l
  short = let e = length-append (take (r - 1) l) (drop r l) in let g = front in let h = length-drop r l in omega arith

  lowered_fits : (s : Slot) (y : ℕ) → Fits s l → Lowered r s.rank y → Fits (record { four = s.four; rank = y }) shorter
  lowered_fits s y f (this a b) =
      record {
        within = omega arith;
        placed = λ w. absurd (omega arith);
        plain = λ w. absurd (omega arith);
        direction = λ w. absurd (omega arith);
      }
  lowered_fits s y f (later a b) =
      let n = short in let p = front in let v = f.within in
      let c : y - 1 ≡ length (take (r - 1) l) + (y - r) = omega arith in let d : s.rank - 1 ≡ r + (y - r) = omega arith in
      record {
        within = omega arith;
        placed = λ w. f.placed (omega arith) ∙ ap (request_at l) d
            ∙ sym (ap (request_at shorter) c ∙ get_or-append-add (take (r - 1) l) (drop r l) (y - r) free_slot.four ∙ get_or-drop r l (y - r) free_slot.four);
        plain = λ w. f.plain (omega arith);
        direction = λ w. f.direction (omega arith);
      }
  lowered_fits s y f (earlier a b) =
      let n = short in let p = front in let v = f.within in let d : s.rank - 1 ≡ y - 1 = omega arith in
      record {
        within = omega arith;
        placed = λ w. f.placed (omega arith) ∙ ap (request_at l) d
            ∙ sym (get_or-append (take (r - 1) l) (drop r l) free_slot.four (y - 1) (omega arith) ∙ get_or-take (r - 1) l (y - 1) free_slot.four (omega arith));
        plain = λ w. f.plain (omega arith);
        direction = λ w. f.direction (omega arith);
      }

  freed_once : (k : ℕ) → 0 < k → k ≤ length shorter → tally k (freed r t) ≡ 1
  freed_once k w h = by_rank (ltb k r) refl
    where
      by_rank : (b : Bool) → ltb k r ≡ b → tally k (freed r t) ≡ 1
      by_rank true e = let g = ltb-true k r e in let n = short in tally_earlier r k some w g t ∙ hold.once k w (omega arith)
      by_rank false e = let g = ltb-false k r e in let n = short in tally_later r k some g t ∙ hold.once (suc k) (omega arith) (omega arith)

  pub holds_free : Holds (freed r t) shorter
  holds_free =
      let a = waiting_free r some t in let b = hold.once r some most in let c = hold.many in let d = short in
      fits_holds (freed r t) shorter (omega arith) freed_once
      (λ j h. rw (freed_at r t j)
      (lowered_fits (get_or t j free_slot) (lower_of r (rank_at t j)) (holds_fits hold j (let q = length-map t (lowered_of r) in omega arith)) (lowered_is r (rank_at t j) some)))
