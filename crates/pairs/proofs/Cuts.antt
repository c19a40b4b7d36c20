-- Cutting: a comma-space cannot overlap another, so the first one from the left ends the first piece, and what is cut is what the sentence
-- says, in one way. Assumes nothing.
use Prim.Native.Nat.{ℕ, zero, suc, ◌+◌, ◌-◌, ◌≤◌, ◌<◌}
use mathlib.Core.Path.{◌≡◌, refl, sym, ap, ◌∙◌}
use mathlib.Core.Bool.{Bool, true, false, cond, ◌&&◌}
use mathlib.Core.List.{List, [], ◌∷◌, ◌++◌}
use native.Mathlib.Omega.{arith}
use lib.Dec.{eqb}
use lib.ListN.{length, get_or, drop, length-drop, take-append-drop}
use lib.Seq.{take_all, get_or-drop, get_or-take, length-take-le, drop-cons, drop-drop}
use borrow.Author.Tests.{eq-eqb, ne_eqb, eqb-true}
use Rattle.text.proofs.Places.{clash, stands_within, Stops, first_stops, first_end, first_hit, first_miss}
use Rattle.text.proofs.Texts.{both_left, both_right}
use Rattle.pairs.specs.Pair.{part}
use Rattle.pairs.specs.Data.{Whole, Cut, ahead, cut, comma_space, piece_end, EndsPiece}

-- a byte in front of a piece
whole_ahead : (a : ℕ) (p : List ℕ) → Whole p → (a ≡ 44 → get_or p 0 0 ≡ 32 → ⊥) → Whole (a ∷ p)
whole_ahead a p w n zero x y = n x y
whole_ahead a p w n (suc k) x y = let e : suc k + 1 ≡ suc (k + 1) = omega arith in w k x (rw e at y)

-- a piece without its first byte
whole_behind : (a : ℕ) (p : List ℕ) → Whole (a ∷ p) → Whole p
whole_behind a p w k x y = let e : suc k + 1 ≡ suc (k + 1) = omega arith in w (suc k) x (rw e y)

empty_whole : Whole []
empty_whole k x y = omega arith

-- two bytes that are no comma-space, by the test
no_comma_space : (a b : ℕ) → (a ≡ 44 → b ≡ 32 → ⊥) → (eqb a 44 && eqb b 32) ≡ false
no_comma_space a b n = go (eqb a 44) refl
  where
    go : (x : Bool) → eqb a 44 ≡ x → (x && eqb b 32) ≡ false
    go false t = refl
    go true t = ne_eqb b 32 (λ e. n (eqb-true a 44 t) e)

-- the steps of a cutting
cut_step : (a b : ℕ) (l : List ℕ) → cut (a ∷ b ∷ l) ≡ cond (eqb a 44 && eqb b 32) ([] ∷ cut l) (ahead a (cut (b ∷ l)))
unfolding cut
cut_step a b l = refl

cut_on : (a b : ℕ) (l : List ℕ) → (a ≡ 44 → b ≡ 32 → ⊥) → cut (a ∷ b ∷ l) ≡ ahead a (cut (b ∷ l))
cut_on a b l n = cut_step a b l ∙ rw (no_comma_space a b n)

cut_here : (l : List ℕ) → cut (44 ∷ 32 ∷ l) ≡ [] ∷ cut l
cut_here l = cut_step 44 32 l

-- a whole text is one piece, and a whole piece before a comma-space is the first
cut_whole : (l : List ℕ) → Whole l → cut l ≡ l ∷ []
unfolding cut ahead
cut_whole [] w = refl
cut_whole (a ∷ []) w = refl
cut_whole (a ∷ b ∷ l) w = cut_on a b l (λ x y. w 0 x y) ∙ ap (ahead a) (cut_whole (b ∷ l) (whole_behind a (b ∷ l) w))

cut_more : (p r : List ℕ) → Whole p → cut (p ++ (44 ∷ 32 ∷ r)) ≡ p ∷ cut r
unfolding ahead
cut_more [] r w = cut_here r
cut_more (a ∷ []) r w = cut_on a 44 (32 ∷ r) (λ x y. omega arith) ∙ ap (ahead a) (cut_here r)
cut_more (a ∷ b ∷ p) r w =
    cut_on a b (p ++ (44 ∷ 32 ∷ r)) (λ x y. w 0 x y) ∙ ap (ahead a) (cut_more (b ∷ p) r (whole_behind a (b ∷ p) w))

pub cut_all : {l : List ℕ} {ps : List (List ℕ)} → Cut l ps → cut l ≡ ps
cut_all (Cut.last {l = l} w) = cut_whole l w
cut_all (Cut.more {p = p} {r = r} {ps = ps} w e c) = ap cut e ∙ cut_more p r w ∙ ap (λ (x : List (List ℕ)). p ∷ x) (cut_all c)

-- a byte in front of a text that is cut
ahead_is : (a : ℕ) {l : List ℕ} {ps : List (List ℕ)} → (a ≡ 44 → get_or l 0 0 ≡ 32 → ⊥) → Cut l ps → Cut (a ∷ l) (ahead a ps)
unfolding ahead
ahead_is a {l} n (Cut.last w) = Cut.last (whole_ahead a l w n)
ahead_is a {l} n (Cut.more {p = p} {r = r} w e c) = Cut.more (whole_ahead a p w (starts p e)) (ap (λ (x : List ℕ). a ∷ x) e) c
  where
    starts : (q : List ℕ) → l ≡ q ++ (44 ∷ 32 ∷ r) → a ≡ 44 → get_or q 0 0 ≡ 32 → ⊥
    starts [] h x y = omega arith
    starts (b ∷ q) h x y = n x (rw h y)

pub cut_is : (l : List ℕ) → Cut l (cut l)
unfolding cut
cut_is [] = Cut.last empty_whole
cut_is (a ∷ []) = Cut.last (whole_ahead a [] empty_whole (λ x y. omega arith))
cut_is (a ∷ b ∷ l) = go (eqb a 44 && eqb b 32) refl (cut_is l) (cut_is (b ∷ l))
  where
    go : (t : Bool) → (eqb a 44 && eqb b 32) ≡ t → Cut l (cut l) → Cut (b ∷ l) (cut (b ∷ l)) →
        Cut (a ∷ b ∷ l) (cond t ([] ∷ cut l) (ahead a (cut (b ∷ l))))
    go true t c d =
        let x : a ≡ 44 = eqb-true a 44 (both_left _ _ t) in
        let y : b ≡ 32 = eqb-true b 32 (both_right (eqb a 44) _ t) in
        let here : a ∷ b ∷ l ≡ 44 ∷ 32 ∷ l = rw (x, y) in
        Cut.more {p = []} {r = l} empty_whole here c
    go false t c d =
        ahead_is a
        (λ x y. let z : b ≡ 32 = y in clash {b = eqb a 44 && eqb b 32} (rw (eq-eqb a 44 x, eq-eqb b 32 z) refl) t) d

pub one_cut : {l : List ℕ} {ps qs : List (List ℕ)} → Cut l ps → Cut l qs → ps ≡ qs
one_cut a b = sym (cut_all a) ∙ cut_all b

module _ (l : List ℕ) where
  -- a comma-space by its two bytes
  pub comma_space_none : (k : ℕ) → (get_or l k 0 ≡ 44 → ⊥) → comma_space l k ≡ false
  unfolding comma_space
  comma_space_none k n = rw (ne_eqb _ _ n)

  pub comma_space_by : (k : ℕ) → get_or l k 0 ≡ 44 → comma_space l k ≡ eqb (get_or l (k + 1) 0) 32
  unfolding comma_space
  comma_space_by k e = rw (eq-eqb _ _ e)

  comma_stands : (k : ℕ) → comma_space l k ≡ true → get_or l k 0 ≡ 44
  unfolding comma_space
  comma_stands k t = eqb-true _ _ (both_left _ _ t)

  space_stands : (k : ℕ) → comma_space l k ≡ true → get_or l (k + 1) 0 ≡ 32
  unfolding comma_space
  space_stands k t = eqb-true _ _ (both_right (eqb (get_or l k 0) 44) _ t)

  -- the three ways of a walk to a piece's end
  pub piece_over : {k : ℕ} → length l ≤ k → piece_end l k ≡ k
  unfolding piece_end
  piece_over h = first_end (comma_space l) h

  pub piece_stop : {k : ℕ} → k < length l → comma_space l k ≡ true → piece_end l k ≡ k
  unfolding piece_end
  piece_stop h t = first_hit (comma_space l) h t

  pub piece_step : {k : ℕ} → k < length l → comma_space l k ≡ false → piece_end l k ≡ piece_end l (k + 1)
  unfolding piece_end
  piece_step h t = first_miss (comma_space l) h t

  module _ {from e : ℕ} (low : from ≤ length l) (e-is : e ≡ piece_end l from) where
    stops : Stops (comma_space l) from (length l) e
    unfolding piece_end
    stops = rw e-is (first_stops (comma_space l) low)

    pub ends_piece : EndsPiece l from e
    ends_piece =
        record {
          is = e-is;
          up = stops.from;
          within = stops.within;
          more =
              λ h. let y : get_or l (e + 1) 0 ≡ 32 = space_stands e (stops.here h) in omega
              (arith, stands_within l (e + 1) (λ z. absurd (omega arith)));
        }

    part_length : length (part l from e) ≡ e - from
    part_length =
        let r : length (drop from l) ≡ length l - from = length-drop from l in
        length-take-le (e - from) (drop from l) (omega (arith, stops.within))

    part_at : (k : ℕ) → k < e - from → get_or (part l from e) k 0 ≡ get_or l (from + k) 0
    part_at k h = get_or-take (e - from) (drop from l) k 0 h ∙ get_or-drop from l k 0

    piece_whole : Whole (part l from e)
    unfolding comma_space
    piece_whole k x y =
        let in-part : k + 1 < length (part l from e) = stands_within (part l from e) (k + 1) (λ z. absurd (omega arith)) in
        let near : k + 1 < e - from = omega (arith, part_length) in
        let n : from + (k + 1) ≡ from + k + 1 = omega arith in
        let a : get_or l (from + k) 0 ≡ 44 = sym (part_at k (omega arith)) ∙ x in
        let b : get_or l (from + k + 1) 0 ≡ 32 = ap (λ (j : ℕ). get_or l j 0) (sym n) ∙ sym (part_at (k + 1) near) ∙ y in
        clash {b = comma_space l (from + k)} (rw (eq-eqb _ _ a, eq-eqb _ _ b) refl)
        (stops.before (from + k) (omega arith) (omega arith))

    -- the pieces as a walk meets them
    pub cut_last : e ≡ length l → cut (drop from l) ≡ part l from e ∷ []
    cut_last h =
        let r : length (drop from l) ≡ length l - from = length-drop from l in
        let all : part l from e ≡ drop from l = take_all (e - from) (drop from l) (omega arith) in
        let whole : Whole (drop from l) = rw all at piece_whole in
        rw all (cut_all (Cut.last {l = drop from l} whole))

    pub cut_next : e < length l → cut (drop from l) ≡ part l from e ∷ cut (drop (e + 2) l)
    cut_next h = cut_all (Cut.more piece_whole split (cut_is (drop (e + 2) l)))
      where
        comma : get_or l e 0 ≡ 44
        comma = comma_stands e (stops.here h)

        space : get_or l (e + 1) 0 ≡ 32
        space = space_stands e (stops.here h)

        behind : drop e l ≡ 44 ∷ 32 ∷ drop (e + 2) l
        behind =
            let next : e + 1 < length l = stands_within l (e + 1) (λ z. absurd (omega (arith, space))) in
            let a : suc e ≡ e + 1 = omega arith in
            let b : suc (e + 1) ≡ e + 2 = omega arith in
            drop-cons l e 0 h
            ∙ rw (comma, a) (ap (λ (t : List ℕ). 44 ∷ t) (drop-cons l (e + 1) 0 next ∙ rw (space, b) refl))

        split : drop from l ≡ part l from e ++ (44 ∷ 32 ∷ drop (e + 2) l)
        split =
            let n : from + (e - from) ≡ e = omega (arith, stops.from) in
            sym (take-append-drop (e - from) (drop from l))
            ∙ ap (λ (t : List ℕ). part l from e ++ t) (drop-drop (e - from) from l ∙ ap (λ (j : ℕ). drop j l) n ∙ behind)
